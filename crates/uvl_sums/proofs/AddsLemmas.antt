-- What is held beside the live handles of before, over several calls, and why a refusal inside is one of the whole.
use Rattle.std.proofs.Common.{◌≡◌, ◌⊎◌, ℕ, ◌+◌, ◌<◌, ◌≤◌, List, [], ◌∷◌, ◌++◌, length, get_or, slice_index, ap, sym, ◌∙◌, subst, inl, inr, arith, append-nil, append_assoc, length-append}
use Rattle.std.specs.List.{All, Contains}
use Rattle.std.proofs.lemmas.Bool.{cases_lt, cases_eq}
use Rattle.std.proofs.lemmas.List.{get_or_append_left, get_or_push, get_or_read, length_push}
use Rattle.std.proofs.lemmas.List.Elements.{All-nil, All-cons, All-head, All-tail, All-append, All-weaker}
use Rattle.dd_store.specs.declared.refusal.Refusal.{Refusal}
use Rattle.dd_store.specs.declared.refusal.Refusal.TheVariants.{OverBudget, OutOfMemory}
use Rattle.dd_store.specs.declared.row.Var.{Var}
use Rattle.dd_store.specs.Changes.{Keeps}
use Rattle.dd_store.specs.Exhausted.{value_at, IsPartialResult}
use Rattle.dd_store.specs.Handles.{GainsHandle, KeepsHandles, count_on}
use Rattle.dd_store.specs.Size.{Function, cofactors}
use Rattle.dd_store.specs.Table.{Table, handles_on, IsLive}
use Rattle.dd_store.proofs.ChangeLemmas.{keeps_then}
use Rattle.dd_store.proofs.CofactorLemmas.{own-cofactor, cofactors-compose}
use Rattle.dd_store.proofs.CountLemmas.{live_more, one_on-itself}
use Rattle.dd_store.proofs.HandleLemmas.{one_on-other}
use Rattle.dd_store.proofs.StayLemmas.{value-kept}
use Rattle.dd_apply.specs.Held.{IsWithin, IsCauseWithin}
use Rattle.dd_count.specs.States.{AreHeld}
use Rattle.dd_count.proofs.StatesLemmas.{held-live}
use Rattle.uvl_sums.specs.Parts.{Adds, HasValueAt}

count_on-append : (xs ys : List ℕ) (n : ℕ) → count_on (xs ++ ys) n ≡ count_on xs n + count_on ys n
count_on-append [] ys n = omega arith
count_on-append (x ∷ xs) ys n = let rest = count_on-append xs ys n in omega arith

-- what holds of all handles of a list holds of one that stands in it
counted : (P : ℕ → Type 0) (ns : List ℕ) (n : ℕ) → All P ns → 0 < count_on ns n → P n
counted P [] n all some = absurd (omega arith)
counted P (m ∷ ms) n all some = elim (cases_eq n m) [
  | inl same ↦ subst P (sym same) (All-head P m ms all)
  | inr other ↦ let none = one_on-other m n other in counted P ms n (All-tail P m ms all) (omega arith)
]

-- what is read at a place
pub place-read : (held held' : List ℕ) (place n : ℕ) → held' ≡ held → place < length held → n ≡ get_or held' place n → n ≡ slice_index held place
place-read held held' place n same inside is = get_or_read held place n inside (is ∙ ap (λ (hs : List ℕ). get_or hs place n) same) 0

-- nothing is added
pub adds-none : (t u : Table) (held held' : List ℕ) (f : Function) (most : ℕ) → Keeps t u → KeepsHandles t u → held' ≡ held → 0 < most
    → Adds t held u held' f most
adds-none t u held held' f most keeps same is some = record {
  keeps = keeps;
  more = [];
  is = is ∙ sym (append-nil held);
  handles = record { each = λ n. let each = same.each n in omega arith; total = let total = same.total in omega arith };
  few = some;
  parts = All-nil (IsPartialResult u f);
}

-- the value itself is added
pub adds-one : (t u : Table) (held held' : List ℕ) (f : Function) (h : ℕ) → Keeps t u → GainsHandle t u h → held' ≡ held ++ h ∷ [] → value_at u h ≡ f
    → Adds t held u held' f 2
adds-one t u held held' f h keeps gain is value = record {
  keeps = keeps;
  more = h ∷ [];
  is = is;
  handles = record { each = λ n. let each = gain.each n in omega arith; total = let total = gain.total in omega arith };
  few = omega arith;
  parts = All-cons (IsPartialResult u f) h [] (subst (λ (g : Function). Contains (cofactors u.order f) g) (sym value) (own-cofactor u.order f)) (All-nil (IsPartialResult u f));
}

-- it stands last
pub value-last : (u : Table) (held held' : List ℕ) (f : Function) (h place : ℕ) → held' ≡ held ++ h ∷ [] → place ≡ length held → value_at u h ≡ f
    → HasValueAt u held' place f
value-last u held held' f h place is last value = record {
  there = let size = ap length is ∙ length_push held h in omega arith;
  value = ap (λ (hs : List ℕ). value_at u (slice_index hs place)) is ∙ ap (value_at u) (get_or_push held h 0 place (sym last)) ∙ value;
}

-- What is added from t to u is added to what f asks for.
module _ (t u : Table) (H H' : List ℕ) (g : Function) (m : ℕ) (one : Adds t H u H' g m) where
  pub adds-live : (n : ℕ) → IsLive t n → IsLive u n
  adds-live n live = live_more one.handles n live

  -- what was held stays
  pub held-stays : AreHeld t H → AreHeld u H'
  held-stays held n =
      let before = held n in
      let each = one.handles.each n in
      let all : count_on H' n ≡ count_on H n + count_on one.more n = ap (λ (hs : List ℕ). count_on hs n) one.is ∙ count_on-append H one.more n in
      omega arith

  pub value-stays : (place : ℕ) (f : Function) → AreHeld t H → HasValueAt t H place f → HasValueAt u H' place f
  value-stays place f held has =
      let live = held-live t H place held has.there in
      record {
        there = let size = ap length one.is ∙ length-append H one.more in let there = has.there in omega arith;
        value = ap (λ (hs : List ℕ). value_at u (slice_index hs place)) one.is ∙ ap (value_at u) (get_or_append_left H one.more 0 place has.there)
            ∙ value-kept t u one.keeps (slice_index H place) live (adds-live (slice_index H place) live) ∙ has.value;
      }

  module _ (f : Function) (of : Contains (cofactors t.order f) g) where
    part-of : (n : ℕ) → IsPartialResult u g n → IsPartialResult u f n
    part-of n is =
        cofactors-compose u.order f g (value_at u n) (subst (λ (vs : List Var). Contains (cofactors vs f) g) (sym one.keeps.order) of) is

    pub adds-as : (most : ℕ) → m ≤ most → Adds t H u H' f most
    adds-as most few = record {
      keeps = one.keeps;
      more = one.more;
      is = one.is;
      handles = one.handles;
      few = let less = one.few in omega arith;
      parts = All-weaker (IsPartialResult u g) (IsPartialResult u f) part-of one.more one.parts;
    }

    -- a call within which f is asked for holds it
    within-more : (old : Table) (asked : Function) → IsWithin old t asked → Contains (cofactors old.order asked) f → IsWithin old u asked
    within-more old asked within is = record {
      keeps = keeps_then within.keeps one.keeps (λ n first last. within.stay n first);
      stay = λ n live. adds-live n (within.stay n live);
      held = held';
    }
      where
        order : u.order ≡ old.order
        order = one.keeps.order ∙ within.keeps.order

        held' : (n : ℕ) → IsLive u n → IsLive old n ⊎ IsPartialResult u asked n
        held' n live = elim (cases_lt 0 (handles_on t n)) [
          | inl was ↦ elim (within.held n was) [
            | inl first ↦ inl first
            | inr part ↦ inr (subst (λ (vs : List Var). Contains (cofactors vs asked) (value_at u n)) (sym one.keeps.order)
                (subst (λ (h : Function). Contains (cofactors t.order asked) h) (sym (value-kept t u one.keeps n was live)) part))
          ]
          | inr none ↦ inr (cofactors-compose u.order asked f (value_at u n) (subst (λ (vs : List Var). Contains (cofactors vs asked) f) (sym order) is)
              (part-of n (counted (IsPartialResult u g) one.more n one.parts (let each = one.handles.each n in omega arith))))
        ]

    -- a refusal behind it
    pub cause-then : (w : Table) (h : Function) (k most : ℕ) (r : Refusal) → Contains (cofactors t.order f) h → m + k ≤ most + 1
        → IsCauseWithin u w h k r → IsCauseWithin t w f most r
    cause-then w h k most (OverBudget nodes roots) of' few cause = λ old asked bound within is fewer.
        cause old asked bound (within-more old asked within is)
        (cofactors-compose old.order asked f h is (subst (λ (vs : List Var). Contains (cofactors vs f) h) within.keeps.order of'))
        (let total = one.handles.total in let less = one.few in omega arith)
    cause-then w h k most OutOfMemory of' few cause = tt

    -- what is added behind it
    module _ (w : Table) (H'' : List ℕ) (h : Function) (k : ℕ) (two : Adds u H' w H'' h k) (of' : Contains (cofactors t.order f) h) where
      all-keep : Keeps t w
      all-keep = keeps_then one.keeps two.keeps (λ n first last. adds-live n first)

      moved-one : (n : ℕ) → IsLive u n → IsPartialResult u g n → IsPartialResult w f n
      moved-one n live is =
          subst (λ (vs : List Var). Contains (cofactors vs f) (value_at w n)) (sym two.keeps.order)
          (subst (λ (e : Function). Contains (cofactors u.order f) e) (sym (value-kept u w two.keeps n live (live_more two.handles n live))) (part-of n is))

      moved : (ns : List ℕ) → ((n : ℕ) → 0 < count_on ns n → IsLive u n) → All (IsPartialResult u g) ns → All (IsPartialResult w f) ns
      moved [] live all = All-nil (IsPartialResult w f)
      moved (n ∷ ns) live all =
          All-cons (IsPartialResult w f) n ns
          (moved-one n (live n (let own = one_on-itself n in omega arith)) (All-head (IsPartialResult u g) n ns all))
          (moved ns (λ j some. live j (omega arith)) (All-tail (IsPartialResult u g) n ns all))

      part-then : (n : ℕ) → IsPartialResult w h n → IsPartialResult w f n
      part-then n is =
          cofactors-compose w.order f h (value_at w n) (subst (λ (vs : List Var). Contains (cofactors vs f) h) (sym all-keep.order) of') is

      pub adds-then : (most : ℕ) → m + k ≤ most + 1 → Adds t H w H'' f most
      adds-then most few = record {
        keeps = all-keep;
        more = one.more ++ two.more;
        is = two.is ∙ ap (λ (hs : List ℕ). hs ++ two.more) one.is ∙ append_assoc H one.more two.more;
        handles = record {
          each = λ n.
              let first = one.handles.each n in let second = two.handles.each n in let counts = count_on-append one.more two.more n in omega arith;
          total =
              let first = one.handles.total in let second = two.handles.total in let size = length-append one.more two.more in omega arith;
        };
        few = let first = one.few in let second = two.few in let size = length-append one.more two.more in omega arith;
        parts =
            All-append (IsPartialResult w f) one.more two.more
            (moved one.more (λ n some. let each = one.handles.each n in omega arith) one.parts)
            (All-weaker (IsPartialResult w h) (IsPartialResult w f) part-then two.more two.parts);
      }
