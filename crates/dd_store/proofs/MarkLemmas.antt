-- Marks that spread down from the live handles.
use Rattle.std.proofs.Common.{◌≡◌, ◌⊎◌, ℕ, suc, ◌+◌, ◌<◌, ◌==◌, nat_eq, Bool, true, false, cond, if◌then◌else◌, List, [], ◌∷◌, length, Option, Some, get_or, refl, ap, sym, ◌∙◌, subst, inl, inr, arith}
use Rattle.std.specs.List.{Contains}
use Rattle.std.proofs.lemmas.Bool.{cases_eq, eqb-true, true≢false}
use Rattle.std.proofs.lemmas.Bool.Decides.{nat_tests}
use Rattle.dd_store.specs.declared.row.Row.{Row}
use Rattle.dd_store.specs.declared.row.Var.{Var}
use Rattle.dd_store.specs.Order.{level_in, level_of_row, IsIn}
use Rattle.dd_store.specs.Follow.{end_of, step}
use Rattle.dd_store.specs.Reached.{reached}
use Rattle.dd_store.specs.Marks.{IsDone, HasDoneEnds, Spreads, MarksBelow}
use Rattle.dd_store.specs.Table.{AreReduced}
use Rattle.dd_store.proofs.FollowLemmas.{step-stays, level-stays}
use Rattle.dd_store.proofs.SizeLemmas.{In, in_from, contains_from, in_left, in_right, in_parts}

-- a number reaches itself
pub reached-itself : (vs : List Var) (rows : ℕ → Option Row) (n : ℕ) → In n (reached vs rows n)
reached-itself [] rows n = inl refl
reached-itself (v ∷ vs) rows n = inl refl

-- what is reached past the first variable is reached
past : (v : Var) (vs : List Var) (rows : ℕ → Option Row) (n m : ℕ) (b : Bool) → In m (reached vs rows (step (rows n) v.0 n b)) → In m (reached (v ∷ vs) rows n)
past v vs rows n m false is = inr (in_left m (reached vs rows (step (rows n) v.0 n false)) (reached vs rows (step (rows n) v.0 n true)) is)
past v vs rows n m true is = inr (in_right m (reached vs rows (step (rows n) v.0 n false)) (reached vs rows (step (rows n) v.0 n true)) is)

-- from a number that stands below the first variable the same is reached past it
lower-reached : (v : Var) (vs : List Var) (rows : ℕ → Option Row) (n m : ℕ) → 0 < level_of_row (v ∷ vs) (rows n) → In m (reached (v ∷ vs) rows n) → In m (reached vs rows n)
lower-reached v vs rows n m lower (inl is) = subst (λ (k : ℕ). In k (reached vs rows n)) is (reached-itself vs rows n)
lower-reached v vs rows n m lower (inr is) =
    let stays : (b : Bool) → step (rows n) v.0 n b ≡ n = λ b. step-stays v vs (rows n) n b lower in
    elim (in_parts m (reached vs rows (step (rows n) v.0 n false)) (reached vs rows (step (rows n) v.0 n true)) is) [
      | inl low ↦ subst (λ (k : ℕ). In m (reached vs rows k)) (stays false) low
      | inr high ↦ subst (λ (k : ℕ). In m (reached vs rows k)) (stays true) high
    ]

-- what an end reaches its node reaches
pub reached-end : (vs : List Var) (rows : ℕ → Option Row) (n m : ℕ) (r : Row) (b : Bool) → rows n ≡ Some r → IsIn vs r.var.0
    → level_in vs r.var.0 < level_of_row vs (rows (end_of r b)) → In m (reached vs rows (end_of r b)) → In m (reached vs rows n)
reached-end [] rows n m r b is inside below h = absurd (omega arith)
reached-end (v ∷ vs) rows n m r b is inside below h =
    let lower : 0 < level_of_row (v ∷ vs) (rows (end_of r b)) = omega arith in
    let level : level_of_row (v ∷ vs) (rows (end_of r b)) ≡ suc (level_of_row vs (rows (end_of r b))) = level-stays v vs (rows (end_of r b)) lower in
    let inner = lower-reached v vs rows (end_of r b) m lower h in
    past v vs rows n m b (subst (λ (o : Option Row). In m (reached vs rows (step o v.0 n b))) (sym is)
    (by (v.0 == r.var.0) refl (rw level at below) inside inner (reached-end vs rows n m r b is)))
  where
    by : (t : Bool) → (v.0 == r.var.0) ≡ t → cond t 0 (suc (level_in vs r.var.0)) < suc (level_of_row vs (rows (end_of r b)))
        → cond t 0 (suc (level_in vs r.var.0)) < suc (length vs) → In m (reached vs rows (end_of r b))
        → (IsIn vs r.var.0 → level_in vs r.var.0 < level_of_row vs (rows (end_of r b)) → In m (reached vs rows (end_of r b)) → In m (reached vs rows n))
        → In m (reached vs rows (cond t (end_of r b) n))
    by true e below inside inner rest = inner
    by false e below inside inner rest = rest (omega arith) (omega arith) inner

-- what is done stays so
done-stays : (rows : ℕ → Option Row) (old new : ℕ → Bool) → ((m : ℕ) → old m ≡ true → new m ≡ true) → (n : ℕ) → IsDone rows old n → IsDone rows new n
done-stays rows old new stays n done some = stays n (done some)

ends-stay : (rows : ℕ → Option Row) (old new : ℕ → Bool) → ((m : ℕ) → old m ≡ true → new m ≡ true) → (n : ℕ) → HasDoneEnds rows old n → HasDoneEnds rows new n
ends-stay rows old new stays n ends r b is = done-stays rows old new stays (end_of r b) (ends r b is)

-- nothing more is marked where the number is done
pub spreads-none : (order : List Var) (rows : ℕ → Option Row) (marks : ℕ → Bool) (n : ℕ) → IsDone rows marks n → Spreads order rows marks marks n
spreads-none order rows marks n done = record { stays = λ m is. is; ends = λ m is. inl is; reached = λ m is. inl is; done = done }

-- a node is marked, and then what its ends reach
pub spreads-node : (order : List Var) (rows : ℕ → Option Row) (old mid one two : ℕ → Bool) (n : ℕ) (r : Row) → AreReduced order rows → rows n ≡ Some r
    → ((m : ℕ) → mid m ≡ (if nat_eq m n then true else old m)) → Spreads order rows mid one r.low.0 → Spreads order rows one two r.high.0
    → Spreads order rows old two n
spreads-node order rows old mid one two n r reduced is marked low high = record {
  stays = λ m before. stays' m (kept m before);
  ends = ends';
  reached = reached';
  done = λ some. stays' n here;
}
  where
    here : mid n ≡ true
    here = marked n ∙ ap (λ (b : Bool). if b then true else old n) (same (nat_eq n n) refl)
      where
        same : (b : Bool) → nat_eq n n ≡ b → nat_eq n n ≡ true
        same true e = e
        same false e = absurd (grind (arith, nat_tests))

    kept : (m : ℕ) → old m ≡ true → mid m ≡ true
    kept m before = marked m ∙ by (nat_eq m n)
      where
        by : (b : Bool) → (if b then true else old m) ≡ true
        by true = refl
        by false = before

    fresh : (m : ℕ) → mid m ≡ true → (m ≡ n) ⊎ (old m ≡ true)
    fresh m is' = by (nat_eq m n) refl (sym (marked m) ∙ is')
      where
        by : (b : Bool) → nat_eq m n ≡ b → (if b then true else old m) ≡ true → (m ≡ n) ⊎ (old m ≡ true)
        by true e h = inl (eqb-true m n e)
        by false e h = inr h

    stays' : (m : ℕ) → mid m ≡ true → two m ≡ true
    stays' m before = high.stays m (low.stays m before)

    own : HasDoneEnds rows two n
    own s b at = by b (subst (λ (q : Row). IsDone rows two q.low.0) row (done-stays rows one two high.stays r.low.0 low.done)) (subst (λ (q : Row). IsDone rows two q.high.0) row high.done)
      where
        row : r ≡ s
        row = (let both : Some r ≡ Some s = sym is ∙ at in cc)

        by : (b : Bool) → IsDone rows two s.low.0 → IsDone rows two s.high.0 → IsDone rows two (end_of s b)
        by true l h = h
        by false l h = l

    ends' : (m : ℕ) → two m ≡ true → (old m ≡ true) ⊎ HasDoneEnds rows two m
    ends' m is' = elim (high.ends m is') [
      | inr new ↦ inr new
      | inl before ↦ elim (low.ends m before) [
        | inr new ↦ inr (ends-stay rows one two high.stays m new)
        | inl first ↦ elim (fresh m first) [
          | inr old' ↦ inl old'
          | inl same ↦ inr (subst (HasDoneEnds rows two) (sym same) own)
        ]
      ]
    ]

    of-end : (m : ℕ) (b : Bool) → Contains (reached order rows (end_of r b)) m → Contains (reached order rows n) m
    of-end m b has =
        contains_from m (reached order rows n)
        (reached-end order rows n m r b is (reduced.tested n r is) (reduced.ends_below n r b is) (in_from m (reached order rows (end_of r b)) has))

    reached' : (m : ℕ) → two m ≡ true → (old m ≡ true) ⊎ Contains (reached order rows n) m
    reached' m is' = elim (high.reached m is') [
      | inr new ↦ inr (of-end m true new)
      | inl before ↦ elim (low.reached m before) [
        | inr new ↦ inr (of-end m false new)
        | inl first ↦ elim (fresh m first) [
          | inr old' ↦ inl old'
          | inl same ↦ inr (subst (λ (k : ℕ). Contains (reached order rows n) k) (sym same) (contains_from n (reached order rows n) (reached-itself order rows n)))
        ]
      ]
    ]

-- at first nothing is marked
pub marks-none : (order : List Var) (rows : ℕ → Option Row) (counts : List ℕ) (marks : ℕ → Bool) → ((n : ℕ) → marks n ≡ false) → MarksBelow order rows counts marks 0
marks-none order rows counts marks none = record {
  ends = λ n is. absurd (true≢false (sym is ∙ none n));
  reached = λ n is. absurd (true≢false (sym is ∙ none n));
  done = λ h below live. absurd (omega arith);
}

-- a number on which no handle stands
pub marks-skip : (order : List Var) (rows : ℕ → Option Row) (counts : List ℕ) (marks : ℕ → Bool) (n : ℕ) → get_or counts n 0 ≡ 0
    → MarksBelow order rows counts marks n → MarksBelow order rows counts marks (n + 1)
marks-skip order rows counts marks n none before = record {
  ends = before.ends;
  reached = before.reached;
  done = λ h below live. elim (cases_eq h n) [
    | inl same ↦ absurd (let live' = subst (λ (k : ℕ). 0 < get_or counts k 0) same live in omega arith)
    | inr other ↦ before.done h (omega arith) live
  ];
}

-- and one on which a handle stands
pub marks-more : (order : List Var) (rows : ℕ → Option Row) (counts : List ℕ) (old new : ℕ → Bool) (n : ℕ) → 0 < get_or counts n 0
    → MarksBelow order rows counts old n → Spreads order rows old new n → MarksBelow order rows counts new (n + 1)
marks-more order rows counts old new n live before spreads = record {
  ends = λ m is. elim (spreads.ends m is) [ inl first ↦ ends-stay rows old new spreads.stays m (before.ends m first) | inr now ↦ now ];
  reached = λ m is. elim (spreads.reached m is) [ inl first ↦ before.reached m first | inr now ↦ (n, live, now) ];
  done = λ h below live'. elim (cases_eq h n) [
    | inl same ↦ subst (IsDone rows new) (sym same) spreads.done
    | inr other ↦ done-stays rows old new spreads.stays h (before.done h (omega arith) live')
  ];
}
