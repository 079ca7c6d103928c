-- The whole of a comparison: what is given back, its value, and why it is refused.
use Rattle.std.proofs.Common.{◌≡◌, ℕ, ◌+◌, ◌*◌, ◌^◌, ◌<◌, ◌≤◌, ℤ, ◌+ℤ◌, Bool, List, [], ◌∷◌, ◌++◌, length, Some, None, Result, Ok, Err, IfOk, IfErr, OnErr, refl, ap, sym, ◌∙◌, subst, inl, arith}
use Rattle.std.specs.Prelude.{FitsSigned}
use Rattle.std.specs.BTreeMap.{BTreeMap, get}
use Rattle.std.proofs.Math.Nat.{pow-le-pow_right}
use Rattle.std.proofs.lemmas.Int.{fits_signed_from_abs}
use mir.Syntax.{w128}
use Rattle.std.proofs.lemmas.List.{length-map}
use Rattle.std.proofs.lemmas.List.Elements.{All-map}
use Rattle.dd_store.specs.declared.refusal.Refusal.{Refusal}
use Rattle.dd_store.specs.declared.refusal.Refusal.TheVariants.{OverBudget, OutOfMemory}
use Rattle.dd_store.specs.declared.row.Var.{Var}
use Rattle.dd_store.specs.Changes.{Keeps, Grows}
use Rattle.dd_store.specs.Exhausted.{value_at}
use Rattle.dd_store.specs.Handles.{GainsHandle, KeepsHandles, HoldsMore, HoldsLess, one_on, count_on}
use Rattle.dd_store.specs.Order.{level_in}
use Rattle.dd_store.specs.Size.{Function}
use Rattle.dd_store.specs.Table.{Table, handles_on, value_of, IsLive, IsSound}
use Rattle.dd_store.proofs.ChangeLemmas.{keeps_then, keeps_all}
use Rattle.dd_store.proofs.CofactorLemmas.{own-cofactor}
use Rattle.dd_store.proofs.CountLemmas.{live_more, one_on-itself, count_on-push, length-push}
use Rattle.dd_apply.specs.Held.{IsWithin, IsCauseWithin}
use Rattle.dd_apply.proofs.RightLemmas.{same-values}
use Rattle.dd_apply.proofs.RoomLemmas.{cause-stay}
use Rattle.dd_count.proofs.CountedLemmas.{falling-few}
use Rattle.dd_count.specs.States.{AreHeld}
use Rattle.uvl_sums.specs.declared.linear.Cmp3.{Cmp3}
use Rattle.uvl_sums.specs.declared.memo.Known.{Known}
use Rattle.uvl_sums.specs.declared.steps.Plan.{Plan}
use Rattle.uvl_sums.specs.declared.steps.Step.{Step}
use Rattle.uvl_sums.specs.Parts.{Adds, AreKnown, key_cmp}
use Rattle.uvl_sums.specs.Steps.{term_of, terms_of, levels_of, remaining, AreSorted, ArePlanned, IsPlanOf, IsSmall}
use Rattle.uvl_sums.specs.Sums.{Term, total, compares, comparison, IsCauseOfSum}

-- a call that begins
begun : (t : Table) (asked : Function) → IsSound t → IsWithin t t asked
begun t asked sound = record { keeps = keeps_all t sound; stay = λ n live. live; held = λ n live. inl live }

-- all that is held can be given back
pub all-live : (old mid : Table) (held : List ℕ) (result : Result ℕ Refusal) → IfOk result (λ h. HoldsMore old mid (held ++ h ∷ [])) → OnErr result (HoldsMore old mid held)
    → (n : ℕ) → count_on held n ≤ handles_on mid n
all-live old mid held (Ok h) gained refused n = let each = gained.each n in let counts = count_on-push held h n in omega arith
all-live old mid held (Err r) gained refused n = let each = refused.each n in omega arith

still-live : (old mid : Table) (held : List ℕ) (result : Result ℕ Refusal) → IfOk result (λ h. HoldsMore old mid (held ++ h ∷ [])) → OnErr result (HoldsMore old mid held)
    → (n : ℕ) → IsLive old n → IsLive mid n
still-live old mid held (Ok h) gained refused n live = live_more gained n live
still-live old mid held (Err r) gained refused n live = live_more refused n live

module _ (old mid new : Table) (held : List ℕ) (less : HoldsLess mid new held) (grows : Grows mid new 0) where
  -- what is left beside
  pub one-left : (result : Result ℕ Refusal) → IfOk result (λ h. HoldsMore old mid (held ++ h ∷ [])) → IfOk result (GainsHandle old new)
  one-left (Err r) gained = tt
  one-left (Ok h) gained =
      let each : (n : ℕ) → handles_on new n ≡ handles_on old n + one_on h n = λ n.
      (let one = gained.each n in let two = less.each n in let counts = count_on-push held h n in omega arith) in
      record {
        gained = each h ∙ ap (λ (k : ℕ). handles_on old h + k) (one_on-itself h);
        each = each;
        total = let one = gained.total in let two = less.total in let size = length-push held h in omega arith;
      }

  pub none-left : (result : Result ℕ Refusal) → OnErr result (HoldsMore old mid held) → OnErr result (KeepsHandles old new)
  none-left (Ok h) refused = tt
  none-left (Err r) refused = record {
    each = λ n. let one = refused.each n in let two = less.each n in omega arith;
    total = let one = refused.total in let two = less.total in omega arith;
  }

  pub all-keeps : (result : Result ℕ Refusal) → IfOk result (λ h. HoldsMore old mid (held ++ h ∷ [])) → OnErr result (HoldsMore old mid held) → Keeps old mid → Keeps old new
  all-keeps result gained refused keeps = keeps_then keeps grows.keeps (λ n first last. still-live old mid held result gained refused n first)

  pub all-value : (f g : Function) (result : Result ℕ Refusal) → f ≡ g → IfOk result (λ h. value_at mid h ≡ f) → IfOk result (λ h. (a : ℕ → Bool) → value_of new h a ≡ g a)
  all-value f g (Err r) same value = tt
  all-value f g (Ok h) same value = λ a. ap (λ (k : Function). k a) (same-values mid new (grows.none refl) (sym grows.keeps.order) h ∙ value ∙ same)

  pub all-cause : (f g : Function) (most : ℕ) (result : Result ℕ Refusal) → IsSound old → f ≡ g → most ≤ 2 ^ (length old.order + 1) + 2 * (length old.order + 1)
      → IfErr result (IsCauseWithin old mid f most) → IfErr result (IsCauseOfSum old new g)
  all-cause f g most (Ok h) sound same few cause = tt
  all-cause f g most (Err r) sound same few cause = by r (cause-stay old mid new f most r grows cause)
    where
      by : (r : Refusal) → IsCauseWithin old new f most r → IsCauseOfSum old new g r
      by (OverBudget nodes roots) lacks =
          subst (λ (k : Function). IsCauseOfSum old new k (OverBudget nodes roots)) same
          (lacks old f (2 ^ (length old.order + 1) + 2 * (length old.order + 1)) (begun old f sound) (own-cofactor old.order f) (omega arith))
      by OutOfMemory lacks = tt

-- the plan has the value of the comparison
pub plan-value : (order : List Var) (how : Cmp3) (terms : List Term) (constant : ℤ) (plan : Plan) → IsPlanOf order how terms constant plan
    → remaining plan.exact (terms_of plan.steps.items) plan.start ≡ comparison how terms constant
plan-value order how terms constant plan is =
    λ j a. (is.start_is (total (terms_of plan.steps.items) a) ∙ ap (λ (z : ℤ). compares how (constant +ℤ z)) (is.total_is a)) j

-- there are no more terms than levels
pub few-terms : (order : List Var) (terms : List Term) → AreSorted order terms → length terms ≤ length order
few-terms order terms sorted =
    let size = length-map terms (λ (t : Term). level_in order t.0.0) in
    let few = falling-few 0 (length order) (levels_of order terms) sorted.falling
    (All-map (λ (l : ℕ). l < length order) (λ (t : Term). level_in order t.0.0) terms sorted.there) (omega arith) in
    omega arith

-- all that is held was added, where nothing was held before
pub held-all : (old mid : Table) (held held' : List ℕ) (f : Function) (most : ℕ) → held ≡ [] → Adds old held mid held' f most → HoldsMore old mid held'
held-all old mid held held' f most none adds =
    subst (λ (hs : List ℕ). HoldsMore old mid hs) (sym (adds.is ∙ ap (λ (hs : List ℕ). hs ++ adds.more) none)) adds.handles

pub none-held : (t : Table) (held : List ℕ) → held ≡ [] → AreHeld t held
none-held t held none n = let counts = ap (λ (hs : List ℕ). count_on hs n) none in omega arith

pub none-known : (t : Table) (held : List ℕ) (exact : Bool) (steps : List Step) (known : BTreeMap (ℕ × ℤ) Known) → ((key : ℕ × ℤ) → get key_cmp known key ≡ None) → AreKnown t held exact steps known
none-known t held exact steps known none key it is = absurd (let both : None ≡ Some it = sym (none key) ∙ is in cc)

-- where handles stay as they are, what is held is
pub held-still : (old mid new : Table) (held : List ℕ) → HoldsMore old mid held → KeepsHandles mid new → HoldsMore old new held
held-still old mid new held more same = record {
  each = λ n. let one = more.each n in let two = same.each n in omega arith;
  total = let one = more.total in let two = same.total in omega arith;
}

-- so few partial results are held at most
pub few-steps : (order : List Var) (steps : List Step) → ArePlanned order steps → 2 ^ (length steps + 1) ≤ 2 ^ (length order + 1) + 2 * (length order + 1)
few-steps order steps planned =
    let size = length-map steps term_of in
    let few = few-terms order (terms_of steps) planned.sorted in
    let power : 2 ^ (length steps + 1) ≤ 2 ^ (length order + 1) = pow-le-pow_right (omega arith) (omega arith) in
    omega arith

-- a cause in other words
pub cause-told : (t u : Table) (exact : Bool) (steps : List Step) (s s' : ℤ) (r : Refusal) → s' ≡ s
    → IsCauseWithin t u (remaining exact (terms_of steps) s') (2 ^ (length (terms_of steps) + 1)) r → IsCauseWithin t u (remaining exact (terms_of steps) s) (2 ^ (length steps + 1)) r
cause-told t u exact steps s s' r same cause =
    subst (λ (z : ℤ). IsCauseWithin t u (remaining exact (terms_of steps) z) (2 ^ (length steps + 1)) r) same
    (subst (λ (n : ℕ). IsCauseWithin t u (remaining exact (terms_of steps) s') (2 ^ (n + 1)) r) (length-map steps term_of) cause)

-- a start that is small fits
pub start-fits : (terms : List Term) (s : ℤ) → IsSmall terms s → FitsSigned w128 s
start-fits terms s small = fits_signed_from_abs w128 s (omega arith)
