-- The values of what is made, and why it is refused.
use Rattle.std.proofs.Common.{◌≡◌, ℕ, Bool, true, false, not, ◌||◌, if◌then◌else◌, [], ◌∷◌, Result, IfOk, IfErr, refl, ap, sym, ◌∙◌, subst, inl, inr}
use Rattle.std.specs.Bool.{beq}
use Rattle.dd_store.specs.declared.refusal.Refusal.{Refusal}
use Rattle.dd_store.specs.Changes.{Grows, Keeps}
use Rattle.dd_store.specs.Exhausted.{value_at}
use Rattle.dd_store.specs.Handles.{GainsHandle}
use Rattle.dd_store.specs.Size.{Function}
use Rattle.dd_store.specs.Table.{Table, value_of}
use Rattle.dd_apply.specs.Cause.{IsCause}
use Rattle.dd_apply.specs.Truth.{chosen}
use Rattle.uvl_functions.specs.Cause.{IsShortFor}
use Rattle.uvl_functions.specs.RuleParts.{opposite}
use Rattle.uvl_rule.specs.declared.connective.Connective.TheVariants.{Implies, Iff}
use Rattle.uvl_rule.specs.Connectives.{connection, connection_group}
use Rattle.uvl_functions.proofs.ShortLemmas.{cause-told, told-behind_constant, told-behind_member}
use Rattle.uvl_functions.proofs.TableLemmas.{value-told}

-- a choice with yes elsewhere
implication : (p q : Bool) → (if p then q else true) ≡ (not p || q)
implication true q = refl
implication false q = refl

-- a choice between one and its opposite
equivalence : (p q : Bool) → (if p then q else not q) ≡ beq p q
equivalence true true = refl
equivalence true false = refl
equivalence false true = refl
equivalence false false = refl

module _ (s t u v : Table) (a b y : ℕ) (result : Result ℕ Refusal) (still_a : value_at t a ≡ value_at s a) (still_b : value_at t b ≡ value_at s b) where
  -- the choice, by what was held before
  chosen-before : (g : Function) → value_at t y ≡ g → chosen (value_at t a) (value_at t b) (value_at t y) ≡ chosen (value_at s a) (value_at s b) g
  chosen-before g is =
      ap (λ (f : Function). chosen f (value_at t b) (value_at t y)) still_a ∙ ap (λ (f : Function). chosen (value_at s a) f (value_at t y)) still_b
      ∙ ap (λ (f : Function). chosen (value_at s a) (value_at s b) f) is

  implied : value_at t y ≡ (λ x. true) → chosen (value_at t a) (value_at t b) (value_at t y) ≡ connection Implies (value_at s a) (value_at s b)
  implied is = chosen-before (λ x. true) is ∙ (λ i x. implication (value_at s a x) (value_at s b x) i)

  equated : value_at t y ≡ opposite (value_at s b) → chosen (value_at t a) (value_at t b) (value_at t y) ≡ connection Iff (value_at s a) (value_at s b)
  equated is = chosen-before (opposite (value_at s b)) is ∙ (λ i x. equivalence (value_at s a x) (value_at s b x) i)

  told-after : (f : Function) → chosen (value_at t a) (value_at t b) (value_at t y) ≡ f → Grows u v 0
      → IfOk result (λ h. (x : ℕ → Bool) → value_of u h x ≡ (if value_of t a x then value_of t b x else value_of t y x)) → IfOk result (λ h. value_at v h ≡ f)
  told-after f is grows value =
      subst (λ (g : Function). IfOk result (λ h. value_at v h ≡ g)) is (value-told u v (chosen (value_at t a) (value_at t b) (value_at t y)) result grows value)

  pub implied-told : value_at t y ≡ (λ x. true) → Grows u v 0
      → IfOk result (λ h. (x : ℕ → Bool) → value_of u h x ≡ (if value_of t a x then value_of t b x else value_of t y x))
      → IfOk result (λ h. value_at v h ≡ connection Implies (value_at s a) (value_at s b))
  implied-told is = told-after (connection Implies (value_at s a) (value_at s b)) (implied is)

  pub equated-told : value_at t y ≡ opposite (value_at s b) → Grows u v 0
      → IfOk result (λ h. (x : ℕ → Bool) → value_of u h x ≡ (if value_of t a x then value_of t b x else value_of t y x))
      → IfOk result (λ h. value_at v h ≡ connection Iff (value_at s a) (value_at s b))
  equated-told is = told-after (connection Iff (value_at s a) (value_at s b)) (equated is)

  pub implied-cause : Keeps s t → GainsHandle s t y → value_at t y ≡ (λ x. true)
      → IfErr result (IsCause t u (chosen (value_at t a) (value_at t b) (value_at t y)))
      → IfErr result (IsShortFor s (connection_group Implies (value_at s a) (value_at s b) ∷ []))
  implied-cause keeps gain is cause =
      told-behind_constant s t y true (connection_group Implies (value_at s a) (value_at s b) ∷ []) result keeps gain is
      (cause-told t u (chosen (value_at t a) (value_at t b) (value_at t y)) (connection_group Implies (value_at s a) (value_at s b)) result
      (λ held. inr (inr (inl (inl (sym (implied is)))))) cause)

  pub equated-cause : Keeps s t → GainsHandle s t y → value_at t y ≡ opposite (value_at s b)
      → IfErr result (IsCause t u (chosen (value_at t a) (value_at t b) (value_at t y)))
      → IfErr result (IsShortFor s (connection_group Iff (value_at s a) (value_at s b) ∷ []))
  equated-cause keeps gain is cause =
      told-behind_member s t y (connection_group Iff (value_at s a) (value_at s b)) result keeps gain (inr (inr (inr (inr (inr (inl (sym is)))))))
      (cause-told t u (chosen (value_at t a) (value_at t b) (value_at t y)) (connection_group Iff (value_at s a) (value_at s b)) result
      (λ held. inr (inr (inl (inl (sym (equated is)))))) cause)
