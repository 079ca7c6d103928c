-- The diagram of one variable: a node between no and yes.
use Rattle.std.proofs.Common.{◌≡◌, ◌==◌, ℕ, suc, ◌<◌, Bool, true, false, cond, if◌then◌else◌, List, [], ◌∷◌, length, Result, IfOk, IfErr, refl, ap, sym, ◌∙◌, subst, inl, inr, arith}
use Rattle.std.specs.Bool.{beq}
use Rattle.std.proofs.lemmas.Bool.{eqb-true}
use Rattle.std.proofs.lemmas.Result.{IfOk-weaker}
use Rattle.dd_store.specs.declared.refusal.Refusal.{Refusal}
use Rattle.dd_store.specs.declared.row.Var.{Var}
use Rattle.dd_store.specs.Changes.{Grows}
use Rattle.dd_store.specs.Exhausted.{IsCauseFor, asked_by, value_at}
use Rattle.dd_store.specs.Order.{IsIn, level_in}
use Rattle.dd_store.specs.Short.{literal, literals}
use Rattle.dd_store.specs.Size.{Function}
use Rattle.dd_store.specs.Table.{Table, IsVariable, row_with, value_of}
use Rattle.dd_store.proofs.SizeLemmas.{In}
use Rattle.uvl_functions.specs.Cause.{IsShortFor}
use Rattle.uvl_functions.proofs.ShortLemmas.{told-node}
use Rattle.uvl_functions.proofs.TableLemmas.{value-grown}

-- the literal of each variable is among those of all
pub literal-in : (order : List Var) (v : ℕ) → IsIn order v → In (literal v true) (literals order)
literal-in [] v inside = absurd (omega arith)
literal-in (w ∷ ws) v inside = by (w.0 == v) refl inside (literal-in ws v)
  where
    by : (t : Bool) → (w.0 == v) ≡ t → cond t 0 (suc (level_in ws v)) < suc (length ws) → (IsIn ws v → In (literal v true) (literals ws))
        → In (literal v true) (literal w.0 true ∷ literal w.0 false ∷ literals ws)
    by true e within rest = inl (ap (λ (n : ℕ). literal n true) (eqb-true w.0 v e))
    by false e within rest = inr (inr (rest (omega arith)))

-- a node between no and yes
between : (p r q : Bool) → r ≡ true → q ≡ false → (if p then r else q) ≡ p
between true r q high low = high
between false r q high low = low

literal-true : (p : Bool) → beq p true ≡ p
literal-true true = refl
literal-true false = refl

module _ (t u v : Table) (x low high : ℕ) (result : Result ℕ Refusal) (no : value_at t low ≡ (λ a. false)) (yes : value_at t high ≡ (λ a. true)) where
  literal-is : (a : ℕ → Bool) → (if a x then value_of t high a else value_of t low a) ≡ a x
  literal-is a = between (a x) (value_of t high a) (value_of t low a) (ap (λ (f : Function). f a) yes) (ap (λ (f : Function). f a) no)

  pub literal-told : Grows u v 0 → IfOk result (λ h. (a : ℕ → Bool) → value_of u h a ≡ (if a x then value_of t high a else value_of t low a))
      → IfOk result (λ h. (a : ℕ → Bool) → value_of v h a ≡ a x)
  literal-told grows value =
      IfOk-weaker result _ _ (λ h is a. ap (λ (f : Function). f a) (value-grown u v h grows) ∙ is a ∙ literal-is a) value

  asked-is : literal x true ≡ asked_by t (row_with x low high)
  asked-is = λ i a. (literal-true (a x) ∙ sym (literal-is a)) i

  pub literal-cause : IsVariable t x → IfErr result (IsCauseFor t u (row_with x low high)) → IfErr result (IsShortFor t ([] ∷ []))
  literal-cause inside =
      told-node t u (row_with x low high) [] result
      (λ held. inr (inl (subst (λ (f : Function). In f (literals t.order)) asked-is (literal-in t.order x inside))))
