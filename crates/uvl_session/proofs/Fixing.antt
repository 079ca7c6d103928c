-- The diagram of one variable with its value, and what it costs beside another one.
use Rattle.std.proofs.Common.{◌≡◌, ◌==◌, ℕ, suc, ◌<◌, Bool, true, false, not, ◌&&◌, cond, if◌then◌else◌, List, [], ◌∷◌, length, Result, Ok, Err, IfOk, IfErr, refl, ap, sym, ◌∙◌, subst, inl, inr, arith}
use Rattle.std.specs.Bool.{beq}
use Rattle.std.proofs.lemmas.Bool.{eqb-true}
use Rattle.std.proofs.lemmas.Result.{IfOk-weaker}
use Rattle.dd_store.specs.declared.refusal.Refusal.{Refusal}
use Rattle.dd_store.specs.declared.row.Var.{Var}
use Rattle.dd_store.specs.Changes.{Grows, Keeps}
use Rattle.dd_store.specs.Exhausted.{IsCauseFor, asked_by, value_at}
use Rattle.dd_store.specs.Handles.{GainsHandle}
use Rattle.dd_store.specs.Order.{IsIn, level_in}
use Rattle.dd_store.specs.Short.{literal, literals}
use Rattle.dd_store.specs.Size.{Function}
use Rattle.dd_store.specs.Table.{Table, IsLive, IsVariable, row_with, value_of}
use Rattle.dd_store.proofs.CountLemmas.{live_gained}
use Rattle.dd_store.proofs.SizeLemmas.{In}
use Rattle.dd_store.proofs.StayLemmas.{value-kept}
use Rattle.dd_apply.specs.declared.operation.Operation.TheVariants.{And}
use Rattle.dd_apply.specs.Cause.{IsCause}
use Rattle.dd_apply.specs.Truth.{applied}
use Rattle.uvl_compile.specs.Conditions.{both}
use Rattle.uvl_compile.proofs.Trades.{told-more}
use Rattle.uvl_functions.specs.Cause.{IsShortFor}
use Rattle.uvl_functions.proofs.ShortLemmas.{cause-behind, cause-told, held-covered, told-node}
use Rattle.uvl_functions.proofs.TableLemmas.{value-grown}

-- each literal is among those of all variables
literal-in : (order : List Var) (v : ℕ) (b : Bool) → IsIn order v → In (literal v b) (literals order)
literal-in [] v b inside = absurd (omega arith)
literal-in (w ∷ ws) v b inside = by (w.0 == v) b refl inside (literal-in ws v b)
  where
    by : (t c : Bool) → (w.0 == v) ≡ t → cond t 0 (suc (level_in ws v)) < suc (length ws) → (IsIn ws v → In (literal v c) (literals ws))
        → In (literal v c) (literal w.0 true ∷ literal w.0 false ∷ literals ws)
    by true true e within rest = inl (ap (λ (n : ℕ). literal n true) (eqb-true w.0 v e))
    by true false e within rest = inr (inl (ap (λ (n : ℕ). literal n false) (eqb-true w.0 v e)))
    by false c e within rest = inr (inr (rest (omega arith)))

-- a node between the one value and the other
between : (p b r q : Bool) → r ≡ b → q ≡ not b → (if p then r else q) ≡ beq p b
between true true r q high low = high
between true false r q high low = high
between false true r q high low = low
between false false r q high low = low

module _ (t u v : Table) (x low high : ℕ) (b : Bool) (result : Result ℕ Refusal) (no : value_at t low ≡ (λ a. not b)) (yes : value_at t high ≡ (λ a. b)) where
  literal-is : (a : ℕ → Bool) → (if a x then value_of t high a else value_of t low a) ≡ literal x b a
  literal-is a = between (a x) b (value_of t high a) (value_of t low a) (ap (λ (f : Function). f a) yes) (ap (λ (f : Function). f a) no)

  pub fixed-told : Grows u v 0 → IfOk result (λ h. (a : ℕ → Bool) → value_of u h a ≡ (if a x then value_of t high a else value_of t low a))
      → IfOk result (λ h. value_at v h ≡ literal x b)
  fixed-told grows value =
      IfOk-weaker result _ _ (λ h is. value-grown u v h grows ∙ (λ i a. (is a ∙ literal-is a) i)) value

  asked-is : literal x b ≡ asked_by t (row_with x low high)
  asked-is = λ i a. sym (literal-is a) i

  pub fixed-cause : IsVariable t x → IfErr result (IsCauseFor t u (row_with x low high)) → IfErr result (IsShortFor t ([] ∷ []))
  fixed-cause inside =
      told-node t u (row_with x low high) [] result
      (λ held. inr (inl (subst (λ (f : Function). In f (literals t.order)) asked-is (literal-in t.order x b inside))))

-- The literal is made from t to u, the meet from u to v, and the literal given back to w.
module _ (t u v w : Table) (agreed h x : ℕ) (b : Bool) (keeps : Keeps t u) (gain : GainsHandle t u h) (live : IsLive t agreed) (is : value_at u h ≡ literal x b) where
  asked-both : both (value_at u agreed) (value_at u h) ≡ both (value_at t agreed) (literal x b)
  asked-both = ap (λ (f : Function). both f (value_at u h)) (value-kept t u keeps agreed live (live_gained gain agreed live))
      ∙ ap (λ (f : Function). both (value_at t agreed) f) is

  pub narrowed-value : (result : Result ℕ Refusal) → Grows v w 0 → IfOk result (λ k. (a : ℕ → Bool) → value_of v k a ≡ (value_of u agreed a && value_of u h a))
      → IfOk result (λ k. value_at w k ≡ both (value_at t agreed) (literal x b))
  narrowed-value result grows value =
      IfOk-weaker result _ _ (λ k told. value-grown v w k grows ∙ (λ i a. told a i) ∙ asked-both) value

  pub narrowed-cause : (result : Result ℕ Refusal) → IsVariable t x → IfErr result (IsCause u v (applied And (value_at u agreed) (value_at u h)))
      → IfErr result (IsShortFor t ((both (value_at t agreed) (literal x b) ∷ []) ∷ []))
  narrowed-cause (Ok k) inside cause = tt
  narrowed-cause (Err r) inside cause =
      cause-behind t u h groups groups r keeps gain
      (λ held. held-covered t.order (value_at u h) held groups
      (λ group i. inr (inl (subst (λ (f : Function). In f (literals t.order)) (sym is) (literal-in t.order x b inside)))))
      (cause-told u v (applied And (value_at u agreed) (value_at u h)) (both (value_at t agreed) (literal x b) ∷ []) (Err r)
      (λ held. inr (inr (inl (inl (sym asked-both))))) cause)
    where
      groups : List (List Function)
      groups = (both (value_at t agreed) (literal x b) ∷ []) ∷ []

-- a refusal that no function caused
pub none-more : (t : Table) (f : Function) (r : Refusal) → IsShortFor t ([] ∷ []) r → IsShortFor t ((f ∷ []) ∷ []) r
none-more t f r cause = told-more t [] (f ∷ []) (Err r) (λ g none. absurd none) cause
