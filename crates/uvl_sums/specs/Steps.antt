-- The terms of a sum from the top level down, each with what the terms from it on can add up to.
use Rattle.std.specs.Prelude.{◌≡◌, ℕ, zero, suc, ◌+◌, ◌^◌, ◌<◌, ◌≤◌, ℤ, pos, ◌+ℤ◌, Bool, ◌&&◌, int_le, unsigned_abs, true, false}
use Rattle.std.specs.Prelude.{List, [], ◌∷◌, drop, length, map}
use Rattle.std.specs.Int.{int_min, int_max}
use Rattle.std.specs.List.{All}
use Rattle.dd_store.specs.declared.row.Var.{Var}
use Rattle.dd_store.specs.Order.{level_in, IsIn}
use Rattle.dd_store.specs.Size.{Function}
use Rattle.dd_count.specs.Levels.{variable_on, IsFallingFrom}
use Rattle.uvl_sums.specs.declared.linear.Cmp3.{Cmp3}
use Rattle.uvl_sums.specs.declared.steps.Plan.{Plan}
use Rattle.uvl_sums.specs.declared.steps.Step.{Step}
use Rattle.uvl_sums.specs.Sums.{Term, total, size_of, compares}

-- the term of a step
abbrev pub term_of : Step → Term
term_of step = (step.var, step.weight)

abbrev pub terms_of : List Step → List Term
terms_of steps = map term_of steps

-- the terms from a place on
abbrev pub terms_from : List Step → ℕ → List Term
terms_from steps at = terms_of (drop at steps)

-- the weight of the term at a place
abbrev pub weight_at : List Step → ℕ → ℤ
weight_at [] at = pos 0
weight_at (step ∷ steps) zero = step.weight
weight_at (step ∷ steps) (suc at) = weight_at steps at

-- the least that the true ones of the variables can add up to
abbrev pub least_total : List Term → ℤ
least_total [] = pos 0
least_total (term ∷ terms) = least_total terms +ℤ int_min term.1 (pos 0)

-- and the most
abbrev pub greatest_total : List Term → ℤ
greatest_total [] = pos 0
greatest_total (term ∷ terms) = greatest_total terms +ℤ int_max term.1 (pos 0)

-- each step has the bounds of the terms from it on
abbrev pub HaveBounds : List Step → Type 0
HaveBounds [] = Unit {0}
HaveBounds (step ∷ steps) =
    (step.least ≡ least_total (terms_of (step ∷ steps))) × (step.greatest ≡ greatest_total (terms_of (step ∷ steps)))
    × HaveBounds steps

-- the levels of the terms
abbrev pub levels_of : List Var → List Term → List ℕ
levels_of order terms = map (λ (term : Term). level_in order term.0.0) terms

-- the terms have variables of the order, from the top down, and their sizes are small together
pub record AreSorted (order : List Var) (terms : List Term) : Type 0 where
  pub falling : IsFallingFrom 0 (levels_of order terms)
  pub there : All (λ (term : Term). IsIn order term.0.0) terms
  pub size : size_of terms < 2 ^ 126

-- the steps of a sum
pub record ArePlanned (order : List Var) (steps : List Step) : Type 0 where
  pub sorted : AreSorted order (terms_of steps)
  pub bounds : HaveBounds steps

-- the terms that are given by the levels of their variables
abbrev pub terms_on : List Var → List (ℕ × ℤ) → List Term
terms_on order placed = map (λ (p : ℕ × ℤ). (variable_on order p.0, p.1)) placed

-- The terms by their levels, from the top down: the same terms in another order.
pub record ArePlaced (order : List Var) (terms : List Term) (placed : List (ℕ × ℤ)) : Type 0 where
  pub within : All (λ (p : ℕ × ℤ). p.0 < length order) placed
  pub sorted : AreSorted order (terms_on order placed)
  pub size : size_of (terms_on order placed) ≡ size_of terms
  pub total_is : (a : ℕ → Bool) → total (terms_on order placed) a ≡ total terms a

-- whether a number is 0, or 0 at most
abbrev pub meets : Bool → ℤ → Bool
meets true n = int_le n (pos 0) && int_le (pos 0) n
meets false n = int_le n (pos 0)

-- what is left of a comparison behind some terms: whether the rest brings the sum so far there
abbrev pub remaining : Bool → List Term → ℤ → Function
remaining exact terms so_far a = meets exact (so_far +ℤ total terms a)

-- the sum so far and the terms that are left are small together
abbrev pub IsSmall : List Term → ℤ → Type 0
IsSmall terms so_far = unsigned_abs so_far + size_of terms ≤ 2 ^ 126

-- The plan of a comparison: the same terms from the top level down, with a start from which they bring to 0, or to 0 at
-- most, exactly where the constant and they compare so.
pub record IsPlanOf (order : List Var) (how : Cmp3) (terms : List Term) (constant : ℤ) (plan : Plan) : Type 0 where
  pub planned : ArePlanned order plan.steps.items
  pub small : IsSmall (terms_of plan.steps.items) plan.start
  pub total_is : (a : ℕ → Bool) → total (terms_of plan.steps.items) a ≡ total terms a
  pub start_is : (t : ℤ) → meets plan.exact (plan.start +ℤ t) ≡ compares how (constant +ℤ t)
