-- Variables by their levels, from the top down.
use Rattle.std.specs.Prelude.{◌≡◌, ℕ, suc, ◌<◌, ◌≤◌, Bool, List, [], ◌∷◌, length, map, slice_index_or}
use Rattle.std.specs.List.{All}
use Rattle.dd_store.specs.declared.row.Var.{Var}
use Rattle.dd_count.specs.Cardinality.{true_count}

-- the variable on a level of the order
abbrev pub variable_on : List Var → ℕ → Var
variable_on order l = slice_index_or order l (record { 0 = 0 })

-- the variables on the levels
abbrev pub variables_on : List Var → List ℕ → List Var
variables_on order levels = map (variable_on order) levels

-- each level stands below the one in front of it, and none above the first of all
abbrev pub IsFallingFrom : ℕ → List ℕ → Type 0
IsFallingFrom first [] = Unit {0}
IsFallingFrom first (l ∷ ls) = (first ≤ l) × IsFallingFrom (suc l) ls

-- The levels of the members, from the top down: the variables on them are the members in another order.
pub record AreLevelsOf (order members : List Var) (levels : List ℕ) : Type 0 where
  pub size : length levels ≡ length members
  pub falling : IsFallingFrom 0 levels
  pub within : All (λ l. l < length order) levels
  pub count : (a : ℕ → Bool) → true_count (variables_on order levels) a ≡ true_count members a
