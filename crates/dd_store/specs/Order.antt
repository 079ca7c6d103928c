-- The order of the variables, from the top down, and where a variable and a node stand in it.
use Rattle.std.specs.Prelude.{◌≡◌, ℕ, suc, ◌<◌, List, [], ◌∷◌, length, ◌==◌, if◌then◌else◌, Option, Some, None}
use Rattle.dd_store.specs.declared.row.Row.{Row}
use Rattle.dd_store.specs.declared.row.Var.{Var}

-- the level of a variable: how many variables of the order stand above it, which is all of them for a variable that
-- isn't there
abbrev pub level_in : List Var → ℕ → ℕ
level_in [] v = 0
level_in (w ∷ ws) v = if w.0 == v then 0 else suc (level_in ws v)

-- the variable is in the order
abbrev pub IsIn : List Var → ℕ → Type 0
IsIn order v = level_in order v < length order

-- the level of a node with this row: that of the variable which it tests, and below all variables for a constant
abbrev pub level_of_row : List Var → Option Row → ℕ
level_of_row order None = length order
level_of_row order (Some r) = level_in order r.var.0

-- no variable stands twice
abbrev pub IsDistinct : List Var → Type 0
IsDistinct [] = Unit {0}
IsDistinct (v ∷ vs) = (level_in vs v.0 ≡ length vs) × IsDistinct vs
