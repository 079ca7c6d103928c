-- The variables on which a function depends.
use Rattle.std.specs.Prelude.{◌≢◌, ℕ, Bool, true, false, List, filter}
use Rattle.dd_store.specs.declared.row.Var.{Var}
use Rattle.dd_store.specs.Size.{Function, fixed, depends_on}

-- the value of some assignment changes with the variable alone
abbrev pub DependsOn : ℕ → Function → Type 0
DependsOn v f = (a : ℕ → Bool) × (fixed f v false a ≢ fixed f v true a)

-- the variables of the order on which the function depends, in that order
abbrev pub support_of : List Var → Function → List Var
support_of order f = filter (λ v. depends_on order v.0 f) order
