-- The value of a node under an assignment, found by following ends: low for no and high for yes (Bryant 1986).
use Rattle.std.specs.Prelude.{ℕ, ◌≤◌, Bool, false, List, [], ◌∷◌, ◌==◌, if◌then◌else◌, slice_index_or}
use Rattle.std.specs.Prelude.{Option, Some, None, IsSome}
use Rattle.dd_store.specs.declared.row.Row.{Row}
use Rattle.dd_store.specs.declared.row.Var.{Var}

-- the end of a row for this value of its variable
abbrev pub end_of : Row → Bool → ℕ
end_of r b = if b then r.high.0 else r.low.0

-- where the number n leads past the variable v: to an end of a row that tests v, and nowhere else
abbrev pub step : Option Row → ℕ → ℕ → Bool → ℕ
step None v n b = n
step (Some r) v n b = if v == r.var.0 then end_of r b else n

-- the number that is reached from n under the assignment, past each variable of the order in turn
abbrev pub follow : List Var → (ℕ → Option Row) → (ℕ → Bool) → ℕ → ℕ
follow [] rows a n = n
follow (v ∷ vs) rows a n = follow vs rows a (step (rows n) v.0 n (a v.0))

-- whether the constant yes is reached
abbrev pub value_in : List Var → (ℕ → Option Row) → (ℕ → Bool) → ℕ → Bool
value_in order rows a n = follow order rows a n == 1

-- the assignment with this value for one variable
abbrev pub with_value : (ℕ → Bool) → ℕ → Bool → ℕ → Bool
with_value a v b w = if w == v then b else a w

-- the assignment that a row of marks stands for: a variable beyond its end is no
abbrev pub assignment_of : List Bool → ℕ → Bool
assignment_of marks v = slice_index_or marks v false

-- the number is that of a constant or of a node
abbrev pub IsThere : (ℕ → Option Row) → ℕ → Type 0
IsThere rows n = 2 ≤ n → IsSome (rows n)
