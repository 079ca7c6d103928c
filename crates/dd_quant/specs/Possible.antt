-- Which assignments make a function true, where some variables have values that are given.
use Rattle.std.specs.Prelude.{◌≡◌, ℕ, Bool, true, List}
use Rattle.std.specs.List.{All}
use Rattle.dd_store.specs.Size.{Function}
use Rattle.dd_store.specs.Table.{Table, IsVariable}
use Rattle.dd_quant.specs.declared.literal.Literal.{Literal}

-- the variable with this value
abbrev pub literal_of : ℕ → Bool → Literal
literal_of v b = record { var = record { 0 = v }; value = b }

-- each of the literals is on a variable of the table; one variable may stand in several of them
abbrev pub AreLiterals : Table → List Literal → Type 0
AreLiterals t given = All (λ l. IsVariable t l.var.0) given

-- the assignment has the value of each of the literals
abbrev pub Agrees : List Literal → (ℕ → Bool) → Type 0
Agrees given a = All (λ l. a l.var.0 ≡ l.value) given

-- Some assignment that agrees with all of them makes the function true. Where two of them contradict one another, none
-- does.
abbrev pub IsPossible : Function → List Literal → Type 0
IsPossible f given = (a : ℕ → Bool) × Agrees given a × (f a ≡ true)
