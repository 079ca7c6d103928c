-- Values that are given for variables, by the variables' numbers.
use Rattle.std.specs.Prelude.{◌≡◌, ◌↔◌, ℕ, Bool, List, length, Option, Some, None, slice_index_or}
use Rattle.dd_quant.specs.declared.literal.Literal.{Literal}
use Rattle.dd_quant.specs.Possible.{Agrees}

-- the value that is given for a variable
abbrev pub given_for : List (Option Bool) → ℕ → Option Bool
given_for values v = slice_index_or values v None

-- no other value is given
abbrev pub CanTake : Option Bool → Bool → Type 0
CanTake given b = (c : Bool) → given ≡ Some c → b ≡ c

-- no other value is given for the variable
abbrev pub Allows : List (Option Bool) → ℕ → Bool → Type 0
Allows values v b = CanTake (given_for values v) b

-- the assignment has the values that are given
abbrev pub Meets : List (Option Bool) → (ℕ → Bool) → Type 0
Meets values a = (v : ℕ) → Allows values v (a v)

-- the values by the numbers of so many variables are those of the literals
pub record AreGiven (variables : ℕ) (given : List Literal) (values : List (Option Bool)) : Type 0 where
  pub number : length values ≡ variables
  pub agree : (a : ℕ → Bool) → Agrees given a ↔ Meets values a

-- no assignment agrees with all of the literals
abbrev pub IsContradictory : List Literal → Type 0
IsContradictory given = (a : ℕ → Bool) → ¬ Agrees given a
