-- How many nodes the table of diagrams may hold: what the words may say of it, and what holds where they don't.
use Rattle.std.specs.Prelude.{ℕ}

-- the least budget
abbrev pub least_budget : ℕ
least_budget = 16

-- the largest budget
abbrev pub most_budget : ℕ
most_budget = 16777216

-- the budget where none is given
abbrev pub default_budget : ℕ
default_budget = 1048576

-- the most digits of a budget
abbrev pub most_budget_digits : ℕ
most_budget_digits = 8
