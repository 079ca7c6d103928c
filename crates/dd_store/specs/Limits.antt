-- The limits of a table. They are this project's own.
use Rattle.std.specs.Prelude.{ℕ}

-- how many variables a table may have
abbrev pub most_variables : ℕ
most_variables = 4096

-- the least budget of nodes that a table may have
abbrev pub least_budget : ℕ
least_budget = 16

-- and the largest
abbrev pub most_budget : ℕ
most_budget = 16777216
