-- The limits of a file with all that it places. They are this project's own.
use Rattle.std.specs.Prelude.{ℕ}

-- the most rules
abbrev pub most_rules : ℕ
most_rules = 65536

-- the most nodes of all rules together
abbrev pub most_nodes : ℕ
most_nodes = 4194304
