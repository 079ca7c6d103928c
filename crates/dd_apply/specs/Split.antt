-- A function by its two values of a variable.
use Rattle.std.specs.Prelude.{ℕ, if◌then◌else◌}
use Rattle.dd_store.specs.Size.{Function}

-- the function that is g where the variable is true, and else f
abbrev pub fork : ℕ → Function → Function → Function
fork v f g a = if a v then g a else f a
