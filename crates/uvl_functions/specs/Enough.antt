-- The budget that is enough for every call that makes a model's diagrams.
use Rattle.std.specs.Prelude.{ℕ, ◌+◌, ◌*◌, ◌^◌}

-- how many nodes are enough over n variables, beside as many functions as are held at most
abbrev pub enough : ℕ → ℕ
enough n = 2 ^ n * (2 ^ (n + 1) + 8 * n + 600)

-- how many functions are held at most when a call begins: the products of 9 models and what 16 sessions agree with
abbrev pub most_held : ℕ
most_held = 25
