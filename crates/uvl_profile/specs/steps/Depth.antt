-- The nesting, from how many `!` apply at each scope of the brackets that stand open, the innermost first.
use Rattle.std.specs.Prelude.{ℕ, ◌+◌, List, [], ◌∷◌}

-- the brackets around the innermost scope, and the `!` that apply to them
abbrev pub depth_around : List ℕ → ℕ
depth_around [] = 0
depth_around (c ∷ cs) = c + 1 + depth_around cs

-- the nesting that scopes make
abbrev pub depth_of : List ℕ → ℕ
depth_of [] = 0
depth_of (b ∷ bs) = b + depth_around bs
