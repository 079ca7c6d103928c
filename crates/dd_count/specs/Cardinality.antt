-- Group cardinalities: how many of some variables are true (Czarnecki, Helsen and Eisenecker 2005).
use Rattle.std.specs.Prelude.{ℕ, Bool, ◌&&◌, nat_le, List, count_by}
use Rattle.dd_store.specs.declared.row.Var.{Var}
use Rattle.dd_store.specs.Size.{Function}

-- how many of the variables are true
abbrev pub true_count : List Var → (ℕ → Bool) → ℕ
true_count members a = count_by (λ v. a v.0) members

-- whether a number is neither below the lower bound nor above the higher one
abbrev pub is_within : ℕ → ℕ → ℕ → Bool
is_within low high n = nat_le low n && nat_le n high

-- The group cardinality [low..high] of the members as a function: at least `low` and at most `high` of them are true.
abbrev pub cardinality : List Var → ℕ → ℕ → Function
cardinality members low high a = is_within low high (true_count members a)
