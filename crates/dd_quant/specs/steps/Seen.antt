-- Which variables a walk has seen.
use Rattle.std.specs.Prelude.{◌≡◌, ◌⊎◌, ℕ, Bool, true, false, List, length, Option, Some, slice_index_or}
use Rattle.dd_store.specs.Exhausted.{value_at}
use Rattle.dd_store.specs.SizeLaws.{IsFreeOf}
use Rattle.dd_store.specs.Table.{Table}
use Rattle.dd_quant.specs.Support.{DependsOn}
use Rattle.dd_quant.specs.steps.Marked.{found_of}

-- the variable is seen
abbrev pub is_seen : List Bool → ℕ → Bool
is_seen seen v = slice_index_or seen v false

-- each variable on which the node depends is seen
abbrev pub IsCovered : Table → List Bool → ℕ → Type 0
IsCovered t seen n = (v : ℕ) → is_seen seen v ≡ false → IsFreeOf v (value_at t n)

-- so it is for each node that is marked
abbrev pub AreCovered : Table → List Bool → List (Option Bool) → Type 0
AreCovered t seen marks = (n : ℕ) (b : Bool) → found_of marks n ≡ Some b → IsCovered t seen n

-- what is seen before is so after, and what comes to be seen are variables on which the node depends
pub record SeesMore (t : Table) (n : ℕ) (seen seen' : List Bool) : Type 0 where
  pub kept : (v : ℕ) → is_seen seen v ≡ true → is_seen seen' v ≡ true
  pub new : (v : ℕ) → is_seen seen' v ≡ true → (is_seen seen v ≡ true) ⊎ DependsOn v (value_at t n)
  pub number : length seen' ≡ length seen
