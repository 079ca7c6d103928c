-- Marks that spread from a node to all that it reaches.
use Rattle.std.specs.Prelude.{◌≡◌, ◌⊎◌, ℕ, ◌<◌, Bool, true, List, slice_index, Option, Some, IsSome}
use Rattle.std.specs.List.{Contains}
use Rattle.dd_store.specs.declared.row.Row.{Row}
use Rattle.dd_store.specs.declared.row.Var.{Var}
use Rattle.dd_store.specs.Follow.{end_of}
use Rattle.dd_store.specs.Reached.{reached}

-- the number is that of a constant or of a marked node
abbrev pub IsDone : (ℕ → Option Row) → (ℕ → Bool) → ℕ → Type 0
IsDone rows marks n = IsSome (rows n) → marks n ≡ true

-- both ends of the node are done
abbrev pub HasDoneEnds : (ℕ → Option Row) → (ℕ → Bool) → ℕ → Type 0
HasDoneEnds rows marks n = (r : Row) (b : Bool) → rows n ≡ Some r → IsDone rows marks (end_of r b)

-- What is marked beyond the old marks is reached from n, and has done ends.
pub record Spreads (order : List Var) (rows : ℕ → Option Row) (old new : ℕ → Bool) (n : ℕ) : Type 0 where
  pub stays : (m : ℕ) → old m ≡ true → new m ≡ true
  pub ends : (m : ℕ) → new m ≡ true → (old m ≡ true) ⊎ HasDoneEnds rows new m
  pub reached : (m : ℕ) → new m ≡ true → (old m ≡ true) ⊎ Contains (reached order rows n) m
  pub done : IsDone rows new n

-- a handle stands on a number that reaches n
abbrev pub IsReachedFrom : List Var → (ℕ → Option Row) → List ℕ → ℕ → Type 0
IsReachedFrom order rows counts n = (h : ℕ) × (0 < slice_index counts h) × Contains (reached order rows h) n

-- What is marked is reached from the handles below the number and has done ends, and these are done.
pub record MarksBelow (order : List Var) (rows : ℕ → Option Row) (counts : List ℕ) (marks : ℕ → Bool) (below : ℕ)
    : Type 0 where
  pub ends : (n : ℕ) → marks n ≡ true → HasDoneEnds rows marks n
  pub reached : (n : ℕ) → marks n ≡ true → IsReachedFrom order rows counts n
  pub done : (h : ℕ) → h < below → 0 < slice_index counts h → IsDone rows marks h
