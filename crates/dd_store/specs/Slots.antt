-- The rows of the nodes by their numbers, as contracts see them, and how calls change them.
use Rattle.std.specs.Prelude.{◌≡◌, ◌≢◌, ℕ, suc, ◌+◌, ◌<◌, ◌≤◌, Bool, true, false, if◌then◌else◌, nat_eq, max}
use Rattle.std.specs.Prelude.{List, [], ◌∷◌, length, slice_index_or, Option, Some, None}
use Rattle.dd_store.specs.declared.row.Row.{Row}
use Rattle.dd_store.specs.Table.{rows_in}

-- the row of each number, where a node has it; whether it is marked; and how many variables are known
pub record Nodes : Type 0 where
  pub rows : List (Option Row)
  pub marks : List Bool
  pub variables : ℕ

-- the row of a node; none for a constant, and for a number that no node has
abbrev pub row_at : Nodes → ℕ → Option Row
row_at s n = slice_index_or s.rows n None

-- whether the node is marked
abbrev pub mark_at : Nodes → ℕ → Bool
mark_at s n = slice_index_or s.marks n false

-- how many nodes there are
abbrev pub nodes_in : Nodes → ℕ
nodes_in s = rows_in s.rows

-- how many of the rows test the variable
abbrev pub rows_testing : ℕ → List (Option Row) → ℕ
rows_testing v [] = 0
rows_testing v (None ∷ rest) = rows_testing v rest
rows_testing v (Some r ∷ rest) = if nat_eq r.var.0 v then suc (rows_testing v rest) else rows_testing v rest

-- each number has the row and the mark that it had
pub record KeepsNodes (old new : Nodes) : Type 0 where
  pub rows : new.rows ≡ old.rows
  pub marks : new.marks ≡ old.marks

-- the nodes are those before with one more, n, which has this row and no mark
pub record AddsNode (old new : Nodes) (n : ℕ) (r : Row) : Type 0 where
  pub free : row_at old n ≡ None
  pub no_constant : 2 ≤ n
  pub added : row_at new n ≡ Some r
  pub others : (m : ℕ) → m ≢ n → row_at new m ≡ row_at old m
  pub marks : (m : ℕ) → mark_at new m ≡ mark_at old m
  pub count : nodes_in new ≡ nodes_in old + 1
  -- the numbers grow by one where none was free, and else not
  pub within : n < length new.rows
  pub size : length new.rows ≡ max (length old.rows) (nodes_in new + 2)
  pub variables : new.variables ≡ old.variables

-- the node n is marked now, and nothing else changes
pub record MarksNode (old new : Nodes) (n : ℕ) : Type 0 where
  pub marked : (m : ℕ) → mark_at new m ≡ (if nat_eq m n then true else mark_at old m)
  pub rows : new.rows ≡ old.rows
  pub variables : new.variables ≡ old.variables

-- exactly the nodes that were not marked are gone, and no mark is left
pub record Sweeps (old new : Nodes) : Type 0 where
  pub rows : (n : ℕ) → row_at new n ≡ (if mark_at old n then row_at old n else None)
  pub marks : (n : ℕ) → mark_at new n ≡ false
  pub size : length new.rows ≡ length old.rows
  pub variables : new.variables ≡ old.variables
