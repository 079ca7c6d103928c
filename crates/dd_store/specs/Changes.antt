-- What stays of a table over a call, and what leaves it.
use Rattle.std.specs.Prelude.{◌≡◌, ◌≢◌, ◌↔◌, ℕ, ◌+◌, ◌≤◌, Bool, Some, None}
use Rattle.std.specs.List.{Contains}
use Rattle.dd_store.specs.declared.row.Row.{Row}
use Rattle.dd_store.specs.Reached.{reached, KeepsReached}
use Rattle.dd_store.specs.Table.{Table, row_of, node_count, value_of, IsLive, IsSound}

-- each node is there as before
abbrev pub KeepsRows : Table → Table → Type 0
KeepsRows old new = (n : ℕ) (r : Row) → row_of old n ≡ Some r → row_of new n ≡ Some r

-- What every call keeps that leaves the order as it is: what is live before and after, and all that is kept alive by
-- it.
pub record Keeps (old new : Table) : Type 0 where
  -- each handle that is live before and after has the same value for every assignment
  pub values : (n : ℕ) (a : ℕ → Bool) → IsLive old n → IsLive new n → value_of new n a ≡ value_of old n a
  -- and each node that it reaches stays
  pub kept_alive : (n : ℕ) → IsLive old n → IsLive new n → KeepsReached old.order (row_of old) (row_of new) n
  pub order : new.order ≡ old.order
  pub budget : new.budget ≡ old.budget
  pub sound : IsSound new

-- The change of a table by a call that asks for so many new nodes at most.
pub record Grows (old new : Table) (most : ℕ) : Type 0 where
  pub keeps : Keeps old new
  pub count : node_count new ≤ node_count old + most
  -- where the budget has room for them, no node leaves the table
  pub rows : node_count old + most ≤ old.budget → KeepsRows old new
  -- and where none is asked for, the nodes are those before
  pub none : most ≡ 0 → (n : ℕ) → row_of new n ≡ row_of old n

-- the nodes and the budget are those before
pub record KeepsRowsAndBudget (old new : Table) : Type 0 where
  pub rows : (n : ℕ) → row_of new n ≡ row_of old n
  pub count : node_count new ≡ node_count old
  pub budget : new.budget ≡ old.budget

-- the nodes are those before with one more, n, which has this row
pub record AddsRow (old new : Table) (n : ℕ) (r : Row) : Type 0 where
  pub free : row_of old n ≡ None
  pub no_constant : 2 ≤ n
  pub added : row_of new n ≡ Some r
  pub others : (m : ℕ) → m ≢ n → row_of new m ≡ row_of old m
  pub count : node_count new ≡ node_count old + 1

-- a live handle reaches the number
abbrev pub IsKeptAlive : Table → ℕ → Type 0
IsKeptAlive t n = (h : ℕ) × IsLive t h × Contains (reached t.order (row_of t) h) n

-- the node has this row and is kept alive
abbrev pub IsAliveRow : Table → ℕ → Row → Type 0
IsAliveRow t n r = (row_of t n ≡ Some r) × IsKeptAlive t n

-- the nodes are exactly those before that are kept alive
abbrev pub IsCollected : Table → Table → Type 0
IsCollected old new = (n : ℕ) (r : Row) → (row_of new n ≡ Some r) ↔ IsAliveRow old n r

-- so are the nodes but one
abbrev pub IsCollectedBut : Table → Table → ℕ → Type 0
IsCollectedBut old new h = (n : ℕ) (r : Row) → n ≢ h → (row_of new n ≡ Some r) ↔ IsAliveRow old n r

-- each node is kept alive
abbrev pub AreKeptAlive : Table → Type 0
AreKeptAlive t = (n : ℕ) (r : Row) → row_of t n ≡ Some r → IsKeptAlive t n

-- the ends differ, the table holds as many nodes as its budget, and none of them has this row
pub record IsFullFor (t : Table) (r : Row) : Type 0 where
  pub differ : r.low.0 ≢ r.high.0
  pub full : node_count t ≡ t.budget
  pub absent : (n : ℕ) → row_of t n ≢ Some r
