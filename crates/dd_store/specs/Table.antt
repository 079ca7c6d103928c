-- A table of diagrams as contracts see it, and what is always true of it.
use Rattle.std.specs.Prelude.{◌≡◌, ◌≢◌, ℕ, suc, ◌<◌, ◌≤◌, Bool, if◌then◌else◌, Option, Some, None}
use Rattle.std.specs.Prelude.{List, [], ◌∷◌, length, sum, slice_index, slice_index_or}
use Rattle.dd_store.specs.declared.row.Row.{Row}
use Rattle.dd_store.specs.declared.row.Var.{Var}
use Rattle.dd_store.specs.Limits.{most_variables, least_budget, most_budget}
use Rattle.dd_store.specs.Order.{level_in, level_of_row, IsIn, IsDistinct}
use Rattle.dd_store.specs.Follow.{end_of, value_in, IsThere}

-- the rows by node number, the order of the variables, how many live handles stand on each number, and how many nodes
-- there may be
pub record Table : Type 0 where
  pub slots : List (Option Row)
  pub order : List Var
  pub counts : List ℕ
  pub budget : ℕ

-- the row of a node; none for a constant, and for a number that no node has
abbrev pub row_of : Table → ℕ → Option Row
row_of t n = slice_index_or t.slots n None

-- how many nodes there are, without the two constants
abbrev pub rows_in : List (Option Row) → ℕ
rows_in [] = 0
rows_in (None ∷ rest) = rows_in rest
rows_in (Some r ∷ rest) = suc (rows_in rest)

-- how many nodes the table holds, without the two constants
abbrev pub node_count : Table → ℕ
node_count t = rows_in t.slots

-- how many live handles stand on the number
abbrev pub handles_on : Table → ℕ → ℕ
handles_on t n = slice_index t.counts n

-- how many handles are live
abbrev pub handle_count : Table → ℕ
handle_count t = sum t.counts

-- a handle on this number is live
abbrev pub IsLive : Table → ℕ → Type 0
IsLive t n = 0 < handles_on t n

-- the level of a variable
abbrev pub level_of : Table → ℕ → ℕ
level_of t v = level_in t.order v

-- the level of a node
abbrev pub top_of : Table → ℕ → ℕ
top_of t n = level_of_row t.order (row_of t n)

-- the variable is there
abbrev pub IsVariable : Table → ℕ → Type 0
IsVariable t v = IsIn t.order v

-- the value of a node under an assignment
abbrev pub value_of : Table → ℕ → (ℕ → Bool) → Bool
value_of t n a = value_in t.order (row_of t) a n

-- two nodes have the same value for every assignment
abbrev pub HaveSameValues : Table → ℕ → ℕ → Type 0
HaveSameValues t m n = (a : ℕ → Bool) → value_of t m a ≡ value_of t n a

-- the variable stands above the node
abbrev pub IsAbove : Table → ℕ → ℕ → Type 0
IsAbove t v n = level_of t v < top_of t n

-- the row of a node that tests v and has these ends
abbrev pub row_with : ℕ → ℕ → ℕ → Row
row_with v low high = record { var = record { 0 = v }; low = record { 0 = low }; high = record { 0 = high } }

-- the node n tests the variable v, and its ends for no and yes are these
pub record HasEnds (t : Table) (n v low high : ℕ) : Type 0 where
  pub row : row_of t n ≡ Some (row_with v low high)
  pub value : (a : ℕ → Bool) → value_of t n a ≡ (if a v then value_of t high a else value_of t low a)
  pub variable : IsVariable t v
  pub low_there : IsThere (row_of t) low
  pub high_there : IsThere (row_of t) high
  pub above_low : IsAbove t v low
  pub above_high : IsAbove t v high
  pub differ : low ≢ high

-- rows over an order are reduced and ordered (Bryant 1986)
pub record AreReduced (order : List Var) (rows : ℕ → Option Row) : Type 0 where
  -- no variable stands twice
  pub distinct : IsDistinct order
  -- the constants are no nodes
  pub no_is_constant : rows 0 ≡ None
  pub yes_is_constant : rows 1 ≡ None
  -- a node tests a variable of the order
  pub tested : (n : ℕ) (r : Row) → rows n ≡ Some r → IsIn order r.var.0
  -- each end is a constant or a node, and stands below its node
  pub ends_there : (n : ℕ) (r : Row) (b : Bool) → rows n ≡ Some r → IsThere rows (end_of r b)
  pub ends_below : (n : ℕ) (r : Row) (b : Bool) → rows n ≡ Some r →
      level_in order r.var.0 < level_of_row order (rows (end_of r b))
  -- the two ends of a node differ
  pub ends_differ : (n : ℕ) (r : Row) → rows n ≡ Some r → r.low.0 ≢ r.high.0
  -- no two nodes have one variable and the same ends
  pub unique : (m n : ℕ) (r : Row) → rows m ≡ Some r → rows n ≡ Some r → m ≡ n

-- the table is reduced, and each live handle stands on a constant or on a node
pub record IsReduced (t : Table) : Type 0 where
  pub rows : AreReduced t.order (row_of t)
  pub live : (n : ℕ) → IsLive t n → IsThere (row_of t) n

-- what is true of each table between two calls
pub record IsSound (t : Table) : Type 0 where
  pub reduced : IsReduced t
  -- the variables are numbered from 0 on
  pub numbered : (v : ℕ) → IsVariable t v → v < length t.order
  pub has_numbers : (v : ℕ) → v < length t.order → IsVariable t v
  pub few_variables : length t.order ≤ most_variables
  -- the budget is kept
  pub within_budget : node_count t ≤ t.budget
  pub enough : least_budget ≤ t.budget
  pub not_too_much : t.budget ≤ most_budget
