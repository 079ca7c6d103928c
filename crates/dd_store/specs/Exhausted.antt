-- Why a full table refuses: what fills it is in use, and with what was asked for it is too much.
use Rattle.std.specs.Prelude.{◌≡◌, ◌⊎◌, ℕ, ◌+◌, ◌*◌, ◌^◌, ◌<◌, ◌≤◌, List, ◌∷◌, length, flat_map, if◌then◌else◌, Some}
use Rattle.std.specs.List.{All, Contains}
use Rattle.dd_store.specs.declared.row.Row.{Row}
use Rattle.dd_store.specs.declared.refusal.Refusal.{Refusal}
use Rattle.dd_store.specs.declared.refusal.Refusal.TheVariants.{OverBudget, OutOfMemory}
use Rattle.dd_store.specs.Changes.{Grows, Keeps, IsFullFor}
use Rattle.dd_store.specs.Follow.{IsThere}
use Rattle.dd_store.specs.Reached.{reached}
use Rattle.dd_store.specs.Size.{Function, cofactors, size}
use Rattle.dd_store.specs.Table.{Table, row_of, node_count, handle_count, value_of, IsLive, HaveSameValues}

-- the value of a number, as a function
abbrev pub value_at : Table → ℕ → Function
value_at t n = λ a. value_of t n a

-- the number's value is that of the function with the first i variables of the order fixed, for some i and some values
abbrev pub IsPartialResult : Table → Function → ℕ → Type 0
IsPartialResult t f n = Contains (cofactors t.order f) (value_at t n)

-- the value of each live handle is among the functions
abbrev pub HasHeld : Table → List Function → Type 0
HasHeld t held = (n : ℕ) → IsLive t n → Contains held (value_at t n)

-- The new table has no room for a function that was asked for in the old one: it has `nodes` nodes, as many as its
-- budget, each of them in use. Of partial results there are at most `more` beside the live handles.
pub record IsExhausted (old new : Table) (asked : Function) (more nodes roots : ℕ) : Type 0 where
  pub full : node_count new ≡ new.budget
  pub nodes_is : nodes ≡ new.budget
  -- each node is reached from one of these, which are live handles of the old table or partial results
  pub from : List ℕ
  pub there : All (IsThere (row_of new)) from
  pub each : All (λ n. IsLive old n ⊎ IsPartialResult new asked n) from
  pub all : (n : ℕ) (r : Row) → row_of new n ≡ Some r → Contains (flat_map (reached new.order (row_of new)) from) n
  -- so many of them there are
  pub few : length from ≤ roots
  pub roots_few : roots ≤ handle_count old + more
  -- no two constants or nodes have one value
  pub apart : (m n : ℕ) → IsThere (row_of new) m → IsThere (row_of new) n → HaveSameValues new m n → m ≡ n
  -- from so many no more nodes are reached
  pub bound : new.budget ≤ roots * 2 ^ length new.order
  -- the function with what is held needs more nodes than the budget
  pub size : (held : List Function) → HasHeld old held → old.budget < size old.order (asked ∷ held)

-- the function that a node with this row has: its high end's where the variable is true, and else its low end's
abbrev pub asked_by : Table → Row → Function
asked_by t r a = if a r.var.0 then value_of t r.high.0 a else value_of t r.low.0 a

-- Why a node with this row is refused: the table was full, without it, and is so after its collection, with these
-- numbers of nodes and of live handles. Want of memory has no cause.
abbrev pub IsCauseFor : Table → Table → Row → Refusal → Type 0
IsCauseFor old new r (OverBudget nodes roots) =
    IsFullFor old r × (roots ≡ handle_count old) × IsExhausted old new (asked_by old r) 0 nodes roots
IsCauseFor old new r OutOfMemory = Unit {0}

-- What an inner call can't get for a partial result, the outer call can't get: the handles that are live in between are
-- those before and partial results, and so many more.
abbrev pub RefusalsCompose : Type 0
RefusalsCompose =
    (old mid new : Table) (asked part : Function) (more inner nodes roots : ℕ) → Keeps old mid → Keeps mid new →
    ((n : ℕ) → IsLive mid n → IsLive new n) →
    ((n : ℕ) → IsLive mid n → IsLive old n ⊎ IsPartialResult mid asked n) →
    Contains (cofactors old.order asked) part → handle_count mid + inner ≤ handle_count old + more →
    IsExhausted mid new part inner nodes roots → IsExhausted old new asked more nodes roots

-- A table stays exhausted where handles alone change.
abbrev pub RefusalsStay : Type 0
RefusalsStay =
    (old new last : Table) (asked : Function) (more nodes roots : ℕ) → Grows new last 0 →
    IsExhausted old new asked more nodes roots → IsExhausted old last asked more nodes roots

-- More partial results might have been held.
abbrev pub RefusalsLoosen : Type 0
RefusalsLoosen =
    (old new : Table) (asked : Function) (more most nodes roots : ℕ) → more ≤ most →
    IsExhausted old new asked more nodes roots → IsExhausted old new asked most nodes roots
