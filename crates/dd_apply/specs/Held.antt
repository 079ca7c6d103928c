-- Inside of an operation: what is kept alive there, and what a refusal inside of it means outside.
use Rattle.std.specs.Prelude.{◌≡◌, ◌⊎◌, ℕ, ◌+◌, ◌<◌, ◌≤◌}
use Rattle.std.specs.List.{Contains}
use Rattle.dd_store.specs.declared.refusal.Refusal.{Refusal}
use Rattle.dd_store.specs.declared.refusal.Refusal.TheVariants.{OverBudget, OutOfMemory}
use Rattle.dd_store.specs.Changes.{Keeps}
use Rattle.dd_store.specs.Exhausted.{IsExhausted, IsPartialResult, value_at}
use Rattle.dd_store.specs.Reached.{reached}
use Rattle.dd_store.specs.Size.{Function, cofactors}
use Rattle.dd_store.specs.Handles.{one_on}
use Rattle.dd_store.specs.Table.{Table, row_of, handles_on, handle_count, IsLive}

-- the number is that of a constant, or a live handle reaches all that it reaches
abbrev pub IsHeld : Table → ℕ → Type 0
IsHeld t n = (n < 2) ⊎ ((h : ℕ) × IsLive t h ×
    ((m : ℕ) → Contains (reached t.order (row_of t) n) m → Contains (reached t.order (row_of t) h) m))

-- The table is that of a call that began with the old one and asks for the function: its live handles are those before
-- and partial results.
pub record IsWithin (old new : Table) (asked : Function) : Type 0 where
  pub keeps : Keeps old new
  pub stay : (n : ℕ) → IsLive old n → IsLive new n
  pub held : (n : ℕ) → IsLive new n → IsLive old n ⊎ IsPartialResult new asked n

-- There is no room for the part with so many more partial results: no call within which it is asked for has room.
abbrev pub LacksRoom : Table → Table → Function → ℕ → ℕ → ℕ → Type 0
LacksRoom mid new part inner nodes roots =
    (old : Table) (asked : Function) (more : ℕ) → IsWithin old mid asked → Contains (cofactors old.order asked) part →
    handle_count mid + inner ≤ handle_count old + more → IsExhausted old new asked more nodes roots

-- why a part is refused; want of memory has no cause
abbrev pub IsCauseWithin : Table → Table → Function → ℕ → Refusal → Type 0
IsCauseWithin mid new part inner (OverBudget nodes roots) = LacksRoom mid new part inner nodes roots
IsCauseWithin mid new part inner OutOfMemory = Unit {0}

-- the number is held over a call, with its row and its value
pub record Stays (old new : Table) (n : ℕ) : Type 0 where
  pub held : IsHeld new n
  pub row : row_of new n ≡ row_of old n
  pub value : value_at new n ≡ value_at old n

-- two handles are live, also where they stand on one number
abbrev pub HasBoth : Table → ℕ → ℕ → Type 0
HasBoth t low high = (n : ℕ) → one_on low n + one_on high n ≤ handles_on t n

-- the live handles are those before with h in place of low and high
pub record Trades (old new : Table) (low high h : ℕ) : Type 0 where
  pub each : (n : ℕ) → handles_on new n + one_on low n + one_on high n ≡ handles_on old n + one_on h n
  pub total : handle_count new + 1 ≡ handle_count old

-- the live handles are those before without low and high
pub record LosesBoth (old new : Table) (low high : ℕ) : Type 0 where
  pub each : (n : ℕ) → handles_on new n + one_on low n + one_on high n ≡ handles_on old n
  pub total : handle_count new + 2 ≡ handle_count old
