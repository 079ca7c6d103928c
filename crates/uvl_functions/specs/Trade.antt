-- How a handle takes the place of another one.
use Rattle.std.specs.Prelude.{◌≡◌, ℕ, ◌+◌}
use Rattle.dd_store.specs.Handles.{one_on}
use Rattle.dd_store.specs.Table.{Table, handles_on, handle_count}

-- the live handles are those before, with h in place of one on the number n
pub record Replaces (old new : Table) (n h : ℕ) : Type 0 where
  pub each : (m : ℕ) → handles_on new m + one_on n m ≡ handles_on old m + one_on h m
  pub total : handle_count new ≡ handle_count old
