-- One handle in place of another.
use Rattle.std.specs.Prelude.{◌≡◌, ℕ, ◌+◌}
use Rattle.dd_store.specs.Handles.{one_on}
use Rattle.dd_store.specs.Table.{Table, handles_on, handle_count}

-- the live handles are those before with h in place of g
pub record Replaces (old new : Table) (g h : ℕ) : Type 0 where
  pub each : (n : ℕ) → handles_on new n + one_on g n ≡ handles_on old n + one_on h n
  pub total : handle_count new ≡ handle_count old
