-- What can be seen of a sink in memory with planned faults.
use Rattle.std.specs.Prelude.{ℕ, List}
use Rattle.uvl_outside.specs.Plan.{Plan}

-- the bytes that were written, and the planned faults
pub record SinkState : Type 0 where
  pub written : List ℕ
  pub plan : Plan
