-- What can be seen of a source over bytes in memory with planned faults.
use Rattle.std.specs.Prelude.{ℕ, List}
use Rattle.uvl_outside.specs.Plan.{Plan}

-- the bytes that are left, the sizes in which the next calls give them, and the planned faults
pub record SourceState : Type 0 where
  pub left : List ℕ
  pub sizes : List ℕ
  pub plan : Plan
