-- The root and the marked conditions.
use Rattle.std.proofs.Common.{◌≡◌, ◌≤◌, ◌-◌, length}
use Rattle.dd_store.specs.Changes.{Keeps}
use Rattle.dd_store.specs.Exhausted.{value_at}
use Rattle.dd_store.specs.Handles.{GainsHandle}
use Rattle.uvl_compile.specs.Conditions.{so_far}
use Rattle.uvl_compile.proofs.planned.follow.Given as goal

abbrev pub invariant-loop-taken : goal.invariant-loop-taken
invariant-loop-taken l = record {
  value : value_at l.kernel l.held ≡ so_far l.map l.model l.done;
  gained : GainsHandle l.fn.kernel l.kernel l.held;
  keeps : Keeps l.fn.kernel l.kernel;
  within : l.taken ≤ length l.plan;
}

abbrev pub decreases-loop-taken : goal.decreases-loop-taken
decreases-loop-taken l = length l.plan - l.taken
