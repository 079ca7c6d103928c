-- What is made are the conditions that were marked since the start.
use Rattle.std.proofs.Common.{◌≡◌}
use Rattle.dd_store.specs.Changes.{Keeps}
use Rattle.dd_store.specs.Exhausted.{value_at}
use Rattle.dd_store.specs.Handles.{GainsHandle}
use Rattle.uvl_compile.specs.Conditions.{both, so_far}
use Rattle.uvl_compile.proofs.planned.batch.Given as goal

abbrev pub invariant-loop-at : goal.invariant-loop-at
invariant-loop-at l = record {
  value : both (so_far l.map l.model l.fn.done) (value_at l.kernel l.made) ≡ so_far l.map l.model l.done;
  gained : GainsHandle l.fn.kernel l.kernel l.made;
  keeps : Keeps l.fn.kernel l.kernel;
}
