-- The last steps are made.
use Rattle.uvl_sums.proofs.StepLemmas.{AreMade}
use Rattle.uvl_sums.proofs.steps.steps_of.Given as goal

abbrev pub invariant-loop-left : goal.invariant-loop-left
invariant-loop-left l = AreMade l.kernel.order l.placed l.steps.items l.least l.greatest l.left

abbrev pub decreases-loop-left : goal.decreases-loop-left
decreases-loop-left l = l.left
