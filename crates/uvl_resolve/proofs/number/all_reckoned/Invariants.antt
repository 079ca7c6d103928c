-- What is left to be joined makes the same with what is made so far.
use Rattle.std.proofs.Common.{◌≡◌, Some, length}
use Rattle.uvl_resolve.specs.steps.Rules.{within_numbers}
use Rattle.uvl_resolve.proofs.number.all_reckoned.Given as goal

abbrev pub invariant-loop-outer : goal.invariant-loop-outer
invariant-loop-outer l = within_numbers l.pending.items (Some l.made) ≡ within_numbers l.fn.pending.items (Some l.fn.inner)

abbrev pub decreases-loop-outer : goal.decreases-loop-outer
decreases-loop-outer l = length l.pending.items
