-- The states for the members from one level on.
use Rattle.dd_count.proofs.MembersLemmas.{AreCountedTo}
use Rattle.dd_count.proofs.cardinality.count_levels.Given as goal

abbrev pub invariant-loop-left : goal.invariant-loop-left
invariant-loop-left l = AreCountedTo l.fn.kernel l.kernel l.levels l.low l.high l.left l.states.items

abbrev pub decreases-loop-left : goal.decreases-loop-left
decreases-loop-left l = l.left
