-- The states in front are forked, and the others are as they were.
use Rattle.dd_count.proofs.StatesLemmas.{IsForkedTo}
use Rattle.dd_count.proofs.states.count_member.Given as goal

abbrev pub invariant-loop-before : goal.invariant-loop-before
invariant-loop-before l = IsForkedTo l.initial.kernel l.kernel l.member.0 l.initial.states l.states l.before
