-- The levels of the first members.
use Rattle.std.proofs.Common.{◌≡◌, take}
use Rattle.dd_count.proofs.LevelsLemmas.{levels_in}
use Rattle.dd_count.proofs.levels.levels_of.Given as goal

abbrev pub invariant-loop-member : goal.invariant-loop-member
invariant-loop-member l = l.levels.items ≡ levels_in l.kernel.order (take l.member-index l.members)
