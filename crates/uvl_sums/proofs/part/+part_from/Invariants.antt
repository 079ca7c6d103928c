-- One term fewer is left.
use Rattle.std.proofs.Common.{◌-◌, length}
use Rattle.uvl_sums.proofs.part.+part_from.Given as goal

abbrev pub decreases-part_from : goal.decreases-part_from
decreases-part_from l = length l.plan.now.steps.items - l.at
