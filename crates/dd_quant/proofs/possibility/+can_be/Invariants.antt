-- The ends stand on lower levels.
use Rattle.std.proofs.Common.{◌-◌, length}
use Rattle.dd_store.specs.Table.{top_of}
use Rattle.dd_quant.proofs.possibility.+can_be.Given as goal

abbrev pub decreases-can_be : goal.decreases-can_be
decreases-can_be l = length l.kernel.now.order - top_of l.kernel.now l.node.0
