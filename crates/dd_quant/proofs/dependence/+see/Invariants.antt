-- The ends stand on lower levels.
use Rattle.std.proofs.Common.{◌-◌, length}
use Rattle.dd_store.specs.Table.{top_of}
use Rattle.dd_quant.proofs.dependence.+see.Given as goal

abbrev pub decreases-see : goal.decreases-see
decreases-see l = length l.kernel.now.order - top_of l.kernel.now l.node.0
