-- The ends stand on lower levels.
use Rattle.std.proofs.Common.{◌-◌, length}
use Rattle.dd_store.specs.Table.{top_of}
use Rattle.dd_quant.proofs.restriction.+restrict.Given as goal

abbrev pub decreases-restrict : goal.decreases-restrict
decreases-restrict l = length l.kernel.now.order - top_of l.kernel.now l.node.0
