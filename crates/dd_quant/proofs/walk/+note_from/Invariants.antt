-- The ends stand on lower levels.
use Rattle.std.proofs.Common.{◌-◌, length}
use Rattle.dd_store.specs.Table.{top_of}
use Rattle.dd_quant.proofs.walk.+note_from.Given as goal

abbrev pub decreases-note_from : goal.decreases-note_from
decreases-note_from l = length l.kernel.now.order - top_of l.kernel.now l.node.0
