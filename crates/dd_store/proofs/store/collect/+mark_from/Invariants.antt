-- The ends stand on lower levels.
use Rattle.std.proofs.Common.{◌-◌, length}
use Rattle.dd_store.specs.Order.{level_of_row}
use Rattle.dd_store.specs.Slots.{row_at}
use Rattle.dd_store.proofs.store.collect.+mark_from.Given as goal

abbrev pub decreases-mark_from : goal.decreases-mark_from
decreases-mark_from l = length l.order.now - level_of_row l.order.now (row_at l.slots.now l.node.0)
