-- What the handles below the number reach is marked, and nothing else.
use Rattle.std.proofs.Common.{◌≡◌}
use Rattle.dd_store.specs.Marks.{MarksBelow}
use Rattle.dd_store.specs.Slots.{mark_at, row_at}
use Rattle.dd_store.proofs.store.collect.mark_live.Given as goal

abbrev pub invariant-loop-number : goal.invariant-loop-number
invariant-loop-number l = record {
  marks : MarksBelow l.order (row_at l.fn.slots) l.counts (mark_at l.slots) l.number;
  rows : l.slots.rows ≡ l.fn.slots.rows;
  variables : l.slots.variables ≡ l.fn.slots.variables;
}
