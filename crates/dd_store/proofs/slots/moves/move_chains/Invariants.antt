-- The chains before this one were moved.
use Rattle.dd_store.specs.Chains.{AreMoved}
use Rattle.dd_store.specs.Linked.{KeepsSlots, KeepsOthers, row_in, next_in}
use Rattle.dd_store.proofs.slots.moves.move_chains.Given as goal

abbrev pub invariant-loop-bucket : goal.invariant-loop-bucket
invariant-loop-bucket l = record {
  moved : AreMoved (next_in l.slots) (row_in l.slots) l.var.0 l.old l.bucket l.new;
  keeps : KeepsSlots l.initial.slots l.slots;
  others : KeepsOthers l.initial.slots l.slots l.var.0;
}
