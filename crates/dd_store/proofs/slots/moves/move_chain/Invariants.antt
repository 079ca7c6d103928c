-- What is left of the chain is still in it, and the rest was moved.
use Rattle.dd_store.specs.Linked.{KeepsSlots, KeepsOthers}
use Rattle.dd_store.proofs.MoveLemmas.{Moves}
use Rattle.dd_store.proofs.slots.moves.move_chain.Given as goal

abbrev pub invariant-loop : goal.invariant-loop
invariant-loop l = record {
  moves : Moves l.slots l.fn.var.0 l.old l.bucket l.new l.node.0 l.counter;
  keeps : KeepsSlots l.initial.slots l.slots;
  others : KeepsOthers l.initial.slots l.slots l.fn.var.0;
}
