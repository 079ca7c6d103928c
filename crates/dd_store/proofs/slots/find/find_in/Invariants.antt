-- What is left of the chain has all nodes with the row.
use Rattle.dd_store.proofs.FindLemmas.{IsLeft}
use Rattle.dd_store.proofs.slots.find.find_in.Given as goal

abbrev pub invariant-loop : goal.invariant-loop
invariant-loop l = IsLeft l.slots l.row l.node.0 l.counter
