-- The numbers before this one are in their chains.
use Rattle.std.proofs.Common.{take}
use Rattle.dd_store.specs.Linked.{AreLinked}
use Rattle.dd_store.proofs.SweepLemmas.{Swept}
use Rattle.dd_store.proofs.slots.sweep.relink.Given as goal

abbrev pub invariant-loop-n : goal.invariant-loop-n
invariant-loop-n l = record {
  linked : AreLinked (take l.n l.slots) l.free.0 l.variables l.nodes;
  swept : Swept l.initial.slots l.slots l.n;
}
