-- Where not all numbers are used, one is free.
use Rattle.std.proofs.Common.{rules, ◌≢◌, ◌+◌, length, arith}
use Rattle.std.proofs.lemmas.List.{length-map}
use Rattle.dd_store.specs.Linked.{row_of_slot}
use Rattle.dd_store.proofs.SweepLemmas.{count-below}
use Rattle.dd_store.proofs.slots.Slots.add.Goals as goal

pub reuse-requires-clause-free : goal.reuse-requires-clause-free
reuse-requires-clause-free c =
    let size = length-map c.self.inside.slots.items row_of_slot in
    let below = count-below _ _ _ _ c.self.invariant in
    let count = c.self.invariant.count in
    let other : c.self.inside.nodes + 2 ≢ length c.self.inside.slots.items = search rules in
    rw (← c.self.view_is) (omega arith)
