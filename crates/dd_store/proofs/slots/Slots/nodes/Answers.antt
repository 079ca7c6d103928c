-- There are two numbers more.
use Rattle.std.proofs.Common.{arith}
use Rattle.std.proofs.lemmas.List.{length-map}
use Rattle.dd_store.specs.Linked.{row_of_slot}
use Rattle.dd_store.proofs.SweepLemmas.{count-below}
use Rattle.dd_store.proofs.slots.Slots.nodes.Goals as goal

pub returns-clause-within : goal.returns-clause-within
returns-clause-within c =
    let size = length-map c.self.inside.slots.items row_of_slot in
    let below = count-below _ _ _ _ c.self.invariant in
    rw (← c.self.view_is) (omega arith)
