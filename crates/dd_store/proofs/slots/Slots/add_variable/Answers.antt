-- The variable has one empty chain.
use Rattle.dd_store.proofs.NodesLemmas.{linked-variable}
use Rattle.dd_store.proofs.slots.Slots.add_variable.Goals as goal

pub invariant_of-self-2 : goal.invariant_of-self-2
invariant_of-self-2 c = rw (c.push_within_capacity.ensures, c.in_ok-reserve.ensures.items) (linked-variable _ _ _ _ _ c.self.invariant c.in_ok-chains.ensures.heads c.in_ok-chains.ensures.nodes)
