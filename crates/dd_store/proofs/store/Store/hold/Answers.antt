-- One more handle on the node.
use Rattle.dd_store.proofs.HandleLemmas.{gains-handle, there-within}
use Rattle.dd_store.proofs.store.Store.hold.Goals as goal

pub returns-clause-gained : goal.returns-clause-gained
returns-clause-gained c =
    let there = rw (← c.self.view_is) at c.requires in
    rw (← c.self.view_is) (gains-handle _ _ _ (there-within _ _ _ c.self.invariant there) c.index_mut.ensures.value)
