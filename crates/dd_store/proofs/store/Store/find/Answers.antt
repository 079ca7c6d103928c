-- The node that was found, with its ends.
use Rattle.dd_store.proofs.AddLemmas.{find-found}
use Rattle.dd_store.proofs.store.Store.find.Goals as goal

pub returns-clause-found : goal.returns-clause-found
returns-clause-found c = rw (← c.self.view_is) (find-found _ c.args.row _ c.self.invariant.sound c.find.ensures.found)
