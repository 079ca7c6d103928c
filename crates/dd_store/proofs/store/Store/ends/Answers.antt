-- The row that was read.
use Rattle.dd_store.proofs.ReadLemmas.{has-ends}
use Rattle.dd_store.proofs.store.Store.ends.Goals as goal

pub returns-clause-ends : goal.returns-clause-ends
returns-clause-ends c = has-ends _ _ c.in_ok-row.row c.in_ok-row.ensures.sound c.in_ok-row.ensures.row
