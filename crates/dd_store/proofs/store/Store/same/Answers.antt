-- Two handles have one value exactly where they stand on one node.
use Rattle.dd_store.proofs.Canonical.{canonical}
use Rattle.dd_store.proofs.ReadLemmas.{same-decided}
use Rattle.dd_store.proofs.store.Store.same.Goals as goal

pub returns-clause-same : goal.returns-clause-same
returns-clause-same c = let sound = rw c.self.view_is at c.self.invariant.sound in
    same-decided _ _ _ _ sound c.requires.a_live c.requires.b_live (rw (c.a.view_is, c.b.view_is) at c.eq.ensures)

pub returns-clause-law : goal.returns-clause-law
returns-clause-law c = canonical
