-- What the live handles reach is marked, and the rest is swept.
use Rattle.std.proofs.Common.{subst}
use Rattle.dd_store.specs.Table.{Table}
use Rattle.dd_store.specs.Changes.{Keeps, IsCollected}
use Rattle.dd_store.proofs.CollectLemmas.{Collects, table_of, collects}
use Rattle.dd_store.proofs.store.Store.collect.Goals as goal

made : (c : goal.After-sweep)
    → Collects (table_of c.self.inside.slots.rows c.self.inside.order.items c.self.inside.counts.items c.self.inside.budget)
    (table_of c.sweep.new.self.rows c.self.inside.order.items c.self.inside.counts.items c.self.inside.budget)
    (record { marks = c.sweep.new.self.marks; variables = c.sweep.new.self.variables; live = c.self.inside.live; levels = c.self.inside.levels.items })
made c =
    collects c.self.inside.slots.rows c.self.inside.order.items c.deref.result.now c.self.inside.counts.items c.deref-2.result.now c.self.inside.budget c.sweep.result _
    c.mark_live.new.slots c.sweep.new.self c.deref.ensures.value c.deref-2.ensures.value c.self.invariant c.mark_live.ensures.marks c.mark_live.ensures.rows
    c.mark_live.ensures.variables c.sweep.ensures.swept c.sweep.ensures.count

pub invariant_of-self : goal.invariant_of-self
invariant_of-self c = (made c).kept

pub returns-clause-collected : goal.returns-clause-collected
returns-clause-collected c =
    subst (λ (t : Table). IsCollected t (table_of c.sweep.new.self.rows c.self.inside.order.items c.self.inside.counts.items c.self.inside.budget)) c.self.view_is (made c).collected

pub returns-clause-keeps : goal.returns-clause-keeps
returns-clause-keeps c =
    subst (λ (t : Table). Keeps t (table_of c.sweep.new.self.rows c.self.inside.order.items c.self.inside.counts.items c.self.inside.budget)) c.self.view_is (made c).keeps
