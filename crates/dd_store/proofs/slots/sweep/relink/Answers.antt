-- Each number is put behind those before it.
use Rattle.std.proofs.Common.{◌≡◌, ◌<◌, take, sym, ap, ◌∙◌, arith, subst}
use Rattle.std.proofs.lemmas.List.{take_all}
use Rattle.dd_store.specs.Linked.{AreLinked, row_of_slot}
use Rattle.dd_store.proofs.SweepLemmas.{relink-start, swept-start, swept-step, swept-end}
use Rattle.dd_store.proofs.slots.sweep.relink.Goals as goal

pub loop-n-init : goal.loop-n-init
loop-n-init c = record {
  linked = relink-start _ _ c.requires.constants c.requires.no_rows c.requires.empty;
  swept = swept-start _ c.requires.no_rows;
}

pub relink_one-requires-clause-known : goal.relink_one-requires-clause-known
relink_one-requires-clause-known c = λ r is.
    let before = c.requires.known c.loop-n.n r (sym (ap row_of_slot (c.loop-n.invariant.swept.left c.loop-n.n (omega arith))) ∙ is) in
    subst (λ l. r.var.0 < l) (sym c.loop-n.auto.variables) before

pub loop-n-preserved : goal.loop-n-preserved
loop-n-preserved c = record {
  linked = c.relink_one.ensures.linked;
  swept = swept-step _ _ _ _ c.loop-n.invariant.swept c.relink_one.ensures.row c.relink_one.ensures.mark c.relink_one.ensures.others;
}

pub returns-clause-linked : goal.returns-clause-linked
returns-clause-linked c =
    let all : take c.loop-n.n c.loop-n.slots ≡ c.loop-n.slots = take_all c.loop-n.n c.loop-n.slots (let size = c.loop-n.auto.slots in let end = c.loop-n-test.false in omega arith) in
    subst (λ xs. AreLinked xs c.loop-n.free.0 c.loop-n.variables c.loop-n.nodes) all c.loop-n.invariant.linked

pub returns-clause-swept : goal.returns-clause-swept
returns-clause-swept c = swept-end _ _ _ c.loop-n.invariant.swept c.loop-n.auto.slots c.loop-n-test.false
