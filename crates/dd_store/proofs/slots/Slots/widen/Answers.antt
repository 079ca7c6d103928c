-- The heads of one variable change.
use Rattle.std.proofs.Common.{rules, ◌≡◌, ◌<◌, length, ap, ◌∙◌, subst, arith}
use Rattle.std.proofs.lemmas.List.{get_or_read, with_items_is}
use Rattle.dd_store.specs.Chains.{Heads}
use Rattle.dd_store.specs.Linked.{KeepsSlots, KeepsOthers, heads_of}
use Rattle.dd_store.proofs.SweepLemmas.{each-below}
use Rattle.dd_store.proofs.NodesLemmas.{linked-grown}
use Rattle.dd_store.proofs.slots.Slots.widen.Goals as goal

pub grow-requires-clause-few : goal.grow-requires-clause-few
grow-requires-clause-few c =
    let inside : c.args.var.0 < length c.self.inside.variables.items = rw (← c.self.view_is) at c.requires in
    let is : c.index_mut.result.now ≡ heads_of c.self.inside.variables.items c.args.var.0 = get_or_read c.self.inside.variables.items c.args.var.0 _ inside c.index_mut.ensures.value _ in
    let below = each-below _ _ _ _ _ c.self.invariant inside in
    let few = c.self.invariant.few in
    rw is (omega arith)

pub invariant_of-self : goal.invariant_of-self
invariant_of-self c =
    let inside : c.args.var.0 < length c.self.inside.variables.items = rw (← c.self.view_is) at c.requires in
    let is : c.index_mut.result.now ≡ heads_of c.self.inside.variables.items c.args.var.0 = get_or_read c.self.inside.variables.items c.args.var.0 _ inside c.index_mut.ensures.value _ in
    let all : length c.grow.new.slots ≡ c.self.inside.slots.len = search rules in
    rw (with_items_is c.self.inside.slots c.grow.new.slots all) (linked-grown c.self.inside.slots.items c.grow.new.slots _ _ _ c.args.var.0 c.grow.new.self c.self.invariant inside
    (subst (λ old. KeepsSlots old c.grow.new.slots) c.deref_mut.ensures.value c.grow.ensures.keeps)
    (subst (λ old. KeepsOthers old c.grow.new.slots c.args.var.0) c.deref_mut.ensures.value c.grow.ensures.others)
    c.grow.ensures.chained
    (c.grow.ensures.nodes ∙ ap (λ (h : Heads). h.nodes) is))
