-- The numbers were put into their chains anew.
use Rattle.std.proofs.Common.{rules, ◌≡◌, length, ap, ◌∙◌, subst, arith}
use Rattle.std.specs.Vec.{with_items}
use Rattle.std.proofs.lemmas.List.{with_items_is}
use Rattle.dd_store.specs.Linked.{SweepsSlots}
use Rattle.dd_store.proofs.NodesLemmas.{sweeps-seen, sweeps-fewer}
use Rattle.dd_store.proofs.slots.Slots.sweep.Goals as goal

pub overflow_sub-result : goal.overflow_sub-result
overflow_sub-result c =
    let swept' = subst (λ old. SweepsSlots old c.relink-nodes.new.slots) c.deref_mut-2.ensures.value c.relink-nodes.ensures.swept in
    let less = sweeps-fewer _ _ swept' in
    let before = c.self.invariant.count in
    let after = c.relink-nodes.ensures.linked.count in
    omega arith

pub returns-clause-swept : goal.returns-clause-swept
returns-clause-swept c =
    let swept' = subst (λ old. SweepsSlots old c.relink-nodes.new.slots) c.deref_mut-2.ensures.value c.relink-nodes.ensures.swept in
    let all : length c.relink-nodes.new.slots ≡ c.self.inside.slots.len = search rules in
    let known : length c.relink-nodes.new.variables ≡ length c.self.inside.variables.items = search rules in
    let variables : length c.relink-nodes.new.variables ≡ c.self.inside.variables.len = search rules in
    rw (← c.self.view_is, with_items_is c.self.inside.slots c.relink-nodes.new.slots all) (sweeps-seen _ _ _ _ (ap length (with_items_is (with_items c.self.inside.variables c.clear.new.variables) c.relink-nodes.new.variables variables) ∙ known) swept')

pub returns-clause-count : goal.returns-clause-count
returns-clause-count c =
    let swept' = subst (λ old. SweepsSlots old c.relink-nodes.new.slots) c.deref_mut-2.ensures.value c.relink-nodes.ensures.swept in
    let less = sweeps-fewer _ _ swept' in
    let before = c.self.invariant.count in
    let after = c.relink-nodes.ensures.linked.count in
    let all : length c.relink-nodes.new.slots ≡ c.self.inside.slots.len = search rules in
    rw (← c.self.view_is, with_items_is c.self.inside.slots c.relink-nodes.new.slots all) (omega arith)
