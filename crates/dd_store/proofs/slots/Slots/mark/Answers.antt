-- One mark is set.
use Rattle.std.proofs.Common.{rules, ◌≡◌, true, is_some, sym, ap, ◌∙◌}
use Rattle.std.proofs.lemmas.List.{get_or_read}
use Rattle.dd_store.specs.Linked.{row_in, row_of_slot, next_of_slot, slot_at}
use Rattle.dd_store.proofs.SlotLemmas.{row-at}
use Rattle.dd_store.proofs.NodesLemmas.{linked-mark, marks-seen, some-within}
use Rattle.dd_store.proofs.slots.Slots.mark.Goals as goal

pub index-slot-requires : goal.index-slot-requires
index-slot-requires c =
    let some : is_some (row_in c.self.inside.slots.items c.args.node.0) ≡ true = ap is_some (sym (row-at c.self.inside.slots.items c.args.node.0)) ∙ (rw (← c.self.view_is) at c.requires) in
    let inside = some-within c.self.inside.slots.items c.args.node.0 some in
    search rules

pub index_mut-requires : goal.index_mut-requires
index_mut-requires c =
    let some : is_some (row_in c.self.inside.slots.items c.args.node.0) ≡ true = ap is_some (sym (row-at c.self.inside.slots.items c.args.node.0)) ∙ (rw (← c.self.view_is) at c.requires) in
    let inside = some-within c.self.inside.slots.items c.args.node.0 some in
    search rules

pub invariant_of-self : goal.invariant_of-self
invariant_of-self c =
    let some : is_some (row_in c.self.inside.slots.items c.args.node.0) ≡ true = ap is_some (sym (row-at c.self.inside.slots.items c.args.node.0)) ∙ (rw (← c.self.view_is) at c.requires) in
    let inside = some-within c.self.inside.slots.items c.args.node.0 some in
    let slot : c.index-slot.result.now ≡ slot_at c.self.inside.slots.items c.args.node.0 = get_or_read _ _ _ inside c.index-slot.ensures _ in
    linked-mark _ _ _ _ _ _ c.self.invariant (c.with_mark.ensures.row ∙ ap row_of_slot slot) (c.with_mark.ensures.next ∙ ap next_of_slot slot)

pub returns : goal.returns
returns c =
    let some : is_some (row_in c.self.inside.slots.items c.args.node.0) ≡ true = ap is_some (sym (row-at c.self.inside.slots.items c.args.node.0)) ∙ (rw (← c.self.view_is) at c.requires) in
    let inside = some-within c.self.inside.slots.items c.args.node.0 some in
    let slot : c.index-slot.result.now ≡ slot_at c.self.inside.slots.items c.args.node.0 = get_or_read _ _ _ inside c.index-slot.ensures _ in
    rw (← c.self.view_is) (marks-seen _ _ _ _ inside (c.with_mark.ensures.row ∙ ap row_of_slot slot) (c.with_mark.ensures.mark ∙ ap (λ s. is_some (row_of_slot s)) slot ∙ some))
