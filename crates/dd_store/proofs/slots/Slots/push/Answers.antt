-- The node stands behind the last number.
use Rattle.std.proofs.Common.{rules, ◌≡◌, [], ◌∷◌, ◌++◌, false, length, ap, ◌∙◌, subst, arith}
use Rattle.std.proofs.Math.ListN.{set}
use Rattle.std.proofs.lemmas.List.{length-map, with_items_is}
use Rattle.dd_store.specs.declared.slots.slot.Slot.TheVariants.{Node}
use Rattle.dd_store.specs.Linked.{IsPlace, heads_of, row_of_slot}
use Rattle.dd_store.proofs.SweepLemmas.{each-below}
use Rattle.dd_store.proofs.PutLemmas.{push-node}
use Rattle.dd_store.proofs.NodesLemmas.{adds-push}
use Rattle.dd_store.proofs.slots.Slots.push.Goals as goal

pub hang-next-requires-clause-room : goal.hang-next-requires-clause-room
hang-next-requires-clause-room c =
    let size = length-map c.self.inside.slots.items row_of_slot in
    let room = rw (← c.self.view_is) at c.requires.room in
    let full = rw (← c.self.view_is) at c.requires.full in
    let below = each-below _ _ _ _ c.args.row.var.0 c.self.invariant (rw (← c.self.view_is) at c.requires.variable) in
    rw c.deref_mut.ensures.value (omega arith)

pub invariant_of-self-2 : goal.invariant_of-self-2
invariant_of-self-2 c =
    let size = length-map c.self.inside.slots.items row_of_slot in
    let room = rw (← c.self.view_is) at c.requires.room in
    let full = rw (← c.self.view_is) at c.requires.full in
    let slots = c.push_within_capacity.ensures ∙ ap (λ xs. xs ++ Node false c.args.row c.hang-next.result ∷ []) c.in_ok-reserve.ensures.items in
    let all : length c.hang-next.new.variables ≡ c.self.inside.variables.len = search rules in
    let last : length c.self.inside.slots.items ≡ c.len.result = search rules in
    let place = subst (λ xs. IsPlace xs c.len.result c.args.row c.hang-next.result (heads_of c.hang-next.new.variables c.args.row.var.0)) c.deref_mut.ensures.value c.hang-next.ensures.place in
    let variables = with_items_is c.self.inside.variables c.hang-next.new.variables all ∙ c.hang-next.ensures.others ∙ ap (λ xs. set xs c.args.row.var.0 (heads_of c.hang-next.new.variables c.args.row.var.0)) c.deref_mut.ensures.value in
    rw (slots, variables) (push-node _ _ _ _ _ _ _ _ c.self.invariant last (omega arith) place)

pub returns-clause-added : goal.returns-clause-added
returns-clause-added c =
    let full = rw (← c.self.view_is) at c.requires.full in
    let slots = c.push_within_capacity.ensures ∙ ap (λ xs. xs ++ Node false c.args.row c.hang-next.result ∷ []) c.in_ok-reserve.ensures.items in
    let last : length c.self.inside.slots.items ≡ c.len.result = search rules in
    let all : length c.hang-next.new.variables ≡ c.self.inside.variables.len = search rules in
    let known : length c.hang-next.new.variables ≡ length c.self.inside.variables.items = search rules in
    rw (← c.self.view_is, slots) (adds-push _ _ _ _ _ _ _ _ _ c.self.invariant last full (ap length (with_items_is c.self.inside.variables c.hang-next.new.variables all) ∙ known))
