-- The node stands under the first free number.
use Rattle.std.proofs.Common.{rules, ◌≡◌, length, ap, ◌∙◌, subst, arith}
use Rattle.std.proofs.Math.ListN.{set}
use Rattle.std.proofs.lemmas.List.{length-map, with_items_is, get_or_read}
use Rattle.dd_store.specs.Linked.{IsPlace, heads_of, row_of_slot, next_of_slot, slot_at}
use Rattle.dd_store.proofs.SweepLemmas.{each-le}
use Rattle.dd_store.proofs.PutLemmas.{reuse-node}
use Rattle.dd_store.proofs.NodesLemmas.{adds-reuse, free-some, free-first}
use Rattle.dd_store.proofs.slots.Slots.reuse.Goals as goal

pub index-requires : goal.index-requires
index-requires c =
    let first = free-first _ _ _ _ c.self.invariant (free-some _ _ _ _ c.self.invariant (rw (← c.self.view_is) at c.requires.free)) in
    let inside = first.1 in
    search rules

pub hang-next-requires-clause-room : goal.hang-next-requires-clause-room
hang-next-requires-clause-room c =
    let below = each-le _ _ _ _ c.args.row.var.0 c.self.invariant (rw (← c.self.view_is) at c.requires.variable) in
    let less = rw (← c.self.view_is) at c.requires.free in
    let size = length-map c.self.inside.slots.items row_of_slot in
    let few = c.self.invariant.few in
    rw c.deref_mut.ensures.value (omega arith)

pub index_mut-requires : goal.index_mut-requires
index_mut-requires c =
    let first = free-first _ _ _ _ c.self.invariant (free-some _ _ _ _ c.self.invariant (rw (← c.self.view_is) at c.requires.free)) in
    let inside = first.1 in
    search rules

pub invariant_of-self : goal.invariant_of-self
invariant_of-self c =
    let some = free-some _ _ _ _ c.self.invariant (rw (← c.self.view_is) at c.requires.free) in
    let first = free-first _ _ _ _ c.self.invariant some in
    let all : length c.hang-next.new.variables ≡ c.self.inside.variables.len = search rules in
    let slot : c.index.result.now ≡ slot_at c.self.inside.slots.items c.self.inside.free.0 = get_or_read _ _ _ first.1 c.index.ensures _ in
    let place = subst (λ xs. IsPlace xs c.self.inside.free.0 c.args.row c.hang-next.result (heads_of c.hang-next.new.variables c.args.row.var.0)) c.deref_mut.ensures.value c.hang-next.ensures.place in
    let variables = with_items_is c.self.inside.variables c.hang-next.new.variables all ∙ c.hang-next.ensures.others ∙ ap (λ xs. set xs c.args.row.var.0 (heads_of c.hang-next.new.variables c.args.row.var.0)) c.deref_mut.ensures.value in
    let next = c.next-self-inside.ensures ∙ ap next_of_slot slot in
    rw (next, variables) (reuse-node _ _ _ _ _ _ _ c.self.invariant some place)

pub returns : goal.returns
returns c =
    let less = rw (← c.self.view_is) at c.requires.free in
    let first = free-first _ _ _ _ c.self.invariant (free-some _ _ _ _ c.self.invariant less) in
    let all : length c.hang-next.new.variables ≡ c.self.inside.variables.len = search rules in
    let known : length c.hang-next.new.variables ≡ length c.self.inside.variables.items = search rules in
    record { added = rw (← c.self.view_is) (adds-reuse _ _ _ _ _ _ first less (ap length (with_items_is c.self.inside.variables c.hang-next.new.variables all) ∙ known)) }
