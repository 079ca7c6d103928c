-- The node is added with a handle on it.
use Rattle.std.proofs.Common.{◌≡◌, ◌+◌, ◌<◌, List, ℕ, Bool, get_or, length, sum, if◌then◌else◌, ap, sym, ◌∙◌, subst, refl, arith}
use Rattle.std.proofs.Math.ListN.{set}
use Rattle.dd_store.specs.Changes.{Grows}
use Rattle.dd_store.specs.Handles.{GainsHandle}
use Rattle.dd_store.specs.Table.{Table, row_of, node_count, value_of}
use Rattle.dd_store.proofs.AddLemmas.{CanTake, Added, added, rows-fit}
use Rattle.dd_store.proofs.CollectLemmas.{table_of}
use Rattle.dd_store.proofs.store.Store.add.Goals as goal

pub count_up_to-requires-clause-next : goal.count_up_to-requires-clause-next
count_up_to-requires-clause-next c =
    let kept = c.self.invariant in
    let adds = c.in_ok-node.ensures.added in
    let constants = kept.constants in
    let counted = kept.counted in
    let fit = rows-fit c.self.inside.slots.rows constants kept.sound.reduced.rows.no_is_constant kept.sound.reduced.rows.yes_is_constant in
    let size = adds.size in
    let count = adds.count in
    let reserved = ap length c.reserve.ensures.items in
    let len = c.len.ensures.size in
    omega arith

-- the table before the call
abbrev before : goal.After-self-2-1 → Table
before c = table_of c.self.inside.slots.rows c.self.inside.order.items c.self.inside.counts.items c.self.inside.budget

abbrev after : goal.After-self-2-1 → Table
after c = table_of c.add.new.self.rows c.self.inside.order.items (set c.count_up_to.new.counts.items c.in_ok-node.node.0 (c.index_mut.result.now + 1)) c.self.inside.budget

can : (c : goal.After-self-2-1) → CanTake (before c).order (row_of (before c)) c.args.row
can c = subst (λ t. CanTake t.order (row_of t) c.args.row) (sym c.self.view_is) (record {
  variable = c.requires.variable;
  ends_there = c.requires.ends_there;
  above = c.requires.above;
  differ = c.requires.differ;
  absent = c.requires.absent;
})

made : (c : goal.After-self-2-1) → Added (before c) (after c)
    (record { marks = c.add.new.self.marks; variables = c.add.new.self.variables; live = c.self.inside.live + 1; levels = c.self.inside.levels.items })
    c.in_ok-node.node.0 c.args.row
made c =
    let room : node_count (before c) < (before c).budget = subst (λ (t : Table). node_count t < t.budget) (sym c.self.view_is) c.requires.room in
    added (before c) _ c.self.inside.slots c.add.new.self c.count_up_to.new.counts.items c.in_ok-node.node.0 c.index_mut.result.now c.args.row
    c.self.invariant (can c) room refl refl refl c.in_ok-node.ensures.added (c.count_up_to.ensures.length ∙ c.len.ensures.size)
    (λ n. c.count_up_to.ensures.same n ∙ ap (λ (xs : List ℕ). get_or xs n 0) c.reserve.ensures.items)
    (c.count_up_to.ensures.total ∙ ap sum c.reserve.ensures.items) c.index_mut.ensures.value

pub invariant_of-self-2 : goal.invariant_of-self-2
invariant_of-self-2 c = (made c).kept

pub returns-clause-value : goal.returns-clause-value
returns-clause-value c =
    subst (λ (t : Table). (a : ℕ → Bool) → value_of (after c) c.in_ok-node.node.0 a ≡ (if a c.args.row.var.0 then value_of t c.args.row.high.0 a else value_of t c.args.row.low.0 a))
    c.self.view_is (made c).value

pub returns-clause-gained : goal.returns-clause-gained
returns-clause-gained c = subst (λ (t : Table). GainsHandle t (after c) c.in_ok-node.node.0) c.self.view_is (made c).gains

pub returns-clause-grows : goal.returns-clause-grows
returns-clause-grows c = subst (λ (t : Table). Grows t (after c) 1) c.self.view_is (made c).grows
