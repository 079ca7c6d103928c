-- The chain is walked to its end.
use Rattle.std.proofs.Common.{rules, ◌≡◌, ◌≢◌, Some, sym, ◌∙◌, inl, arith}
use Rattle.std.proofs.lemmas.Bool.{true≢false}
use Rattle.dd_store.specs.Linked.{row_in}
use Rattle.dd_store.proofs.FindLemmas.{left-start, left-within, left-ended, left-step}
use Rattle.dd_store.proofs.slots.find.find_in.Goals as goal
use Rattle.dd_store.proofs.slots.find.find_in.Goals.{After-holds}

pub loop-init : goal.loop-init
loop-init c = left-start _ _ _ _ c.requires c.head-node.ensures.head c.head-node.ensures.within

pub returns-then-eq-clause-absent : goal.returns-then-eq-clause-absent
returns-then-eq-clause-absent c =
    let ended : c.loop.node.0 ≡ 0 = grind arith in
    left-ended _ _ _ _ c.loop.invariant (inl ended)

pub overflow_cast-slot : goal.overflow_cast-slot
overflow_cast-slot c =
    let some : c.loop.node.0 ≢ 0 = grind arith in
    let inside = left-within _ _ _ _ c.loop.invariant some in
    search rules

pub offset_bounds-slots-node : goal.offset_bounds-slots-node
offset_bounds-slots-node c =
    let some : c.loop.node.0 ≢ 0 = grind arith in
    let inside = left-within _ _ _ _ c.loop.invariant some in
    search rules

pub bounds-slots-node : goal.bounds-slots-node
bounds-slots-node c =
    let some : c.loop.node.0 ≢ 0 = grind arith in
    left-within _ _ _ _ c.loop.invariant some

pub loop-preserved : goal.loop-preserved
loop-preserved c =
    let some : c.loop.node.0 ≢ 0 = grind arith in
    let other : row_in c.args.slots.now c.loop.node.0 ≢ Some c.args.row.now = λ is. true≢false (sym (c.holds.ensures.1 is) ∙ c.if-holds.false) in
    rw c.next-node.ensures (left-step _ _ _ _ c.loop.invariant some other)
