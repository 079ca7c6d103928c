-- Kept results stay right where no node leaves, and else none is kept.
use Rattle.std.proofs.Common.{◌≡◌, Err, OnErr, List, inl, inr, subst, sym}
use Rattle.dd_store.specs.declared.row.NodeNo.{NodeNo}
use Rattle.dd_store.specs.declared.refusal.Refusal.TheVariants.{OverBudget}
use Rattle.dd_store.specs.Changes.{IsFullFor, IsCollected, AreKeptAlive}
use Rattle.dd_store.specs.Table.{Table, row_with, handle_count}
use Rattle.dd_apply.specs.declared.question.Question.{Question}
use Rattle.dd_apply.specs.Right.{AreRight}
use Rattle.dd_apply.proofs.RightLemmas.{right-stays, right-none, room-not-full}
use Rattle.dd_apply.proofs.kernel.Kernel.node.Goals as goal

pub invariant_of-self : goal.invariant_of-self
invariant_of-self c = elim c.forget_unless_room.ensures [
  | inl room ↦
      let stays = c.node-made.ensures.stays (room-not-full c.self.inside.store _ c.args.low.now c.args.high.now c.node_of-low_node.ensures.place c.node_of-high_node.ensures.place room.0) in
      right-stays c.self.inside.store c.node-made.new.self c.forget_unless_room.new.results c.nodes-before.ensures.sound c.node-made.ensures.grows.keeps stays
      (subst (λ (es : List (Question × NodeNo)). AreRight c.self.inside.store es) (sym room.1) c.self.invariant)
  | inr none ↦ subst (λ (es : List (Question × NodeNo)). AreRight c.node-made.new.self es) (sym none) (right-none c.node-made.new.self)
]

pub returns-clause-collected_no_more : goal.returns-clause-collected_no_more
returns-clause-collected_no_more c =
    subst (λ (t : Table). IsFullFor t (row_with c.args.var.0 c.args.low.now c.args.high.now) → OnErr c.node-made.result (IsCollected t c.node-made.new.self))
    c.self.view_is c.node-made.ensures.collected_no_more

pub returns-clause-over_budget : goal.returns-clause-over_budget
returns-clause-over_budget c =
    subst (λ (t : Table). IsFullFor t (row_with c.args.var.0 c.args.low.now c.args.high.now) → AreKeptAlive t → c.node-made.result ≡ Err (OverBudget t.budget (handle_count t)))
    c.self.view_is c.node-made.ensures.over_budget
