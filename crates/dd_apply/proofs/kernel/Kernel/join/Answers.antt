-- The node takes the place of the two handles, and is the answer to the question.
use Rattle.std.proofs.Common.{subst}
use Rattle.dd_store.specs.Changes.{Grows}
use Rattle.dd_store.specs.Handles.{LosesHandle}
use Rattle.dd_store.specs.Table.{Table}
use Rattle.dd_apply.proofs.JoinLemmas.{made-right, joined-traded, joined-lost, joined-value, joined-cause, both-gone, both-there}
use Rattle.dd_apply.proofs.MadeLemmas.{stays-node, stays-handles}
use Rattle.dd_apply.specs.Split.{fork}
use Rattle.dd_store.specs.Exhausted.{value_at}
use Rattle.dd_apply.proofs.kernel.Kernel.join.Goals as goal

pub keep_made-requires-clause-right : goal.keep_made-requires-clause-right
keep_made-requires-clause-right c =
    made-right c.args.self.now c.node-made.new.self c.args.question c.args.var.0 c.args.low c.args.high c.node-made.result c.order-order.ensures.sound
    c.node-made.ensures.grows.keeps c.node-made.ensures.gained c.requires.asked c.node-made.ensures.value

first : (c : goal.After-release-2) → LosesHandle c.node-made.new.self c.release.new.self c.args.low
first c = subst (λ (t : Table). LosesHandle t c.release.new.self c.args.low) c.keep_made.ensures c.release.ensures.lost

grows : (c : goal.After-release-2) → Grows c.node-made.new.self c.release.new.self 0
grows c = subst (λ (t : Table). Grows t c.release.new.self 0) c.keep_made.ensures c.release.ensures.grows

pub returns-clause-value : goal.returns-clause-value
returns-clause-value c =
    joined-value c.args.self.now c.node-made.new.self c.release.new.self c.release-2.new.self c.args.low c.args.high c.args.var.0 (first c) c.release-2.ensures.lost
    c.node-made.result (grows c) c.release-2.ensures.grows c.node-made.ensures.value

pub returns-clause-traded : goal.returns-clause-traded
returns-clause-traded c =
    joined-traded c.args.self.now c.node-made.new.self c.release.new.self c.release-2.new.self c.args.low c.args.high c.args.var.0 (first c) c.release-2.ensures.lost
    c.node-made.result c.node-made.ensures.gained

pub returns-clause-lost : goal.returns-clause-lost
returns-clause-lost c =
    joined-lost c.args.self.now c.node-made.new.self c.release.new.self c.release-2.new.self c.args.low c.args.high c.args.var.0 (first c) c.release-2.ensures.lost
    c.node-made.result c.node-made.ensures.refused

pub returns-clause-cause : goal.returns-clause-cause
returns-clause-cause c =
    joined-cause c.args.self.now c.node-made.new.self c.release.new.self c.release-2.new.self c.args.low c.args.high c.args.var.0 (first c) c.release-2.ensures.lost
    c.node-made.result c.node-made.ensures.grows.keeps c.node-made.ensures.refused (grows c) c.release-2.ensures.grows c.node-made.ensures.cause

pub returns-clause-stays : goal.returns-clause-stays
returns-clause-stays c =
    let t = c.args.self.now in
    let u = c.node-made.new.self in
    let asked = fork c.args.var.0 (value_at t c.args.low) (value_at t c.args.high) in
    let sound = c.order-order.ensures.sound in
    let there = both-there t c.args.low c.args.high sound c.requires.both in
    let done = c.node-made.ensures in
    stays-handles t u c.release-2.new.self asked
    (both-gone t u c.release.new.self c.release-2.new.self c.args.low c.args.high c.args.var.0 (first c) c.release-2.ensures.lost (grows c) c.release-2.ensures.grows)
    done.grows.keeps.sound
    (stays-node t u c.args.var.0 c.args.low c.args.high sound done.grows.keeps c.requires.variable there.0 there.1 c.requires.above_low c.requires.above_high
    c.node-made.result done.stays done.others done.no_more done.value)
