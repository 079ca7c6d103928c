-- The node takes the place of the two handles, and is remembered.
use Rattle.dd_store.specs.Exhausted.{value_at}
use Rattle.dd_apply.specs.Split.{fork}
use Rattle.dd_apply.proofs.JoinLemmas.{joined-traded, joined-lost, joined-value, joined-cause, both-gone}
use Rattle.dd_quant.proofs.RestrictLemmas.{second-live, made-live, joined-right, answers-node, answers-grow}
use Rattle.dd_quant.proofs.restriction.join.Goals as goal

pub release-requires-2 : goal.release-requires-2
release-requires-2 c =
    second-live c.args.kernel.now c.node-made.new.self c.release.new.self c.args.low c.args.high c.node-made.result c.requires.both c.node-made.ensures.gained c.node-made.ensures.refused
    c.release.ensures.lost

pub remember_made-requires : goal.remember_made-requires
remember_made-requires c =
    made-live c.args.kernel.now c.node-made.new.self c.release-2.new.self c.order-order.ensures.sound c.args.low c.args.high c.requires.both c.node-made.ensures.grows.keeps (both-gone c.args.kernel.now c.node-made.new.self c.release.new.self c.release-2.new.self c.args.low c.args.high c.args.var.0 c.release.ensures.lost c.release-2.ensures.lost
    c.release.ensures.grows c.release-2.ensures.grows) c.node-made.result
    (joined-traded c.args.kernel.now c.node-made.new.self c.release.new.self c.release-2.new.self c.args.low c.args.high c.args.var.0 c.release.ensures.lost c.release-2.ensures.lost
    c.node-made.result c.node-made.ensures.gained)

pub returns-clause-value : goal.returns-clause-value
returns-clause-value c =
    joined-value c.args.kernel.now c.node-made.new.self c.release.new.self c.release-2.new.self c.args.low c.args.high c.args.var.0 c.release.ensures.lost c.release-2.ensures.lost
    c.node-made.result c.release.ensures.grows c.release-2.ensures.grows c.node-made.ensures.value

pub returns-clause-traded : goal.returns-clause-traded
returns-clause-traded c =
    joined-traded c.args.kernel.now c.node-made.new.self c.release.new.self c.release-2.new.self c.args.low c.args.high c.args.var.0 c.release.ensures.lost c.release-2.ensures.lost
    c.node-made.result c.node-made.ensures.gained

pub returns-clause-lost : goal.returns-clause-lost
returns-clause-lost c =
    joined-lost c.args.kernel.now c.node-made.new.self c.release.new.self c.release-2.new.self c.args.low c.args.high c.args.var.0 c.release.ensures.lost c.release-2.ensures.lost
    c.node-made.result c.node-made.ensures.refused

pub returns-clause-cause : goal.returns-clause-cause
returns-clause-cause c =
    joined-cause c.args.kernel.now c.node-made.new.self c.release.new.self c.release-2.new.self c.args.low c.args.high c.args.var.0 c.release.ensures.lost c.release-2.ensures.lost
    c.node-made.result c.node-made.ensures.grows.keeps c.node-made.ensures.refused c.release.ensures.grows c.release-2.ensures.grows c.node-made.ensures.cause

pub returns-clause-right : goal.returns-clause-right
returns-clause-right c =
    let t = c.args.kernel.now in
    let u = c.node-made.new.self in
    let x = c.release-2.new.self in
    let v = c.args.literal.var.0 in
    let b = c.args.literal.value in
    let sound = c.order-order.ensures.sound in
    let answers = c.forget_unless_room.new.answers.items in
    let trade = joined-traded t u c.release.new.self x c.args.low c.args.high c.args.var.0 c.release.ensures.lost c.release-2.ensures.lost c.node-made.result c.node-made.ensures.gained in
    let value = joined-value t u c.release.new.self x c.args.low c.args.high c.args.var.0 c.release.ensures.lost c.release-2.ensures.lost
    c.node-made.result c.release.ensures.grows c.release-2.ensures.grows c.node-made.ensures.value in
    joined-right t u x sound c.args.low c.args.high c.requires.both c.node-made.ensures.grows.keeps (both-gone c.args.kernel.now c.node-made.new.self c.release.new.self c.release-2.new.self c.args.low c.args.high c.args.var.0 c.release.ensures.lost c.release-2.ensures.lost
    c.release.ensures.grows c.release-2.ensures.grows) v b c.args.node.0
    (fork c.args.var.0 (value_at t c.args.low) (value_at t c.args.high)) answers c.remember_made.new.answers.items c.node-made.result c.requires.held c.requires.asked c.node-made.ensures.gained
    (made-live t u x sound c.args.low c.args.high c.requires.both c.node-made.ensures.grows.keeps (both-gone c.args.kernel.now c.node-made.new.self c.release.new.self c.release-2.new.self c.args.low c.args.high c.args.var.0 c.release.ensures.lost c.release-2.ensures.lost
    c.release.ensures.grows c.release-2.ensures.grows) c.node-made.result trade) value
    (answers-grow u x v b answers (both-gone c.args.kernel.now c.node-made.new.self c.release.new.self c.release-2.new.self c.args.low c.args.high c.args.var.0 c.release.ensures.lost c.release-2.ensures.lost
    c.release.ensures.grows c.release-2.ensures.grows)
    (answers-node t u v b _ c.args.low c.args.high c.args.answers.now.items answers sound c.node-made.ensures.grows.keeps c.node_of.ensures.place c.node_of-2.ensures.place
    c.forget_unless_room.ensures c.node-made.ensures.stays c.requires.right))
    c.remember_made.ensures
