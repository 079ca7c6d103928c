-- The variable stands above the node, or is its own.
use Rattle.std.proofs.Common.{◌≡◌, ◌<◌, arith}
use Rattle.dd_store.specs.Table.{level_of}
use Rattle.dd_quant.proofs.RestrictLemmas.{answer-above, answer-own}
use Rattle.dd_quant.proofs.restriction.known.Goals as goal

pub returns-then-level-own-clause-right : goal.returns-then-level-own-clause-right
returns-then-level-own-clause-right c =
    let t = c.args.kernel.now in
    let ends = c.args.ends in
    let less : level_of t c.args.literal.var.0 < level_of t ends.var.0 = (let one = c.level-level.ensures in let two = c.level-own.ensures in omega arith) in
    answer-above t c.order-order.ensures.sound c.args.node.0 ends.var.0 ends.low.0 ends.high.0 c.requires.ends c.args.literal.var.0 c.args.literal.value c.requires.there less

pub returns-then-level-own-2-clause-right : goal.returns-then-level-own-2-clause-right
returns-then-level-own-2-clause-right c =
    let t = c.args.kernel.now in
    let ends = c.args.ends in
    let level : level_of t c.args.literal.var.0 ≡ level_of t ends.var.0 = (let one = c.level-level.ensures in let two = c.level-own.ensures in omega arith) in
    answer-own t c.order-order.ensures.sound c.args.node.0 ends.var.0 ends.low.0 ends.high.0 c.requires.ends c.args.literal.var.0 c.args.literal.value c.end.result.0 c.requires.there level
    c.requires.variable c.end.ensures
