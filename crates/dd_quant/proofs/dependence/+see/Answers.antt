-- What both ends depend on, and the node's own variable.
use Rattle.std.proofs.Common.{◌<◌, length, arith}
use Rattle.dd_quant.proofs.SupportLemmas.{constant-covered, node-covered, node-more, marked-covered}
use Rattle.dd_quant.proofs.dependence.+see.Goals as goal

pub returns-in_default-clause-here : goal.returns-in_default-clause-here
returns-in_default-clause-here t c = constant-covered c.args.kernel.now c.order-order.ensures.sound c.args.seen.now c.args.node.0 c.in_default.ensures.constants

pub returns-clause-covered : goal.returns-clause-covered
returns-clause-covered t c =
    let s = c.args.kernel.now in
    let ends = c.in-Some.ends in
    let e = c.in-Some.ensures.ends in
    let sound = c.order-order.ensures.sound in
    let first = c.in_ok-see.ensures.more in
    let second = c.in_ok-see-2.ensures.more in
    let inside : ends.var.0 < length c.see-2.new.seen = (let one = first.number in let two = second.number in let each = c.requires.each in let below = sound.numbered ends.var.0 e.variable in omega arith) in
    marked-covered s sound c.args.node.0 ends.var.0 ends.low.0 ends.high.0 e c.args.seen.now c.see.new.seen c.see-2.new.seen first second inside
    c.see-2.new.marks c.keep.new.self c.in_ok-see.ensures.here c.in_ok-see-2.ensures.here c.in_ok-see-2.ensures.covered c.keep.ensures.others

pub returns-clause-here : goal.returns-clause-here
returns-clause-here t c =
    let s = c.args.kernel.now in
    let ends = c.in-Some.ends in
    let e = c.in-Some.ensures.ends in
    let sound = c.order-order.ensures.sound in
    let first = c.in_ok-see.ensures.more in
    let second = c.in_ok-see-2.ensures.more in
    let inside : ends.var.0 < length c.see-2.new.seen = (let one = first.number in let two = second.number in let each = c.requires.each in let below = sound.numbered ends.var.0 e.variable in omega arith) in
    node-covered s sound c.args.node.0 ends.var.0 ends.low.0 ends.high.0 e c.args.seen.now c.see.new.seen c.see-2.new.seen first second inside
    c.in_ok-see.ensures.here c.in_ok-see-2.ensures.here

pub returns-clause-more : goal.returns-clause-more
returns-clause-more t c =
    let s = c.args.kernel.now in
    let ends = c.in-Some.ends in
    let e = c.in-Some.ensures.ends in
    let sound = c.order-order.ensures.sound in
    let first = c.in_ok-see.ensures.more in
    let second = c.in_ok-see-2.ensures.more in
    let inside : ends.var.0 < length c.see-2.new.seen = (let one = first.number in let two = second.number in let each = c.requires.each in let below = sound.numbered ends.var.0 e.variable in omega arith) in
    node-more s sound c.args.node.0 ends.var.0 ends.low.0 ends.high.0 e c.args.seen.now c.see.new.seen c.see-2.new.seen first second inside
