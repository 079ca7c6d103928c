-- A node can be true where one of its open ends can.
use Rattle.std.proofs.Common.{◌≡◌, ◌==◌}
use Rattle.dd_quant.specs.steps.Walk.{CanBe}
use Rattle.dd_quant.proofs.WalkLemmas.{constant-can-be, decided-low, decided-high, told-value, told-found}
use Rattle.dd_quant.proofs.possibility.+can_be.Goals as goal

pub returns-in_default-clause-value : goal.returns-in_default-clause-value
returns-in_default-clause-value t c =
    let is : c.eq.result ≡ (c.args.node.0 == 1) = c.eq.ensures in
    constant-can-be c.args.kernel.now c.order-order.ensures.sound c.args.values.now c.args.node.0 c.eq.result c.in_default.ensures.constants is

pub returns-then-branch-clause-value : goal.returns-then-branch-clause-value
returns-then-branch-clause-value t c =
    let s = c.args.kernel.now in
    let ends = c.in-Some.ends in
    told-value (CanBe s c.args.values.now c.args.node.0) c.keep.result _ c.keep.ensures.answer
    (decided-low s c.order-order.ensures.sound c.args.values.now c.args.node.0 ends.var.0 ends.low.0 ends.high.0 c.in-Some.ensures.ends c.in_ok-can_be.field-0 c.if-branch.true c.in_ok-can_be.ensures.value)

pub returns-then-branch-clause-found : goal.returns-then-branch-clause-found
returns-then-branch-clause-found t c =
    let s = c.args.kernel.now in
    let ends = c.in-Some.ends in
    told-found s c.args.values.now c.can_be.new.marks c.keep.new.self c.args.node.0 _ c.keep.result c.in_ok-can_be.ensures.found
    (decided-low s c.order-order.ensures.sound c.args.values.now c.args.node.0 ends.var.0 ends.low.0 ends.high.0 c.in-Some.ensures.ends c.in_ok-can_be.field-0 c.if-branch.true c.in_ok-can_be.ensures.value)
    c.keep.ensures.kept c.keep.ensures.others

pub returns-clause-value : goal.returns-clause-value
returns-clause-value t c =
    let s = c.args.kernel.now in
    let ends = c.in-Some.ends in
    told-value (CanBe s c.args.values.now c.args.node.0) c.keep-2.result _ c.keep-2.ensures.answer
    (decided-high s c.order-order.ensures.sound c.args.values.now c.args.node.0 ends.var.0 ends.low.0 ends.high.0 c.in-Some.ensures.ends
    c.in_ok-can_be.field-0 c.in_ok-by_high.by_high c.if-branch.false c.in_ok-can_be.ensures.value c.in_ok-by_high.ensures.value)

pub returns-clause-found : goal.returns-clause-found
returns-clause-found t c =
    let s = c.args.kernel.now in
    let ends = c.in-Some.ends in
    told-found s c.args.values.now c.can_be-2.new.marks c.keep-2.new.self c.args.node.0 _ c.keep-2.result c.in_ok-by_high.ensures.found
    (decided-high s c.order-order.ensures.sound c.args.values.now c.args.node.0 ends.var.0 ends.low.0 ends.high.0 c.in-Some.ensures.ends
    c.in_ok-can_be.field-0 c.in_ok-by_high.by_high c.if-branch.false c.in_ok-can_be.ensures.value c.in_ok-by_high.ensures.value)
    c.keep-2.ensures.kept c.keep-2.ensures.others
