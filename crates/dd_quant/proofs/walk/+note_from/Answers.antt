-- What is noted of the ends and their edges is noted of the node.
use Rattle.std.proofs.Common.{◌≡◌, ◌∙◌, ◌==◌, true, false, arith}
use Rattle.dd_quant.specs.steps.Walk.{CanBe}
use Rattle.dd_quant.specs.steps.Noted.{IsNotedFrom, NotesMore}
use Rattle.dd_quant.proofs.WalkLemmas.{constant-can-be, fewer-below, told-value, told-found}
use Rattle.dd_quant.proofs.StepLemmas.{either-can, more-whole, from-whole, marks-whole, edge-marks, noted-told, told-all}
use Rattle.dd_quant.proofs.walk.+note_from.Goals as goal

pub returns-in_default-clause-value : goal.returns-in_default-clause-value
returns-in_default-clause-value t c =
    let is : c.eq.result ≡ (c.args.node.0 == 1) = c.eq.ensures in
    constant-can-be c.args.kernel.now c.order-order.ensures.sound c.args.values.now c.args.node.0 c.eq.result c.in_default.ensures.constants is

pub note_from-requires-2 : goal.note_from-requires-2
note_from-requires-2 t c =
    let s = c.args.kernel.now in
    let ends = c.in-Some.ends in
    let less = fewer-below s c.order-order.ensures.sound c.args.values.now c.args.node.0 ends.var.0 ends.low.0 ends.high.0 c.in-Some.ensures.ends true in
    let number = c.note_edge.ensures.offers_number ∙ c.in_ok-by_low.ensures.more.offers_number ∙ c.requires.number in
    let levels = c.note_edge.ensures.far_number ∙ c.in_ok-by_low.ensures.more.far_number ∙ c.requires.levels in
    let noted = edge-marks s c.args.values.now c.note_from.new.marks c.in_ok-by_low.by_low ends.var.0 false _ _ c.note_from.new.offers c.note_edge.new.offers c.note_from.new.far c.note_edge.new.far c.note_edge.ensures c.in_ok-by_low.ensures.noted in
    (omega arith, (c.in-Some.ensures.ends.high_there, (c.requires.each, (number, (levels, (c.in_ok-by_low.ensures.found, noted))))))

pub returns-clause-value : goal.returns-clause-value
returns-clause-value t c =
    let s = c.args.kernel.now in
    let ends = c.in-Some.ends in
    told-value (CanBe s c.args.values.now c.args.node.0) c.keep.result c.is_either.result c.keep.ensures.answer (either-can s c.order-order.ensures.sound c.args.values.now c.args.node.0 ends.var.0 ends.low.0 ends.high.0 c.in-Some.ensures.ends c.in_ok-by_low.by_low c.in_ok-by_high.by_high c.is_either.result c.in_ok-by_low.ensures.value c.in_ok-by_high.ensures.value c.is_either.ensures)

pub returns-clause-found : goal.returns-clause-found
returns-clause-found t c =
    let s = c.args.kernel.now in
    let ends = c.in-Some.ends in
    told-found s c.args.values.now c.note_from-2.new.marks c.keep.new.self c.args.node.0 c.is_either.result c.keep.result c.in_ok-by_high.ensures.found
    (either-can s c.order-order.ensures.sound c.args.values.now c.args.node.0 ends.var.0 ends.low.0 ends.high.0 c.in-Some.ensures.ends c.in_ok-by_low.by_low c.in_ok-by_high.by_high c.is_either.result c.in_ok-by_low.ensures.value c.in_ok-by_high.ensures.value c.is_either.ensures)
    c.keep.ensures.kept c.keep.ensures.others

pub returns-clause-noted : goal.returns-clause-noted
returns-clause-noted t c =
    let s = c.args.kernel.now in
    let ends = c.in-Some.ends in
    noted-told s c.args.values.now c.note_from-2.new.marks c.keep.new.self c.note_edge-2.new.offers c.note_edge-2.new.far c.args.node.0 c.keep.result
    (marks-whole s c.order-order.ensures.sound c.args.values.now c.args.node.0 ends.var.0 ends.low.0 ends.high.0 c.in-Some.ensures.ends c.args.offers.now c.note_from.new.offers c.note_edge.new.offers c.note_from-2.new.offers c.note_edge-2.new.offers
    c.args.far.now c.note_from.new.far c.note_edge.new.far c.note_from-2.new.far c.note_edge-2.new.far c.in_ok-by_low.by_low c.in_ok-by_high.by_high
    c.in_ok-by_low.ensures.value c.in_ok-by_high.ensures.value c.in_ok-by_low.ensures.more c.note_edge.ensures c.in_ok-by_high.ensures.more c.note_edge-2.ensures c.note_from-2.new.marks c.in_ok-by_high.ensures.noted)
    (from-whole s c.order-order.ensures.sound c.args.values.now c.args.node.0 ends.var.0 ends.low.0 ends.high.0 c.in-Some.ensures.ends c.args.offers.now c.note_from.new.offers c.note_edge.new.offers c.note_from-2.new.offers c.note_edge-2.new.offers
    c.args.far.now c.note_from.new.far c.note_edge.new.far c.note_from-2.new.far c.note_edge-2.new.far c.in_ok-by_low.by_low c.in_ok-by_high.by_high
    c.in_ok-by_low.ensures.value c.in_ok-by_high.ensures.value c.in_ok-by_low.ensures.more c.note_edge.ensures c.in_ok-by_high.ensures.more c.note_edge-2.ensures c.in_ok-by_low.ensures.from c.in_ok-by_high.ensures.from) c.keep.ensures.others

pub returns-clause-from : goal.returns-clause-from
returns-clause-from t c =
    let s = c.args.kernel.now in
    let ends = c.in-Some.ends in
    told-all (IsNotedFrom s c.args.values.now c.note_edge-2.new.offers c.note_edge-2.new.far c.args.node.0) c.keep.result
    (from-whole s c.order-order.ensures.sound c.args.values.now c.args.node.0 ends.var.0 ends.low.0 ends.high.0 c.in-Some.ensures.ends c.args.offers.now c.note_from.new.offers c.note_edge.new.offers c.note_from-2.new.offers c.note_edge-2.new.offers
    c.args.far.now c.note_from.new.far c.note_edge.new.far c.note_from-2.new.far c.note_edge-2.new.far c.in_ok-by_low.by_low c.in_ok-by_high.by_high
    c.in_ok-by_low.ensures.value c.in_ok-by_high.ensures.value c.in_ok-by_low.ensures.more c.note_edge.ensures c.in_ok-by_high.ensures.more c.note_edge-2.ensures c.in_ok-by_low.ensures.from c.in_ok-by_high.ensures.from)

pub returns-clause-more : goal.returns-clause-more
returns-clause-more t c =
    let s = c.args.kernel.now in
    let ends = c.in-Some.ends in
    told-all (NotesMore s c.args.values.now c.args.node.0 c.args.offers.now c.note_edge-2.new.offers c.args.far.now c.note_edge-2.new.far) c.keep.result
    (more-whole s c.order-order.ensures.sound c.args.values.now c.args.node.0 ends.var.0 ends.low.0 ends.high.0 c.in-Some.ensures.ends c.args.offers.now c.note_from.new.offers c.note_edge.new.offers c.note_from-2.new.offers c.note_edge-2.new.offers
    c.args.far.now c.note_from.new.far c.note_edge.new.far c.note_from-2.new.far c.note_edge-2.new.far c.in_ok-by_low.by_low c.in_ok-by_high.by_high
    c.in_ok-by_low.ensures.value c.in_ok-by_high.ensures.value c.in_ok-by_low.ensures.more c.note_edge.ensures c.in_ok-by_high.ensures.more c.note_edge-2.ensures)
