-- The variable of a level is opened where an edge from above leads past it.
use Rattle.std.proofs.Common.{◌∙◌, get_or, length, arith}
use Rattle.dd_store.specs.declared.row.Var.{Var}
use Rattle.dd_quant.proofs.SweepLemmas.{item-variable, item-below, reached-more, swept-done, swept-left}
use Rattle.dd_quant.proofs.noted.open_passed.Goals as goal

-- any variable
abbrev other : Var
other = record { 0 = 0 }

pub bounds-values-var : goal.bounds-values-var
bounds-values-var c =
    item-below c.args.kernel.now c.order-order.ensures.sound c.order-order.result.now c.order-order.ensures.order other c.loop-level.level (length c.args.values.now) (omega arith) c.requires.each

pub open_value-requires : goal.open_value-requires
open_value-requires c =
    item-below c.args.kernel.now c.order-order.ensures.sound c.order-order.result.now c.order-order.ensures.order other c.loop-level.level (length c.loop-level.offers) (omega arith)
    (c.loop-level.invariant.number ∙ c.requires.number)

pub loop-level-preserved : goal.loop-level-preserved
loop-level-preserved c =
    let t = c.args.kernel.now in
    let sound = c.order-order.ensures.sound in
    let order = c.order-order.result.now in
    let i = c.loop-level.level in
    let var = get_or order i other in
    let before = c.loop-level.invariant in
    let item = item-variable t sound order c.order-order.ensures.order other i (omega arith) in
    let reached = reached-more c.args.far.now i c.loop-level.reached c.larger-reached.result c.larger-reached.ensures before.reached in
    record {
      number = c.open_value.ensures.number ∙ before.number;
      reached = reached;
      done = swept-done t sound c.args.values.now c.args.far.now i c.larger-reached.result var.0 item.0 item.1 reached c.args.offers.now c.loop-level.offers c.open_value.new.offers c.open_value.ensures.noted before.done before.left;
      left = swept-left t sound c.args.values.now c.args.far.now i c.larger-reached.result var.0 item.0 item.1 reached c.args.offers.now c.loop-level.offers c.open_value.new.offers c.open_value.ensures.noted before.left;
    }
