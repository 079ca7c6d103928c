-- One more row is counted.
use Rattle.std.proofs.Common.{◌+◌, ◌<◌, ◌≤◌, length, to_z, arith}
use mir.Syntax.{w128}
use Rattle.uvl_model.specs.Amounts.{most_terms}
use Rattle.uvl_model.proofs.Totals.{total_goes_on, total_kept}
use Rattle.uvl_model.proofs.numbers.total_from.Goals as goal

pub loop-index-preserved : goal.loop-index-preserved
loop-index-preserved c =
    let inside : c.loop-index.index < length c.args.rows.now = omega arith in
    let few : c.loop-index.index + 1 ≤ most_terms = omega (arith, c.requires) in
    total_kept c.args.key.now c.args.chosen.now c.args.first.0 c.args.rows.now c.loop-index.total-bits c.counted_number-total.result c.loop-index.index few
    c.counted_number-total.ensures.within
    (total_goes_on c.args.key.now c.args.chosen.now c.args.first.0 c.args.rows.now (to_z w128 c.loop-index.total-bits) c.counted_number-total.result c.loop-index.index
    c.index-rows-index.result inside c.index-rows-index.is c.counted_number-total.ensures.number c.counted_number-total.ensures.within c.loop-index.invariant)
