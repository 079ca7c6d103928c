-- A mark may stand inside or outside a product.
use Rattle.std.proofs.Common.{sym, ap, ◌∙◌}
use Rattle.std.specs.Prelude.{ℤ, ◌*ℤ◌}
use Rattle.uvl_model.specs.Amounts.{counted, number_of_row}
use Rattle.uvl_model.specs.Check.{is_marked}
use Rattle.uvl_linear.proofs.FormLemmas.{adds_nothing, adds_same}
use Rattle.uvl_linear.proofs.PlainLemmas.{counted_times, nothing_counts, product_is, product_small, row_found, row_lacks}
use Rattle.uvl_linear.proofs.plain.add_row.Goals as goal

pub add_weight-requires : goal.add_weight-requires
add_weight-requires c = record {
  there = c.requires.there;
  small = product_small c.args.factor c.millionths.result c.requires.factor c.millionths.ensures.in_range;
  room = c.requires.room;
}

pub returns-in-Some : goal.returns-in-Some
returns-in-Some c =
    adds_same c.args.form.now c.add_weight.new.self 1 _ (λ marks. c.args.factor *ℤ counted (is_marked marks c.args.feature) (number_of_row c.args.key.now c.args.row.now))
    (λ marks.
    ap (counted (is_marked marks c.args.feature)) (product_is c.args.factor c.millionths.result c.requires.factor c.millionths.ensures.in_range)
    ∙ counted_times (is_marked marks c.args.feature) c.args.factor c.millionths.result
    ∙ ap (λ (z : ℤ). c.args.factor *ℤ counted (is_marked marks c.args.feature) z)
    (c.millionths.ensures.number ∙ sym (row_found c.args.row.now c.args.key.now c.number.result c.in-Some.number c.number.ensures c.in-Some.is)))
    c.add_weight.ensures

pub returns-in-None : goal.returns-in-None
returns-in-None c =
    adds_nothing c.args.form.now 1 (λ marks. c.args.factor *ℤ counted (is_marked marks c.args.feature) (number_of_row c.args.key.now c.args.row.now))
    (λ marks. nothing_counts (is_marked marks c.args.feature) c.args.factor (number_of_row c.args.key.now c.args.row.now)
    (row_lacks c.args.row.now c.args.key.now c.number.result c.number.ensures c.in-None.is))
