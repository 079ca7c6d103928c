-- The row is the one at the feature's place.
use Rattle.std.proofs.Common.{◌≡◌, List, get_or, ap, ◌∙◌, subst}
use Rattle.std.specs.Prelude.{ℤ, ◌*ℤ◌}
use Rattle.uvl_model.specs.declared.rows.FeatureRow.{FeatureRow}
use Rattle.uvl_model.specs.Amounts.{counted, number_at, number_of_row}
use Rattle.uvl_model.specs.Check.{is_marked}
use Rattle.uvl_model.proofs.Bounds.{exact}
use Rattle.uvl_linear.proofs.FormLemmas.{adds_same}
use Rattle.uvl_linear.proofs.PlainLemmas.{row_at}
use Rattle.uvl_linear.proofs.plain.add_attribute.Goals as goal

pub returns : goal.returns
returns c =
    adds_same c.args.form.now c.add_row.new.form 1 _ (λ marks. c.args.factor *ℤ counted (is_marked marks c.args.feature) (number_at c.args.model.now.features c.args.feature c.args.key.now))
    (λ marks.
    ap (λ (z : ℤ). z *ℤ counted (is_marked marks c.args.feature) (number_of_row c.args.key.now c.index-features-feature.result)) (exact c.args.factor c.ranges.factor)
    ∙ ap (λ (z : ℤ). c.args.factor *ℤ counted (is_marked marks c.args.feature) z)
    (row_at c.args.model.now.features c.args.feature c.args.key.now c.index-features-feature.result c.requires.there
    (subst (λ (rows : List FeatureRow). c.index-features-feature.result ≡ get_or rows c.args.feature.0 c.index-features-feature.result) c.features.ensures.rows
    c.index-features-feature.is)))
    c.add_row.ensures
