-- One more row is added.
use Rattle.std.proofs.Common.{length, subst}
use Rattle.std.specs.Prelude.{ℤ, ◌*ℤ◌}
use Rattle.uvl_linear.specs.Forms.{Adds}
use Rattle.uvl_model.specs.Amounts.{marked_total}
use Rattle.uvl_model.proofs.Bounds.{exact}
use Rattle.uvl_linear.proofs.PlainLemmas.{totals_end, totals_go_on}
use Rattle.uvl_linear.proofs.plain.add_rows.Goals as goal

pub loop-index-preserved : goal.loop-index-preserved
loop-index-preserved c =
    totals_go_on c.args.rows.now c.args.first.0 c.args.key.now _ c.args.form.now c.loop-index.form c.add_row.new.form c.loop-index.index
    c.index-rows-index.result c.loop-index-test.true c.index-rows-index.is c.add_row.ensures c.loop-index.invariant

pub returns : goal.returns
returns c =
    subst (λ (z : ℤ). Adds c.args.form.now c.loop-index.form (length c.args.rows.now) (λ marks. z *ℤ marked_total c.args.key.now marks c.args.first.0 c.args.rows.now))
    (exact c.args.factor c.ranges.factor)
    (totals_end c.args.rows.now c.args.first.0 c.args.key.now _ c.args.form.now c.loop-index.form c.loop-index.index c.loop-index-test.false c.loop-index.invariant)
