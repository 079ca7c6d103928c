-- A feature more is listed, or left out.
use Rattle.std.proofs.Common.{Bool, false, get_or, ap, ◌∙◌}
use Rattle.uvl_model.specs.declared.rows.FeatureNo.{FeatureNo}
use Rattle.uvl_analyses.proofs.Lists.{passes, passes_not}
use Rattle.uvl_analyses.proofs.listed.marked.Goals as goal
use Rattle.uvl_analyses.proofs.listed.marked.Goals.{then-marks-number+in_ok-push, else-marks-number}

pub loop-number-preserved : goal.loop-number-preserved
loop-number-preserved c =
    let test : FeatureNo → Bool = λ feature. get_or c.args.marks.now feature.0 false in
    elim c.if-marks-number.branch [
      | then-marks-number+in_ok-push w ↦
          ap (λ features. features.items) w.features-is ∙ w.in_ok-push.ensures.items
          ∙ passes test c.loop-number.number c.loop-number.features.items c.loop-number.invariant w.if-marks-number.true
      | else-marks-number w ↦
          ap (λ features. features.items) w.features-is
          ∙ passes_not test c.loop-number.number c.loop-number.features.items c.loop-number.invariant w.if-marks-number.false
    ]
