-- A feature more is listed, or left out.
use Rattle.std.proofs.Common.{Bool, not, sym, ap, ◌∙◌}
use Rattle.dd_quant.specs.Offers.{has_value, offer_for}
use Rattle.uvl_model.specs.declared.rows.FeatureNo.{FeatureNo}
use Rattle.uvl_analyses.specs.Listed.{var_of}
use Rattle.uvl_analyses.proofs.Lists.{passes, passes_not}
use Rattle.uvl_analyses.proofs.listed.without_value.Goals as goal
use Rattle.uvl_analyses.proofs.listed.without_value.Goals.{then-not-is_offered+in_ok-push, else-not-is_offered}

pub loop-number-preserved : goal.loop-number-preserved
loop-number-preserved c =
    let test : FeatureNo → Bool = λ feature. not (has_value (offer_for c.args.offers.now (var_of c.args.vars.now feature)) c.args.value) in
    elim c.if-not-is_offered.branch [
      | then-not-is_offered+in_ok-push w ↦
          ap (λ features. features.items) w.features-is ∙ w.in_ok-push.ensures.items
          ∙ passes test c.loop-number.number c.loop-number.features.items c.loop-number.invariant (ap not (sym c.is_offered.ensures ∙ w.if-not-is_offered.true))
      | else-not-is_offered w ↦
          ap (λ features. features.items) w.features-is
          ∙ passes_not test c.loop-number.number c.loop-number.features.items c.loop-number.invariant (ap not (sym c.is_offered.ensures ∙ w.if-not-is_offered.false))
    ]
