-- The features without an offer are those that are never so.
use Rattle.std.proofs.Common.{◌≡◌, Bool, not, List, length, IfOk, ap, ◌∙◌, subst}
use Rattle.dd_store.specs.declared.row.Var.{Var}
use Rattle.dd_quant.specs.declared.offer.Offer.{Offer}
use Rattle.dd_quant.specs.Offers.{has_value, offer_for}
use Rattle.uvl_model.specs.declared.rows.FeatureNo.{FeatureNo}
use Rattle.uvl_analyses.specs.Listed.{var_of, without_offer}
use Rattle.uvl_analyses.specs.Members.{is_never}
use Rattle.uvl_analyses.proofs.Lists.{same_passing}
use Rattle.uvl_analyses.proofs.Meaning.{never_is}
use Rattle.uvl_analyses.proofs.offered.impossible.Goals as goal

pub returns : goal.returns
returns c =
    let rows = c.args.it.now.model in
    let vars : List Var = c.args.it.now.map in
    let offers : List Offer = c.in_ok-open.open.items in
    let test : FeatureNo → Bool = λ feature. not (has_value (offer_for offers (var_of vars feature)) c.args.value) in
    let same =
    same_passing test (is_never rows c.args.value) (length vars) (length rows.features) c.requires.variables.count
    (λ k within. never_is rows c.args.kernel.now vars c.args.it.now.products c.requires c.products_are_sets.ensures c.features.ensures.sound offers k c.args.value c.in_ok-open.ensures within) in
    subst (λ (xs : List FeatureNo). IfOk c.without_value.result (λ features. features.items ≡ xs))
    (ap (λ vs. without_offer vs c.deref.result.now c.args.value) c.vars.ensures ∙ ap (λ os. without_offer vars os c.args.value) c.deref.ensures.value ∙ same)
    c.without_value.ensures
