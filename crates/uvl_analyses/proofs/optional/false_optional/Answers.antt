-- The features are there.
use Rattle.std.proofs.Common.{List, sym, subst}
use Rattle.uvl_model.specs.declared.rows.FeatureNo.{FeatureNo}
use Rattle.uvl_analyses.specs.Members.{AreThere, is_false_optional}
use Rattle.uvl_analyses.proofs.Lists.{passing-there}
use Rattle.uvl_analyses.proofs.optional.false_optional.Goals as goal

pub returns-clause-there : goal.returns-clause-there
returns-clause-there c =
    subst (λ (features : List FeatureNo). AreThere c.args.it.now.model features) (sym c.in_ok-kept_members.ensures)
    (passing-there c.args.it.now.model (is_false_optional c.args.it.now.model))
