-- The features have the names that the definition lists.
use Rattle.std.proofs.Common.{List, map, sym, ap, ◌∙◌, subst}
use Rattle.uvl_model.specs.declared.rows.FeatureNo.{FeatureNo}
use Rattle.uvl_model.specs.Products.{Products}
use Rattle.uvl_analyses.specs.Analyses.{is_dead}
use Rattle.uvl_analyses.specs.Members.{AreThere, is_dead_in, name_in}
use Rattle.uvl_analyses.proofs.Lists.{named, passing-there}
use Rattle.uvl_analyses.proofs.offered.dead.Goals as goal

pub returns-clause-names : goal.returns-clause-names
returns-clause-names c =
    ap (λ (features : List FeatureNo). map (name_in c.args.it.now.model) features) c.in_ok-impossible.ensures
    ∙ named c.args.it.now.model (is_dead (Products c.args.it.now.model))

pub returns-clause-there : goal.returns-clause-there
returns-clause-there c =
    subst (λ (features : List FeatureNo). AreThere c.args.it.now.model features) (sym c.in_ok-impossible.ensures)
    (passing-there c.args.it.now.model (is_dead_in c.args.it.now.model))
