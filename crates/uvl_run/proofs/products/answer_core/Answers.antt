-- What is found is said.
use Rattle.uvl_model.specs.Products.{Products}
use Rattle.uvl_analyses.specs.Analyses.{core_of}
use Rattle.uvl_run.proofs.Found.{answered}
use Rattle.uvl_run.proofs.products.answer_core.Goals as goal

pub returns : goal.returns
returns c =
    answered c.args.state.now c.push_found.result c.args.state.now.main c.features.result.now (core_of (Products c.args.state.now.main))
    c.core.result c.push_found.new.into.items c.features.ensures c.core.ensures c.push_found.ensures
