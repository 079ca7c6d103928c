-- What is found is said.
use Rattle.uvl_analyses.specs.Members.{false_optional_of}
use Rattle.uvl_run.proofs.Found.{answered}
use Rattle.uvl_run.proofs.products.answer_false_optional.Goals as goal

pub returns : goal.returns
returns c =
    answered c.args.state.now c.push_found.result c.args.state.now.main c.features.result.now (false_optional_of c.args.state.now.main)
    c.false_optional.result c.push_found.new.into.items c.features.ensures c.false_optional.ensures c.push_found.ensures
