-- The rows are flattened from the tree, a feature before all below it.
use Rattle.uvl_model.proofs.Runs.{run_is_below}
use Rattle.uvl_model.proofs.laws.runs_are_below.Goals as goal

pub returns : goal.returns
returns c = λ rows top sound there. run_is_below rows sound top there
