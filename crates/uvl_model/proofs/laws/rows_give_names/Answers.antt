-- The rows are flattened from the tree, name by name.
use Rattle.uvl_model.proofs.NamesSpelled.{spelled_names}
use Rattle.uvl_model.proofs.laws.rows_give_names.Goals as goal

pub returns : goal.returns
returns c = spelled_names
