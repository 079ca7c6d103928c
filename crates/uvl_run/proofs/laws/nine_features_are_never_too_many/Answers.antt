-- What is enough for nine features is below the budget.
use Rattle.uvl_run.proofs.Nine.{never_too_many}
use Rattle.uvl_run.proofs.laws.nine_features_are_never_too_many.Goals as goal

pub returns : goal.returns
returns c = never_too_many c.flat_keeps_products.ensures
