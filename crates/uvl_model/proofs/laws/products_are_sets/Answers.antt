-- Membership alone counts in the marks that a set gives, and in what the rules say.
use Rattle.uvl_model.proofs.Families.{products-IsOfSets}
use Rattle.uvl_model.proofs.laws.products_are_sets.Goals as goal

pub returns : goal.returns
returns c = products-IsOfSets
