-- Membership alone counts in fitting and in holding.
use Rattle.uvl_semantics.proofs.Sets.{products-IsOfSets}
use Rattle.uvl_semantics.proofs.laws.products_are_sets.Goals as goal

pub returns : goal.returns
returns c = products-IsOfSets
