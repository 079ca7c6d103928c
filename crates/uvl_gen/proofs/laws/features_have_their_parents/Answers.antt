-- Both laws.
use Rattle.uvl_gen.proofs.Features.{has_parent, is_child, stands_above}
use Rattle.uvl_gen.proofs.laws.features_have_their_parents.Goals as goal

pub returns-clause-children : goal.returns-clause-children
returns-clause-children c = λ n parent number some. (has_parent n parent number some, is_child n parent number some)

pub returns-clause-lines : goal.returns-clause-lines
returns-clause-lines c = stands_above
