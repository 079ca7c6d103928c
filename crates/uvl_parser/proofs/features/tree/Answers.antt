use Rattle.std.proofs.Common.{add-one}
use Rattle.uvl_grammar.specs.steps.Reading.{closed}
use Rattle.uvl_parser.proofs.features.tree.Goals as goal

pub returns : goal.returns
unfolding closed
returns c = rw add-one at c.feature_at.ensures
