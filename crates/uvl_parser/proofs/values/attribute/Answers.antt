use Rattle.std.proofs.Common.{add-one}
use Rattle.uvl_grammar.specs.steps.Reading.{closed}
use Rattle.uvl_parser.proofs.values.attribute.Goals as goal

pub returns : goal.returns
unfolding closed
returns c = rw add-one at c.attribute_at.ensures
