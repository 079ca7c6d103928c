use Rattle.std.proofs.Common.{rules}
use Rattle.uvl_grammar.specs.steps.Reading.{behind_comma}
use Rattle.uvl_parser.proofs.lists.more_behind_commas.Goals as goal

pub returns : goal.returns
returns g c p reads = c.more.ensures (behind_comma p) (λ alloc ts r answered. search rules)
