use Rattle.std.proofs.Common.{rules}
use Rattle.uvl_grammar.specs.steps.Sections.{rule}
use Rattle.uvl_parser.proofs.sections.constraints.Goals as goal

pub returns : goal.returns
returns c = c.section.ensures rule (λ alloc ts r answered. search rules)
