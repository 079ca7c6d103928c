use Rattle.std.proofs.Common.{rules}
use Rattle.uvl_grammar.specs.steps.Sections.{level}
use Rattle.uvl_parser.proofs.include_lines.levels.Goals as goal

pub returns : goal.returns
returns c = c.section.ensures level (λ alloc ts r answered. search rules)
