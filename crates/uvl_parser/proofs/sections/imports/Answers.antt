use Rattle.std.proofs.Common.{rules}
use Rattle.uvl_grammar.specs.steps.Sections.{import_line}
use Rattle.uvl_parser.proofs.sections.imports.Goals as goal

pub returns : goal.returns
returns c = c.section.ensures import_line (λ alloc ts r answered. search rules)
