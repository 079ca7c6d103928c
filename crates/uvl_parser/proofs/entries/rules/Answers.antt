use Rattle.std.proofs.Common.{rules}
use Rattle.uvl_grammar.specs.steps.Expressions.{expression}
use Rattle.uvl_parser.proofs.entries.rules.Goals as goal

pub returns : goal.returns
returns c = c.separated.ensures expression (λ alloc ts r answered. search rules)
