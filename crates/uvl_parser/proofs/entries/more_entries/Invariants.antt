use Rattle.uvl_grammar.specs.steps.Reading.{many, behind_comma}
use Rattle.uvl_grammar.specs.steps.Tests.{is_symbol}
use Rattle.uvl_grammar.specs.steps.Braces.{entry}
use Rattle.uvl_lexer.specs.declared.token.Symbol.TheVariants.{Comma}
use Rattle.uvl_parser.proofs.Keeping.{KeptSoFar}
use Rattle.uvl_parser.proofs.entries.more_entries.Given as goal

abbrev pub invariant-loop-turn : goal.invariant-loop-turn
invariant-loop-turn l =
    KeptSoFar l.fn.kept.attributes l.fn.kept.rules l.kept.attributes l.kept.rules
    (many (is_symbol Comma) (behind_comma entry) l.fn.tokens) l._turn-end l._turn l.rest
