use Rattle.uvl_grammar.specs.steps.Reading.{many, with_front}
use Rattle.uvl_grammar.specs.steps.Tests.{is_symbol}
use Rattle.uvl_grammar.specs.steps.Refs.{dot_name}
use Rattle.uvl_lexer.specs.declared.token.Symbol.TheVariants.{Dot}
use Rattle.uvl_parser.proofs.Turns.{TurnsLeft}
use Rattle.uvl_parser.proofs.reference.dot_names.Given as goal

abbrev pub invariant-loop-turn : goal.invariant-loop-turn
invariant-loop-turn l = TurnsLeft (is_symbol Dot) dot_name (with_front l.fn.parts (many (is_symbol Dot) dot_name l.fn.tokens)) l.parts l._turn-end l._turn l.rest
