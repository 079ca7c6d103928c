use Rattle.uvl_grammar.specs.steps.Reading.{Reader, many, with_front}
use Rattle.uvl_parser.specs.steps.Gives.{IsReader}
use Rattle.uvl_parser.proofs.Turns.{TurnsLeft}
use Rattle.uvl_parser.proofs.lists.more.Given as goal

abbrev pub invariant-loop-turn : goal.invariant-loop-turn
invariant-loop-turn g l = (p : Reader _) → IsReader (goal.F-post g l.read) p
    → TurnsLeft (g.W.TokenTest.test l.goes_on) p (with_front l.fn.parts (many (g.W.TokenTest.test l.goes_on) p l.fn.tokens)) l.parts l._turn-end l._turn l.rest
