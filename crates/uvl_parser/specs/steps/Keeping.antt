-- What the readers of braces answer, which keep attributes and rules apart.
use Rattle.std.specs.Prelude.{List, Result}
use Rattle.std.proofs.Common.{Bor}
use Rattle.uvl_lexer.specs.declared.token.Token.{Token}
use Rattle.uvl_ast.specs.declared.expression.Expr.{Expr}
use Rattle.uvl_ast.specs.declared.feature.Attribute.{Attribute}
use Rattle.uvl_grammar.specs.steps.Reading.{Read}
use Rattle.uvl_parser.specs.declared.braces.Kept.{Kept}
use Rattle.uvl_parser.specs.declared.reading.Stop.{Stop}
use Rattle.uvl_parser.specs.steps.Gives.{Gives}

-- the kept attributes and rules are those that reading gives
abbrev pub GivesKept : Result (Kept × Bor (List Token)) Stop → Read (List Attribute × List Expr) → Type 0
GivesKept result read = Gives (λ r. ((r.0.attributes, r.0.rules), r.1.now)) result read
