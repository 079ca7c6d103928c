-- The operators in front of tokens, by how strongly they bind.
use Rattle.std.specs.Prelude.{◌≡◌, ℕ, ◌≤◌, false, List, [], ◌∷◌, Ok, Option, Some, None}
use Rattle.std.specs.Option.{option_map, option_or}
use Rattle.uvl_base.specs.declared.place.Place.{Place}
use Rattle.uvl_lexer.specs.declared.token.Token.{Token}
use Rattle.uvl_lexer.specs.declared.token.TokenKind.{TokenKind}
use Rattle.uvl_ast.specs.declared.expression.BinOp.{BinOp}
use Rattle.uvl_parser.specs.declared.expression.precedence.Precedence.{Precedence}
use Rattle.uvl_parser.specs.declared.expression.precedence.Precedence.TheVariants as precedence
use Rattle.uvl_grammar.specs.steps.Tests.{begins}
use Rattle.uvl_grammar.specs.steps.Reading.{accept}
use Rattle.uvl_grammar.specs.steps.Expressions.{is_operator}
use Rattle.uvl_parser.specs.steps.Precedence.{operators_of}

-- the precedences, from the least binding one
abbrev pub precedences : List Precedence
precedences =
    precedence.Iff ∷ precedence.Implies ∷ precedence.Or ∷ precedence.And ∷ precedence.Sum ∷ precedence.Product ∷ []

-- how strongly the operators of a precedence bind: their place among the precedences
abbrev pub strength : Precedence → ℕ
strength precedence.Iff = 0
strength precedence.Implies = 1
strength precedence.Or = 2
strength precedence.And = 3
strength precedence.Sum = 4
strength precedence.Product = 5

-- the precedence that binds most of those on truths, or of those on numbers
abbrev pub tightest : Precedence → Precedence
tightest precedence.Sum = precedence.Product
tightest precedence.Product = precedence.Product
tightest _ = precedence.And

-- the operator that a token is on one of some precedences, and that precedence
abbrev pub operator_on : List Precedence → TokenKind → Option (BinOp × Precedence)
operator_on [] kind = None
operator_on (l ∷ ls) kind = option_or (option_map (λ o. (o, l)) (operators_of l kind)) (operator_on ls kind)

-- whether a precedence binds no less than the least and no more than the most
abbrev pub IsBetween : Precedence → Precedence → Precedence → Type 0
IsBetween least most l = (strength least ≤ strength l) × (strength l ≤ strength most)

-- an operator of a precedence from the least to the most that is in front of tokens, its precedence, where it
-- stands, and what is behind it; or none, as no operator of such a precedence is in front
abbrev pub Splits : Precedence → Precedence → List Token → Option (BinOp × Precedence × Place × List Token) → Type 0
Splits least most tokens (Some o) = IsBetween least most o.1 × (accept (operators_of o.1) tokens ≡ Ok ((o.0, o.2), o.3))
Splits least most tokens None =
    (l : Precedence) → IsBetween least most l → begins (is_operator (operators_of l)) tokens ≡ false
