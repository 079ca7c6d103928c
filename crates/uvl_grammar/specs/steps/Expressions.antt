-- Reading expressions, by the precedence of the operators.
use Rattle.std.specs.Prelude.{ℕ, zero, suc, List, [], ◌∷◌, length, neg_ℤ, Err}
use Rattle.uvl_base.specs.declared.place.Place.{Place}
use Rattle.uvl_lexer.specs.declared.token.Symbol.TheVariants as symbol
use Rattle.uvl_base.specs.declared.word.Word.TheVariants as word
use Rattle.uvl_ast.specs.declared.expression.Expr.{Expr}
use Rattle.uvl_ast.specs.declared.expression.Expr.TheVariants as expr
use Rattle.uvl_ast.specs.declared.expression.BinOp.{BinOp}
use Rattle.uvl_grammar.specs.Tokens.{name_of, number_of}
use Rattle.uvl_grammar.specs.steps.Tests.{Test, is_symbol, is_word, is_there}
use Rattle.uvl_grammar.specs.Expressions.{Operators, iff_operator, implies_operator, or_operator, and_operator, comparison_operator, sum_operator, product_operator}
use Rattle.uvl_grammar.specs.steps.Reading.{Reader, bind, done, one, accept, choose, many, closed}
use Rattle.uvl_grammar.specs.steps.Refs.{reference}

-- ---- operators and operands

-- an operator, where it stands, and the operand behind it
abbrev pub Operation : Type 0
Operation = BinOp × Place × Expr

-- whether a token is one of some operators
abbrev pub is_operator : Operators → Test
is_operator operators kind = is_there (operators kind)

unfoldable pub operation : Operators → Reader Expr → Reader Operation
operation operators part = bind (accept operators) (λ o. bind part (λ e. done (o.0, o.1, e)))

-- an operation on what stands in front of it
abbrev pub join : Expr → Operation → Expr
join left o = expr.Binary o.0 left o.2 o.1

-- operations one behind the other, from the left
abbrev pub joined : Expr → List Operation → Expr
joined left [] = left
joined left (o ∷ operations) = joined (join left o) operations

-- parts with operators of one precedence between them
unfoldable pub grouped : Operators → Reader Expr → Reader Expr
grouped operators part =
    bind part (λ left. bind (many (is_operator operators) (operation operators part))
    (λ operations. done (joined left operations)))

-- ---- numbers, sums, references and parentheses

-- behind a left parenthesis
unfoldable pub parenthesized : Reader Expr → Reader Expr
parenthesized inner = bind inner (λ e. bind (one (is_symbol symbol.RightParen)) (λ right. done e))

-- behind a minus at a place
unfoldable pub negative : Place → Reader Expr
negative place = bind (accept number_of) (λ value. done (expr.Number (neg_ℤ value.0) place))

-- behind the word `sum` at a place
unfoldable pub total : Place → Reader Expr
total place = bind (one (is_symbol symbol.LeftParen)) (λ left. bind (accept name_of) (λ key.
    bind (one (is_symbol symbol.RightParen)) (λ right. done (expr.Sum key.0 place))))

unfoldable pub literal : Reader Expr
literal = bind (accept number_of) (λ value. done (expr.Number value.0 value.1))

unfoldable pub named : Reader Expr
named = bind reference (λ r. done (expr.Name r))

-- whether a token is a number
abbrev pub is_number : Test
is_number kind = is_there (number_of kind)

-- an operand of numbers, with inner in parentheses
unfoldable pub primary_of : Reader Expr → Reader Expr
primary_of inner =
    choose (is_symbol symbol.LeftParen) (bind (one (is_symbol symbol.LeftParen)) (λ left. parenthesized inner))
    (choose (is_symbol symbol.Minus) (bind (one (is_symbol symbol.Minus)) negative)
    (choose (is_word word.Sum) (bind (one (is_word word.Sum)) total)
    (choose is_number literal named)))

-- ---- comparisons and `!`

-- two parts with a comparison between them, or one part
unfoldable pub compared : Reader Expr → Reader Expr
compared part = bind part (λ left.
    choose (is_operator comparison_operator) (bind (operation comparison_operator part)
    (λ o. done (join left o))) (done left))

-- sums of products
abbrev pub sum_of : Reader Expr → Reader Expr
sum_of inner = grouped sum_operator (grouped product_operator (primary_of inner))

-- behind a `!` at a place
unfoldable pub opposite : Reader Expr → Place → Reader Expr
opposite deeper place = bind deeper (λ e. done (expr.Not e place))

-- the four precedences that join truths
abbrev pub connected : Reader Expr → Reader Expr
connected part = grouped iff_operator (grouped implies_operator (grouped or_operator (grouped and_operator part)))

-- an operand of the connectives, with deeper behind a `!` and as the operands in parentheses
unfoldable pub operand_of : Reader Expr → Reader Expr
operand_of deeper =
    choose (is_symbol symbol.Bang) (bind (one (is_symbol symbol.Bang)) (opposite deeper))
    (compared (sum_of (connected deeper)))

-- ---- where parentheses and `!` nest less than so deep

unfoldable pub operand_within : ℕ → Reader Expr
operand_within zero ts = Err (length ts)
operand_within (suc depth) ts = operand_of (operand_within depth) ts

abbrev pub expression_within : ℕ → Reader Expr
expression_within depth = connected (operand_within depth)

unfoldable pub primary_within : ℕ → Reader Expr
primary_within zero ts = Err (length ts)
primary_within (suc depth) ts = primary_of (expression_within depth) ts

-- a comparison of sums, or a sum
abbrev pub comparison_within : ℕ → Reader Expr
comparison_within depth = compared (grouped sum_operator (grouped product_operator (primary_within depth)))

-- ---- however deep they nest

unfoldable pub comparison : Reader Expr
comparison = closed comparison_within

unfoldable pub operand : Reader Expr
operand = closed operand_within

unfoldable pub primary : Reader Expr
primary = closed primary_within

-- an expression
unfoldable pub expression : Reader Expr
expression = closed expression_within
