-- Reading operands with operators between them, by the precedence of the operators.
use Rattle.std.specs.Prelude.{ℕ}
use Rattle.uvl_ast.specs.declared.expression.Expr.{Expr}
use Rattle.uvl_parser.specs.declared.expression.precedence.Precedence.{Precedence}
use Rattle.uvl_parser.specs.declared.expression.precedence.Precedence.TheVariants as precedence
use Rattle.uvl_grammar.specs.Expressions.{Operators, iff_operator, implies_operator, or_operator, and_operator, sum_operator, product_operator}
use Rattle.uvl_grammar.specs.steps.Reading.{Reader, closed}
use Rattle.uvl_grammar.specs.steps.Expressions.{grouped, operand_within, primary_within}

-- the operators of a precedence
abbrev pub operators_of : Precedence → Operators
operators_of precedence.Iff = iff_operator
operators_of precedence.Implies = implies_operator
operators_of precedence.Or = or_operator
operators_of precedence.And = and_operator
operators_of precedence.Sum = sum_operator
operators_of precedence.Product = product_operator

-- what stands between them, where parentheses and `!` nest less than so deep
abbrev pub part_within : Precedence → ℕ → Reader Expr
part_within precedence.Iff depth =
    grouped implies_operator (grouped or_operator (grouped and_operator (operand_within depth)))
part_within precedence.Implies depth = grouped or_operator (grouped and_operator (operand_within depth))
part_within precedence.Or depth = grouped and_operator (operand_within depth)
part_within precedence.And depth = operand_within depth
part_within precedence.Sum depth = grouped product_operator (primary_within depth)
part_within precedence.Product depth = primary_within depth

-- both, one behind the other
abbrev pub precedence_within : Precedence → ℕ → Reader Expr
precedence_within p depth = grouped (operators_of p) (part_within p depth)

-- the same, however deep they nest
unfoldable pub of_precedence : Precedence → Reader Expr
of_precedence p = closed (precedence_within p)

unfoldable pub part_of : Precedence → Reader Expr
part_of p = closed (part_within p)
