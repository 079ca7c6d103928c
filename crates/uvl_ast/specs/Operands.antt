-- In how many right operands the nodes of a rule stand.
use Rattle.std.specs.Prelude.{ℕ, ◌+◌, max}
use Rattle.uvl_ast.specs.declared.expression.BinOp.{BinOp}
use Rattle.uvl_ast.specs.declared.expression.BinOp.TheVariants as op
use Rattle.uvl_ast.specs.declared.expression.Expr.{Expr}
use Rattle.uvl_ast.specs.declared.expression.Expr.TheOpen.{Expr-F}
use Rattle.uvl_ast.specs.declared.expression.Expr.TheFolds.{fold-Expr}

-- one for the operators that join truths
abbrev pub one_of_truths : BinOp → ℕ
one_of_truths op.And = 1
one_of_truths op.Or = 1
one_of_truths op.Implies = 1
one_of_truths op.Iff = 1
one_of_truths _ = 0

-- one more in the right operand of an operator that joins truths, where a number stands for each operand
abbrev pub right_operands_of : Expr-F ℕ → ℕ
right_operands_of (Expr-F.Not operand place) = operand
right_operands_of (Expr-F.Binary operator left right place) = max left (right + one_of_truths operator)
right_operands_of _ = 0

-- the most right operands of `&`, `|`, `=>` and `<=>` that a node of an expression stands in
abbrev pub right_operands : Expr → ℕ
right_operands = fold-Expr ℕ right_operands_of
