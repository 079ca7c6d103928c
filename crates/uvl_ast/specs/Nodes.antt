-- The nodes of expressions.
use Rattle.std.specs.Prelude.{ℕ, ◌+◌}
use Rattle.uvl_ast.specs.declared.expression.Expr.{Expr}
use Rattle.uvl_ast.specs.declared.expression.Expr.TheOpen.{Expr-F}
use Rattle.uvl_ast.specs.declared.expression.Expr.TheFolds.{fold-Expr}

-- a node and those of its operands, where their number stands for each
abbrev pub node_count : Expr-F ℕ → ℕ
node_count (Expr-F.Number value place) = 1
node_count (Expr-F.Name name) = 1
node_count (Expr-F.Sum name place) = 1
node_count (Expr-F.Not operand place) = 1 + operand
node_count (Expr-F.Binary operator left right place) = 1 + left + right

-- how many nodes an expression has: numbers, names, sums, `!` and operators are one each
abbrev pub nodes_of : Expr → ℕ
nodes_of = fold-Expr ℕ node_count
