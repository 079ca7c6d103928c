-- A product is in what is left where one is in the operand, and what is left is no deeper.
use Rattle.std.proofs.Common.{◌≡◌, ◌≤◌}
use Rattle.uvl_ast.proofs.expression.Expr.TheLaws.{the_size}
use Rattle.uvl_scope.specs.NumberFaults.{factor_of}
use Rattle.uvl_scope.proofs.factors.+has_product.Given as goal

abbrev pub invariant-loop-current : goal.invariant-loop-current
invariant-loop-current l = ((factor_of l.current).product ≡ (factor_of l.operand).product) × (the_size l.current ≤ the_size l.operand)
