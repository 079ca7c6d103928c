-- What is left of an expression is no deeper than the whole.
use Rattle.std.proofs.Common.{◌≤◌}
use Rattle.uvl_ast.proofs.expression.Expr.TheLaws.{the_size}
use Rattle.uvl_ast.proofs.expression.Expr.+drop.Given as goal

abbrev pub invariant-loop-self : goal.invariant-loop-self
invariant-loop-self l = the_size l.self ≤ the_size l.fn.self
