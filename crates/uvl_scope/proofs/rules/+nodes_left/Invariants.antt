-- The nodes that were met are taken from the limit, and what is left of the rule is no deeper.
use Rattle.std.proofs.Common.{◌≡◌, ◌≤◌, ◌+◌}
use Rattle.uvl_ast.proofs.expression.Expr.TheLaws.{the_size}
use Rattle.uvl_ast.specs.Nodes.{nodes_of}
use Rattle.uvl_scope.proofs.rules.+nodes_left.Given as goal

abbrev pub invariant-loop-left : goal.invariant-loop-left
invariant-loop-left l =
    (l.left + nodes_of l.rule ≡ l.fn.limit + nodes_of l.current) × (the_size l.current ≤ the_size l.rule)

abbrev pub decreases-loop-left : goal.decreases-loop-left
decreases-loop-left l = the_size l.current
