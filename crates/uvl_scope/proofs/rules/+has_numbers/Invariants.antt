-- What is left speaks of numbers where the rule does, and is no deeper.
use Rattle.std.proofs.Common.{◌≡◌, ◌≤◌}
use Rattle.uvl_ast.proofs.expression.Expr.TheLaws.{the_size}
use Rattle.uvl_scope.specs.Rules.{has_numbers}
use Rattle.uvl_scope.proofs.rules.+has_numbers.Given as goal

abbrev pub invariant-loop-current : goal.invariant-loop-current
invariant-loop-current l = (has_numbers l.current ≡ has_numbers l.rule) × (the_size l.current ≤ the_size l.rule)
