-- What is left stands in front of what was found, and is no deeper than the rule.
use Rattle.std.proofs.Common.{◌≡◌, ◌≤◌}
use Rattle.std.specs.Option.{option_or}
use Rattle.uvl_ast.proofs.expression.Expr.TheLaws.{the_size}
use Rattle.uvl_scope.specs.NumberFaults.{fault_within}
use Rattle.uvl_scope.proofs.rule_faults.+faults.Given as goal

abbrev pub invariant-first_fault-loop-current : goal.invariant-first_fault-loop-current
invariant-first_fault-loop-current l =
    (option_or (fault_within l.names l.attributes l.current l.is_boolean) l.found ≡ fault_within l.names l.attributes l.rule l.fn.boolean)
    × (the_size l.current ≤ the_size l.rule)
