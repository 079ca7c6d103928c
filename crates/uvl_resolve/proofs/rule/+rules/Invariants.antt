-- What is left makes the same within what is pending, and is no deeper than the rule.
use Rattle.std.proofs.Common.{◌≡◌, ◌≤◌, ◌+◌, ◌*◌}
use Rattle.uvl_ast.specs.Nodes.{nodes_of}
use Rattle.uvl_resolve.specs.steps.Rules.{made_of, within}
use Rattle.uvl_resolve.proofs.rule.+rules.Given as goal

abbrev pub invariant-rule_of-loop-current : goal.invariant-rule_of-loop-current
invariant-rule_of-loop-current l =
    (made_of l.names l.offset l.rule ≡ within l.pending.items (made_of l.names l.offset l.current)) × (nodes_of l.current ≤ nodes_of l.rule)

abbrev pub decreases-rule_of-loop-current : goal.decreases-rule_of-loop-current
decreases-rule_of-loop-current l = nodes_of l.current

abbrev pub decreases-rule_of : goal.decreases-rule_of
decreases-rule_of l = 2 * nodes_of l.rule.now + 1

abbrev pub decreases-operand_of : goal.decreases-operand_of
decreases-operand_of l = 2 * nodes_of l.operand.now
