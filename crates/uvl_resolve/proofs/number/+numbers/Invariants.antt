-- What is left makes the same within what is pending, and is no deeper than the number.
use Rattle.std.proofs.Common.{◌≡◌, ◌≤◌}
use Rattle.uvl_ast.specs.Nodes.{nodes_of}
use Rattle.uvl_resolve.specs.steps.Rules.{number_of, within_numbers}
use Rattle.uvl_resolve.proofs.number.+numbers.Given as goal

abbrev pub invariant-loop-current : goal.invariant-loop-current
invariant-loop-current l =
    (number_of l.names l.offset l.number ≡ within_numbers l.pending.items (number_of l.names l.offset l.current)) × (nodes_of l.current ≤ nodes_of l.number)

abbrev pub decreases-loop-current : goal.decreases-loop-current
decreases-loop-current l = nodes_of l.current

abbrev pub decreases-number_of : goal.decreases-number_of
decreases-number_of l = nodes_of l.number.now
