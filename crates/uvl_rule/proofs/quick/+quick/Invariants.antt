-- What is left of the nodes is the spine above the part that is made, which is held besides.
use Rattle.std.proofs.Common.{◌≡◌, ◌+◌, ◌*◌, length}
use Rattle.dd_store.specs.Changes.{Keeps}
use Rattle.dd_store.specs.Exhausted.{value_at}
use Rattle.dd_store.specs.Handles.{GainsHandle}
use Rattle.uvl_functions.specs.Functions.{rule_function}
use Rattle.uvl_model.specs.declared.rule.Rule.{Rule}
use Rattle.uvl_model.specs.Rules.{nodes_of}
use Rattle.uvl_rule.specs.Run.{nodes_or_none, right_operand, weight}
use Rattle.uvl_rule.specs.Spine.{IsSpine, rules_at}
use Rattle.uvl_rule.proofs.quick.+quick.Given as goal

abbrev pub invariant-quick_rule-loop-alloc : goal.invariant-quick_rule-loop-alloc
invariant-quick_rule-loop-alloc l = record {
  gained : GainsHandle l.fn.kernel l.kernel l.made;
  keeps : Keeps l.fn.kernel l.kernel;
  part : (part : Rule) × (value_at l.kernel l.made ≡ rule_function l.map l.model.features part) × IsSpine (rules_at l.nodes.items) part l.rule;
}

abbrev pub decreases-quick_rule-loop-alloc : goal.decreases-quick_rule-loop-alloc
decreases-quick_rule-loop-alloc l = length l.nodes.items

abbrev pub decreases-quick_rule : goal.decreases-quick_rule
decreases-quick_rule l = 4 * nodes_of l.rule.now + 3

abbrev pub decreases-rise : goal.decreases-rise
decreases-rise l = 4 * weight (rules_at l.run.now) + 2

abbrev pub decreases-gather : goal.decreases-gather
decreases-gather l = 4 * weight (rules_at l.run.now) + 1

abbrev pub decreases-right_rule : goal.decreases-right_rule
decreases-right_rule l = 4 * (1 + nodes_or_none (right_operand l.node.now))
