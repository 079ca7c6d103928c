-- What is left of the nodes is the spine above the part that is made, which is held besides.
use Rattle.std.proofs.Common.{◌≡◌, ◌+◌, ◌*◌, length}
use Rattle.dd_store.specs.Changes.{Keeps}
use Rattle.dd_store.specs.Exhausted.{value_at}
use Rattle.dd_store.specs.Handles.{GainsHandle}
use Rattle.uvl_functions.specs.Functions.{rule_function}
use Rattle.uvl_model.specs.declared.rule.Rule.{Rule}
use Rattle.uvl_model.specs.Rules.{nodes_of}
use Rattle.uvl_rule.specs.Spine.{IsSpine, rules_at}
use Rattle.uvl_rule.proofs.listed.+rule.Given as goal

abbrev pub invariant-listed_rule-loop-node : goal.invariant-listed_rule-loop-node
invariant-listed_rule-loop-node l = record {
  gained : GainsHandle l.fn.kernel l.kernel l.made;
  keeps : Keeps l.fn.kernel l.kernel;
  part : (part : Rule) × (value_at l.kernel l.made ≡ rule_function l.map l.model.features part) × IsSpine (rules_at l.nodes.items) part l.rule;
}

abbrev pub decreases-listed_rule-loop-node : goal.decreases-listed_rule-loop-node
decreases-listed_rule-loop-node l = length l.nodes.items

abbrev pub decreases-listed_rule : goal.decreases-listed_rule
decreases-listed_rule l = 3 * nodes_of l.rule.now + 2

abbrev pub decreases-climb : goal.decreases-climb
decreases-climb l = 3 * nodes_of l.node.now + 1

abbrev pub decreases-climb_both : goal.decreases-climb_both
decreases-climb_both l = 3 * nodes_of l.right.now + 3
