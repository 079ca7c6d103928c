-- The nodes so far are the rule's spine down to the part.
use Rattle.uvl_model.specs.Rules.{nodes_of}
use Rattle.uvl_rule.specs.Spine.{IsSpine, rules_at}
use Rattle.uvl_rule.proofs.spine.spine_of.Given as goal

abbrev pub invariant-loop-left : goal.invariant-loop-left
invariant-loop-left l = IsSpine (rules_at l.nodes.items) l.part l.rule

abbrev pub decreases-loop-left : goal.decreases-loop-left
decreases-loop-left l = nodes_of l.part
