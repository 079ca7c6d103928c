-- The whole is what the truth of the part makes of it, the numbers of the part are ones that a model may have, and the
-- part is no deeper than the whole.
use Rattle.std.proofs.Common.{◌≡◌, ◌≤◌}
use Rattle.uvl_model.specs.Amounts.{IsReadable, rule_is_met}
use Rattle.uvl_model.specs.Outcome.{outcome_at}
use Rattle.uvl_model.specs.Rules.{nodes_of}
use Rattle.uvl_model.proofs.rules.+rules.Given as goal

abbrev pub decreases-rule_holds : goal.decreases-rule_holds
decreases-rule_holds l = nodes_of l.rule.now

abbrev pub decreases-loop-part : goal.decreases-loop-part
decreases-loop-part l = nodes_of l.part

abbrev pub invariant-loop-part : goal.invariant-loop-part
invariant-loop-part l =
    (rule_is_met l.model.features l.chosen l.rule ≡ outcome_at l.outcome (rule_is_met l.model.features l.chosen l.part))
    × (nodes_of l.part ≤ nodes_of l.rule) × IsReadable l.model l.part
