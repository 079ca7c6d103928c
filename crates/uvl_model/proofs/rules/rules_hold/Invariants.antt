-- The rules in front hold.
use Rattle.std.proofs.Common.{◌≡◌, drop}
use Rattle.std.specs.List.{list_all}
use Rattle.uvl_model.specs.Amounts.{rule_is_met}
use Rattle.uvl_model.proofs.rules.rules_hold.Given as goal

abbrev pub invariant-loop-rule : goal.invariant-loop-rule
invariant-loop-rule l =
    list_all (rule_is_met l.model.features l.chosen) (drop l.rule-index l.rule-items) ≡ list_all (rule_is_met l.model.features l.chosen) l.model.rules
