-- The rules in front are counted.
use Rattle.std.proofs.Common.{drop}
use Rattle.uvl_scope.proofs.RulesWalked.{RulesGoOn}
use Rattle.uvl_scope.proofs.tally.Tally.add_rules.Given as goal

abbrev pub invariant-loop-rule : goal.invariant-loop-rule
invariant-loop-rule l = RulesGoOn l.initial.self l.self l.rules (drop l.rule-index l.rules)
