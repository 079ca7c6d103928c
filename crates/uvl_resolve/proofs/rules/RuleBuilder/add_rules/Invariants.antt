-- The rules in front say what they do, and the rest is left.
use Rattle.std.proofs.Common.{drop}
use Rattle.uvl_resolve.specs.steps.Rules.{heads_in}
use Rattle.uvl_resolve.proofs.Saying.{RulesGoOn}
use Rattle.uvl_resolve.proofs.rules.RuleBuilder.add_rules.Given as goal

abbrev pub invariant-loop-rule : goal.invariant-loop-rule
invariant-loop-rule l = RulesGoOn (heads_in l.scope) l.offset l.initial.self.rules l.self.rules l.rules (drop l.rule-index l.rules)
