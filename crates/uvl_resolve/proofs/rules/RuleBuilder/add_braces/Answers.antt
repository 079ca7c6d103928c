-- Those of the root, where there is one.
use Rattle.std.proofs.Common.{Option, subst, sym}
use Rattle.std.specs.List.{All}
use Rattle.uvl_ast.specs.declared.feature.Feature.{Feature}
use Rattle.uvl_ast.specs.Rules.{all_rules_of_root}
use Rattle.uvl_placing.specs.Constraints.{constraints_of_rules}
use Rattle.uvl_resolve.specs.steps.Rules.{IsPlain, Says, heads_in, root_of}
use Rattle.uvl_resolve.proofs.Saying.{nothing_said}
use Rattle.uvl_resolve.proofs.rules.RuleBuilder.add_braces.Goals as goal

pub add_rules_of-requires-clause-plain : goal.add_rules_of-requires-clause-plain
add_rules_of-requires-clause-plain c =
    subst (λ (root : Option Feature). All (IsPlain (heads_in c.args.scope.now)) (all_rules_of_root root)) c.in-Some.is c.requires.plain

pub returns-in-None : goal.returns-in-None
returns-in-None c =
    subst (λ (root : Option Feature). Says (heads_in c.args.scope.now) c.args.offset c.args.self.now.rules c.args.self.now.rules (constraints_of_rules (root_of (heads_in c.args.scope.now)) (all_rules_of_root root)))
    (sym c.in-None.is) (nothing_said (heads_in c.args.scope.now) c.args.offset c.args.self.now.rules)
