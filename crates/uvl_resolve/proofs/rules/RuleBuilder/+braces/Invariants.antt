-- The rules in front say what they do, and the rest is left. Each call goes on with what is less deep.
use Rattle.std.proofs.Common.{◌+◌, ◌*◌, drop, map, List}
use Rattle.std.specs.List.{flat_map}
use Rattle.uvl_ast.specs.declared.expression.Expr.{Expr}
use Rattle.uvl_ast.specs.Rules.{all_rules, all_rules_of_group}
use Rattle.uvl_ast.specs.Depth.{depth_of}
use Rattle.uvl_resolve.proofs.Depths.{groups_depth, members_depth}
use Rattle.uvl_resolve.specs.steps.Rules.{heads_in}
use Rattle.uvl_resolve.proofs.Saying.{RulesGoOn}
use Rattle.uvl_resolve.proofs.rules.RuleBuilder.+braces.Given as goal

abbrev pub decreases-add_rules_of : goal.decreases-add_rules_of
decreases-add_rules_of l = 3 * depth_of l.line.now

abbrev pub decreases-add_rules_of_groups : goal.decreases-add_rules_of_groups
decreases-add_rules_of_groups l = 3 * groups_depth l.groups.now + 2

abbrev pub decreases-add_rules_of_members : goal.decreases-add_rules_of_members
decreases-add_rules_of_members l = 3 * members_depth l.members.now + 1

abbrev pub invariant-add_rules_of_groups-loop-group : goal.invariant-add_rules_of_groups-loop-group
invariant-add_rules_of_groups-loop-group l =
    RulesGoOn (heads_in l.scope) l.offset l.initial.self.rules l.self.rules (flat_map (λ (rules : List Expr). rules) (map all_rules_of_group l.groups))
    (flat_map (λ (rules : List Expr). rules) (map all_rules_of_group (drop l.group-index l.groups)))

abbrev pub invariant-add_rules_of_members-loop-member : goal.invariant-add_rules_of_members-loop-member
invariant-add_rules_of_members-loop-member l =
    RulesGoOn (heads_in l.scope) l.offset l.initial.self.rules l.self.rules (flat_map (λ (rules : List Expr). rules) (map all_rules l.members))
    (flat_map (λ (rules : List Expr). rules) (map all_rules (drop l.member-index l.members)))
