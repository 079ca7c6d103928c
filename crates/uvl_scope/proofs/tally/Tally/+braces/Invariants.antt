-- The rules in front are counted.
use Rattle.std.proofs.Common.{drop, map, List}
use Rattle.std.specs.List.{flat_map}
use Rattle.uvl_ast.specs.declared.expression.Expr.{Expr}
use Rattle.uvl_ast.specs.Rules.{all_rules, all_rules_of_group}
use Rattle.uvl_scope.proofs.RulesWalked.{RulesGoOn}
use Rattle.uvl_scope.proofs.tally.Tally.+braces.Given as goal

abbrev pub invariant-add_rules_of_groups-loop-group : goal.invariant-add_rules_of_groups-loop-group
invariant-add_rules_of_groups-loop-group l =
    RulesGoOn l.initial.self l.self (flat_map (λ (rules : List Expr). rules) (map all_rules_of_group l.groups))
    (flat_map (λ (rules : List Expr). rules) (map all_rules_of_group (drop l.group-index l.groups)))

abbrev pub invariant-add_rules_of_members-loop-member : goal.invariant-add_rules_of_members-loop-member
invariant-add_rules_of_members-loop-member l =
    RulesGoOn l.initial.self l.self (flat_map (λ (rules : List Expr). rules) (map all_rules l.members))
    (flat_map (λ (rules : List Expr). rules) (map all_rules (drop l.member-index l.members)))
