-- None of the rules in front speaks of numbers.
use Rattle.std.proofs.Common.{◌≡◌, List, drop, map}
use Rattle.std.specs.List.{flat_map, list_any}
use Rattle.uvl_ast.specs.declared.expression.Expr.{Expr}
use Rattle.uvl_ast.specs.Rules.{all_rules, all_rules_of_group}
use Rattle.uvl_scope.specs.Rules.{has_numbers}
use Rattle.uvl_scope.proofs.numbers.+numbers.Given as goal

abbrev pub invariant-groups_have_numbers-loop-group : goal.invariant-groups_have_numbers-loop-group
invariant-groups_have_numbers-loop-group l =
    list_any has_numbers (flat_map (λ (rules : List Expr). rules) (map all_rules_of_group (drop l.group-index l.groups)))
    ≡ list_any has_numbers (flat_map (λ (rules : List Expr). rules) (map all_rules_of_group l.groups))

abbrev pub invariant-members_have_numbers-loop-member : goal.invariant-members_have_numbers-loop-member
invariant-members_have_numbers-loop-member l =
    list_any has_numbers (flat_map (λ (rules : List Expr). rules) (map all_rules (drop l.member-index l.members)))
    ≡ list_any has_numbers (flat_map (λ (rules : List Expr). rules) (map all_rules l.members))
