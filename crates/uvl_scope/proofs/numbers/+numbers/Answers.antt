-- A group or a member speaks of numbers, or those behind it are left.
use Rattle.std.proofs.Common.{◌+◌, Bool, List, drop, map, sym, ap, ◌∙◌}
use Rattle.std.specs.List.{flat_map, list_any}
use Rattle.uvl_ast.specs.declared.expression.Expr.{Expr}
use Rattle.uvl_ast.specs.declared.feature.Feature.{Feature}
use Rattle.uvl_ast.specs.declared.feature.Group.{Group}
use Rattle.uvl_ast.specs.Rules.{all_rules, all_rules_of_group}
use Rattle.uvl_scope.specs.Rules.{has_numbers}
use Rattle.uvl_scope.proofs.AnyNumbers.{any_in_front, any_in_rest}
use Rattle.uvl_scope.proofs.Dotting.{next_item}
use Rattle.uvl_scope.proofs.RulesWalked.{rules_in}
use Rattle.uvl_scope.proofs.numbers.+numbers.Goals as goal

-- whether rules of groups and of members do
abbrev in_groups : List Group → Bool
in_groups groups = list_any has_numbers (flat_map (λ (rules : List Expr). rules) (map all_rules_of_group groups))

abbrev in_members : List Feature → Bool
in_members members = list_any has_numbers (flat_map (λ (rules : List Expr). rules) (map all_rules members))

abbrev rest_of_groups : List Group → List Expr
rest_of_groups groups = flat_map (λ (rules : List Expr). rules) (map all_rules_of_group groups)

abbrev rest_of_members : List Feature → List Expr
rest_of_members members = flat_map (λ (rules : List Expr). rules) (map all_rules members)

pub groups_have_numbers-returns-then-members_have_numbers : goal.groups_have_numbers-returns-then-members_have_numbers
groups_have_numbers-returns-then-members_have_numbers t c =
    let all = c.args.groups.now in
    let i = c.loop-group.group-index in
    let item = c.group-item.result in
    any_in_front (all_rules_of_group item) (rest_of_groups (drop (i + 1) all)) (in_groups all)
    (ap in_groups (sym (next_item all i item c.loop-group-test.true c.group-item.is)) ∙ c.loop-group.invariant)
    (ap (list_any has_numbers) (rules_in item) ∙ ap in_members (sym c.as_slice.ensures) ∙ sym c.members_have_numbers.ensures ∙ c.if-members_have_numbers.true)

pub groups_have_numbers-loop-group-preserved : goal.groups_have_numbers-loop-group-preserved
groups_have_numbers-loop-group-preserved t c =
    let all = c.args.groups.now in
    let i = c.loop-group.group-index in
    let item = c.group-item.result in
    any_in_rest (all_rules_of_group item) (rest_of_groups (drop (i + 1) all)) (in_groups all)
    (ap in_groups (sym (next_item all i item c.loop-group-test.true c.group-item.is)) ∙ c.loop-group.invariant)
    (ap (list_any has_numbers) (rules_in item) ∙ ap in_members (sym c.as_slice.ensures) ∙ sym c.members_have_numbers.ensures ∙ c.if-members_have_numbers.false)

pub members_have_numbers-returns-then-line_has_numbers : goal.members_have_numbers-returns-then-line_has_numbers
members_have_numbers-returns-then-line_has_numbers t c =
    let all = c.args.members.now in
    let i = c.loop-member.member-index in
    let item = c.member-item.result in
    any_in_front (all_rules item) (rest_of_members (drop (i + 1) all)) (in_members all)
    (ap in_members (sym (next_item all i item c.loop-member-test.true c.member-item.is)) ∙ c.loop-member.invariant)
    (sym c.line_has_numbers.ensures ∙ c.if-line_has_numbers.true)

pub members_have_numbers-loop-member-preserved : goal.members_have_numbers-loop-member-preserved
members_have_numbers-loop-member-preserved t c =
    let all = c.args.members.now in
    let i = c.loop-member.member-index in
    let item = c.member-item.result in
    any_in_rest (all_rules item) (rest_of_members (drop (i + 1) all)) (in_members all)
    (ap in_members (sym (next_item all i item c.loop-member-test.true c.member-item.is)) ∙ c.loop-member.invariant)
    (sym c.line_has_numbers.ensures ∙ c.if-line_has_numbers.false)
