-- The rules of a feature, and then those below it.
use Rattle.std.proofs.Common.{◌≡◌, ◌+◌, List, ◌++◌, map, drop, sym, ap, ◌∙◌, subst}
use Rattle.std.specs.List.{flat_map}
use Rattle.uvl_ast.specs.declared.expression.Expr.{Expr}
use Rattle.uvl_ast.specs.declared.feature.Feature.{Feature, out-Feature}
use Rattle.uvl_ast.specs.declared.feature.Group.{Group}
use Rattle.uvl_ast.specs.Rules.{all_rules, all_rules_of_group}
use Rattle.uvl_scope.specs.steps.Walk.{IsFound, AddsRules, fault_in_rules}
use Rattle.uvl_scope.proofs.Dotting.{next_item, on_ok}
use Rattle.uvl_scope.proofs.RulesWalked.{RulesGoOn, rules_at, rules_in, rules_begin, rules_step, rules_stop, rules_found, adds_append}
use Rattle.uvl_scope.proofs.Walked.{err_is}
use Rattle.uvl_scope.proofs.tally.Tally.+braces.Goals as goal

abbrev joined : List (List Expr) → List Expr
joined lists = flat_map (λ (rules : List Expr). rules) lists

pub add_rules_of-returns-in_err-add_rules-clause-found : goal.add_rules_of-returns-in_err-add_rules-clause-found
add_rules_of-returns-in_err-add_rules-clause-found t c =
    let start = c.args.self.now in
    let line = c.args.line.now in
    let groups = joined (map all_rules_of_group (out-Feature line).groups) in
    let go = subst (λ (rest : List Expr). RulesGoOn start start (all_rules line) rest) (rules_at line ∙ ap (λ (rs : List Expr). rs ++ groups) (sym c.as_slice.ensures))
    (rules_begin start (all_rules line) c.requires) in
    rules_stop start start (all_rules line) c.as_slice.result.now groups c.from_residual.result c.in_err-add_rules.field-0.0 go
    (err_is c.from_residual.result c.in_err-add_rules.field-0.0 c.from_residual.ensures.1) c.in_err-add_rules.ensures.found

pub add_rules_of-returns-clause-found : goal.add_rules_of-returns-clause-found
add_rules_of-returns-clause-found t c =
    let line = c.args.line.now in
    let whole : c.as_slice.result.now ++ joined (map all_rules_of_group c.as_slice-2.result.now) ≡ all_rules line =
    ap (λ (rs : List Expr). rs ++ joined (map all_rules_of_group c.as_slice-2.result.now)) c.as_slice.ensures
    ∙ ap (λ (gs : List Group). (out-Feature line).rules ++ joined (map all_rules_of_group gs)) c.as_slice-2.ensures ∙ sym (rules_at line) in
    subst (λ (l : List Expr). IsFound (fault_in_rules c.args.self.now l) c.add_rules_of_groups.result) whole
    (rules_found c.args.self.now c.add_rules.new.self c.as_slice.result.now (joined (map all_rules_of_group c.as_slice-2.result.now)) c.add_rules_of_groups.result
    c.in_ok-add_rules.ensures.adds c.in_ok-add_rules.ensures.found c.add_rules_of_groups.ensures.found)

pub add_rules_of-returns-clause-adds : goal.add_rules_of-returns-clause-adds
add_rules_of-returns-clause-adds t c =
    let line = c.args.line.now in
    let whole : c.as_slice.result.now ++ joined (map all_rules_of_group c.as_slice-2.result.now) ≡ all_rules line =
    ap (λ (rs : List Expr). rs ++ joined (map all_rules_of_group c.as_slice-2.result.now)) c.as_slice.ensures
    ∙ ap (λ (gs : List Group). (out-Feature line).rules ++ joined (map all_rules_of_group gs)) c.as_slice-2.ensures ∙ sym (rules_at line) in
    on_ok c.add_rules_of_groups.result _ _
    (λ h. subst (λ (l : List Expr). AddsRules c.args.self.now c.add_rules_of_groups.new.self l) whole
    (adds_append c.args.self.now c.add_rules.new.self c.add_rules_of_groups.new.self c.as_slice.result.now (joined (map all_rules_of_group c.as_slice-2.result.now))
    c.in_ok-add_rules.ensures.adds h))
    c.add_rules_of_groups.ensures.adds

pub add_rules_of_groups-loop-group-preserved : goal.add_rules_of_groups-loop-group-preserved
add_rules_of_groups-loop-group-preserved t c =
    let all = c.args.groups.now in
    let i = c.loop-group.group-index in
    let item = c.group-item.result in
    let rest = joined (map all_rules_of_group (drop (i + 1) all)) in
    let here = subst (λ (left : List Group). RulesGoOn c.args.self.now c.loop-group.self (joined (map all_rules_of_group all)) (joined (map all_rules_of_group left)))
    (next_item all i item c.loop-group-test.true c.group-item.is) c.loop-group.invariant in
    let go = subst (λ (front : List Expr). RulesGoOn c.args.self.now c.loop-group.self (joined (map all_rules_of_group all)) (front ++ rest))
    (rules_in item ∙ ap (λ (ms : List Feature). joined (map all_rules ms)) (sym c.as_slice.ensures)) here in
    rules_step c.args.self.now c.loop-group.self c.add_rules_of_members.new.self (joined (map all_rules_of_group all)) (joined (map all_rules c.as_slice.result.now)) rest go
    c.in_ok-add_rules_of_members.ensures.found c.in_ok-add_rules_of_members.ensures.adds

pub add_rules_of_groups-returns-in_err-add_rules_of_members-clause-found : goal.add_rules_of_groups-returns-in_err-add_rules_of_members-clause-found
add_rules_of_groups-returns-in_err-add_rules_of_members-clause-found t c =
    let all = c.args.groups.now in
    let i = c.loop-group.group-index in
    let item = c.group-item.result in
    let rest = joined (map all_rules_of_group (drop (i + 1) all)) in
    let here = subst (λ (left : List Group). RulesGoOn c.args.self.now c.loop-group.self (joined (map all_rules_of_group all)) (joined (map all_rules_of_group left)))
    (next_item all i item c.loop-group-test.true c.group-item.is) c.loop-group.invariant in
    let go = subst (λ (front : List Expr). RulesGoOn c.args.self.now c.loop-group.self (joined (map all_rules_of_group all)) (front ++ rest))
    (rules_in item ∙ ap (λ (ms : List Feature). joined (map all_rules ms)) (sym c.as_slice.ensures)) here in
    rules_stop c.args.self.now c.loop-group.self (joined (map all_rules_of_group all)) (joined (map all_rules c.as_slice.result.now)) rest
    c.from_residual.result c.in_err-add_rules_of_members.field-0.0 go
    (err_is c.from_residual.result c.in_err-add_rules_of_members.field-0.0 c.from_residual.ensures.1) c.in_err-add_rules_of_members.ensures.found

pub add_rules_of_members-loop-member-preserved : goal.add_rules_of_members-loop-member-preserved
add_rules_of_members-loop-member-preserved t c =
    let all = c.args.members.now in
    let i = c.loop-member.member-index in
    let item = c.member-item.result in
    let go = subst (λ (left : List Feature). RulesGoOn c.args.self.now c.loop-member.self (joined (map all_rules all)) (joined (map all_rules left)))
    (next_item all i item c.loop-member-test.true c.member-item.is) c.loop-member.invariant in
    rules_step c.args.self.now c.loop-member.self c.add_rules_of.new.self (joined (map all_rules all)) (all_rules item) (joined (map all_rules (drop (i + 1) all))) go
    c.in_ok-add_rules_of.ensures.found c.in_ok-add_rules_of.ensures.adds

pub add_rules_of_members-returns-in_err-add_rules_of-clause-found : goal.add_rules_of_members-returns-in_err-add_rules_of-clause-found
add_rules_of_members-returns-in_err-add_rules_of-clause-found t c =
    let all = c.args.members.now in
    let i = c.loop-member.member-index in
    let item = c.member-item.result in
    let go = subst (λ (left : List Feature). RulesGoOn c.args.self.now c.loop-member.self (joined (map all_rules all)) (joined (map all_rules left)))
    (next_item all i item c.loop-member-test.true c.member-item.is) c.loop-member.invariant in
    rules_stop c.args.self.now c.loop-member.self (joined (map all_rules all)) (all_rules item) (joined (map all_rules (drop (i + 1) all)))
    c.from_residual.result c.in_err-add_rules_of.field-0.0 go
    (err_is c.from_residual.result c.in_err-add_rules_of.field-0.0 c.from_residual.ensures.1) c.in_err-add_rules_of.ensures.found
