-- The rules of a feature, and then those below it.
use Rattle.std.proofs.Common.{◌≡◌, ◌+◌, List, ◌++◌, map, drop, arith, sym, ap, ◌∙◌, subst}
use Rattle.std.specs.List.{All, flat_map}
use Rattle.std.proofs.lemmas.List.{drop_all}
use Rattle.uvl_ast.specs.declared.expression.Expr.{Expr}
use Rattle.uvl_ast.specs.declared.feature.Feature.{Feature, out-Feature}
use Rattle.uvl_ast.specs.declared.feature.Group.{Group}
use Rattle.uvl_ast.specs.Rules.{all_rules, all_rules_of_group}
use Rattle.uvl_resolve.specs.steps.Rules.{IsPlain, SaysRules, heads_in}
use Rattle.uvl_resolve.proofs.Depths.{depth_at, depth_in, group_within, groups_depth, member_within, members_depth}
use Rattle.uvl_resolve.proofs.Saying.{RulesGoOn, front_plain, parts_said, rest_plain, rules_at, rules_begin, rules_end, rules_in, rules_step}
use Rattle.uvl_resolve.proofs.Texts.{next_item, on_ok}
use Rattle.uvl_resolve.proofs.rules.RuleBuilder.+braces.Goals as goal

abbrev joined : List (List Expr) → List Expr
joined lists = flat_map (λ (rules : List Expr). rules) lists

pub add_rules_of-add_rules-requires-clause-plain : goal.add_rules_of-add_rules-requires-clause-plain
add_rules_of-add_rules-requires-clause-plain t c =
    let line = c.args.line.now in
    let groups = joined (map all_rules_of_group (out-Feature line).groups) in
    front_plain (heads_in c.args.scope.now) c.as_slice.result.now groups
    (subst (All (IsPlain (heads_in c.args.scope.now))) (rules_at line ∙ ap (λ (rs : List Expr). rs ++ groups) (sym c.as_slice.ensures)) c.requires.plain)

pub add_rules_of-add_rules_of_groups-requires : goal.add_rules_of-add_rules_of_groups-requires
add_rules_of-add_rules_of_groups-requires t c =
    let line = c.args.line.now in
    let own = (out-Feature line).rules in
    let is : all_rules line ≡ own ++ joined (map all_rules_of_group c.as_slice-2.result.now) =
    rules_at line ∙ ap (λ (gs : List Group). own ++ joined (map all_rules_of_group gs)) (sym c.as_slice-2.ensures) in
    (omega (arith, depth_at c.args.line.now, ap groups_depth c.as_slice-2.ensures), (c.requires.few, rest_plain (heads_in c.args.scope.now) own (joined (map all_rules_of_group c.as_slice-2.result.now)) (subst (All (IsPlain (heads_in c.args.scope.now))) is c.requires.plain)))

pub add_rules_of-returns : goal.add_rules_of-returns
add_rules_of-returns t c =
    let line = c.args.line.now in
    let groups = joined (map all_rules_of_group c.as_slice-2.result.now) in
    let whole : all_rules line ≡ c.as_slice.result.now ++ groups =
    rules_at line ∙ ap (λ (rs : List Expr). rs ++ joined (map all_rules_of_group (out-Feature line).groups)) (sym c.as_slice.ensures)
    ∙ ap (λ (gs : List Group). c.as_slice.result.now ++ joined (map all_rules_of_group gs)) (sym c.as_slice-2.ensures) in
    on_ok c.add_rules_of_groups.result _ _
    (λ h. parts_said (heads_in c.args.scope.now) c.args.offset c.args.self.now.rules c.add_rules.new.self.rules c.add_rules_of_groups.new.self.rules (all_rules line)
    c.as_slice.result.now groups whole c.in_ok-add_rules.ensures h)
    c.add_rules_of_groups.ensures

pub add_rules_of_groups-add_rules_of_members-requires : goal.add_rules_of_groups-add_rules_of_members-requires
add_rules_of_groups-add_rules_of_members-requires t c =
    let all = c.args.groups.now in
    let i = c.loop-group.group-index in
    let item = c.group-item.result in
    let names = heads_in c.args.scope.now in
    let rest = joined (map all_rules_of_group (drop (i + 1) all)) in
    let go = subst (λ (left : List Group). RulesGoOn names c.args.offset c.args.self.now.rules c.loop-group.self.rules (joined (map all_rules_of_group all)) (joined (map all_rules_of_group left)))
    (next_item all i item c.loop-group-test.true c.group-item.is) c.loop-group.invariant in
    let is : all_rules_of_group item ≡ joined (map all_rules c.as_slice.result.now) =
    rules_in item ∙ ap (λ (ms : List Feature). joined (map all_rules ms)) (sym c.as_slice.ensures) in
    (omega (arith, depth_in item, ap members_depth c.as_slice.ensures, group_within all i item c.loop-group-test.true c.group-item.is), (c.requires.few, subst (All (IsPlain names)) is (front_plain names (all_rules_of_group item) rest go.plain)))

pub add_rules_of_groups-loop-group-init : goal.add_rules_of_groups-loop-group-init
add_rules_of_groups-loop-group-init t c =
    rules_begin (heads_in c.args.scope.now) c.args.offset c.args.self.now.rules (joined (map all_rules_of_group c.args.groups.now)) c.requires.plain

pub add_rules_of_groups-loop-group-preserved : goal.add_rules_of_groups-loop-group-preserved
add_rules_of_groups-loop-group-preserved t c =
    let all = c.args.groups.now in
    let i = c.loop-group.group-index in
    let item = c.group-item.result in
    let names = heads_in c.args.scope.now in
    let rest = joined (map all_rules_of_group (drop (i + 1) all)) in
    let go = subst (λ (left : List Group). RulesGoOn names c.args.offset c.args.self.now.rules c.loop-group.self.rules (joined (map all_rules_of_group all)) (joined (map all_rules_of_group left)))
    (next_item all i item c.loop-group-test.true c.group-item.is) c.loop-group.invariant in
    let is : all_rules_of_group item ≡ joined (map all_rules c.as_slice.result.now) =
    rules_in item ∙ ap (λ (ms : List Feature). joined (map all_rules ms)) (sym c.as_slice.ensures) in
    rules_step names c.args.offset c.args.self.now.rules c.loop-group.self.rules c.add_rules_of_members.new.self.rules (joined (map all_rules_of_group all)) (all_rules_of_group item) rest go
    (subst (λ (front : List Expr). SaysRules names c.args.offset c.loop-group.self.rules c.add_rules_of_members.new.self.rules front) (sym is)
    c.in_ok-add_rules_of_members.ensures)

pub add_rules_of_groups-returns : goal.add_rules_of_groups-returns
add_rules_of_groups-returns t c =
    let all = c.args.groups.now in
    rules_end (heads_in c.args.scope.now) c.args.offset c.args.self.now.rules c.loop-group.self.rules (joined (map all_rules_of_group all))
    (subst (λ (left : List Group). RulesGoOn (heads_in c.args.scope.now) c.args.offset c.args.self.now.rules c.loop-group.self.rules (joined (map all_rules_of_group all)) (joined (map all_rules_of_group left)))
    (drop_all c.loop-group.group-index all c.loop-group-test.false) c.loop-group.invariant)

pub add_rules_of_members-add_rules_of-requires : goal.add_rules_of_members-add_rules_of-requires
add_rules_of_members-add_rules_of-requires t c =
    let all = c.args.members.now in
    let i = c.loop-member.member-index in
    let item = c.member-item.result in
    let names = heads_in c.args.scope.now in
    let rest = joined (map all_rules (drop (i + 1) all)) in
    let go = subst (λ (left : List Feature). RulesGoOn names c.args.offset c.args.self.now.rules c.loop-member.self.rules (joined (map all_rules all)) (joined (map all_rules left)))
    (next_item all i item c.loop-member-test.true c.member-item.is) c.loop-member.invariant in
    (omega (arith, member_within all i item c.loop-member-test.true c.member-item.is), (c.requires.few, front_plain names (all_rules item) rest go.plain))

pub add_rules_of_members-loop-member-init : goal.add_rules_of_members-loop-member-init
add_rules_of_members-loop-member-init t c =
    rules_begin (heads_in c.args.scope.now) c.args.offset c.args.self.now.rules (joined (map all_rules c.args.members.now)) c.requires.plain

pub add_rules_of_members-loop-member-preserved : goal.add_rules_of_members-loop-member-preserved
add_rules_of_members-loop-member-preserved t c =
    let all = c.args.members.now in
    let i = c.loop-member.member-index in
    let item = c.member-item.result in
    let names = heads_in c.args.scope.now in
    let rest = joined (map all_rules (drop (i + 1) all)) in
    let go = subst (λ (left : List Feature). RulesGoOn names c.args.offset c.args.self.now.rules c.loop-member.self.rules (joined (map all_rules all)) (joined (map all_rules left)))
    (next_item all i item c.loop-member-test.true c.member-item.is) c.loop-member.invariant in
    rules_step names c.args.offset c.args.self.now.rules c.loop-member.self.rules c.add_rules_of.new.self.rules (joined (map all_rules all)) (all_rules item) rest go
    c.in_ok-add_rules_of.ensures

pub add_rules_of_members-returns : goal.add_rules_of_members-returns
add_rules_of_members-returns t c =
    let all = c.args.members.now in
    rules_end (heads_in c.args.scope.now) c.args.offset c.args.self.now.rules c.loop-member.self.rules (joined (map all_rules all))
    (subst (λ (left : List Feature). RulesGoOn (heads_in c.args.scope.now) c.args.offset c.args.self.now.rules c.loop-member.self.rules (joined (map all_rules all)) (joined (map all_rules left)))
    (drop_all c.loop-member.member-index all c.loop-member-test.false) c.loop-member.invariant)
