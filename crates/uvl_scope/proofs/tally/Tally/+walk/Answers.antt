-- The steps of the walk, and where it stops.
use Rattle.std.proofs.Common.{◌+◌, List, Option, drop, sym, ap, ◌∙◌, subst}
use Rattle.std.specs.Option.{option_or}
use Rattle.uvl_ast.specs.declared.feature.Feature.{Feature, out-Feature}
use Rattle.uvl_ast.specs.declared.feature.Group.{Group}
use Rattle.uvl_scope.specs.Brought.{Brought, brought_by, together}
use Rattle.uvl_scope.specs.LineFaults.{Finding}
use Rattle.uvl_scope.specs.Lines.{Line, of_feature, line_of, lines_from, lines_below}
use Rattle.uvl_scope.specs.steps.Offers.{placed_by}
use Rattle.uvl_scope.specs.steps.Walk.{IsFound, brought_of, fault_from}
use Rattle.uvl_scope.proofs.Dotting.{next_item}
use Rattle.uvl_scope.proofs.Walked.{GoOn, go_step, go_stop, err_is}
use Rattle.uvl_scope.proofs.WalkLines.{lines_at, lines_of_groups, lines_of_members}
use Rattle.uvl_scope.proofs.tally.Tally.+walk.Goals as goal

pub add_feature-returns-clause-found : goal.add_feature-returns-clause-found
add_feature-returns-clause-found t c =
    let placing = placed_by c.args.scopes.now c.args.imports.now in
    let before = brought_of c.args.self.now in
    let mid = brought_of c.add_line.new.self in
    let depth = c.args.depth in
    let line : Line = of_feature (line_of (out-Feature c.args.line.now) depth) in
    let groups : List Line = lines_of_groups depth (out-Feature c.args.line.now).groups in
    subst (λ (f : Option Finding). IsFound f c.add_groups.result)
    (sym (ap (fault_from placing before) (lines_at c.args.line.now depth)
    ∙ ap (λ (f : Option Finding). option_or f (fault_from placing (together before (brought_by placing line)) groups)) c.in_ok-add_line.ensures.found
    ∙ ap (λ (b : Brought). fault_from placing b groups) (sym c.in_ok-add_line.ensures.brought)
    ∙ ap (λ (gs : List Group). fault_from placing mid (lines_of_groups depth gs)) (sym c.as_slice.ensures)))
    c.add_groups.ensures.found

pub add_groups-loop-group-preserved : goal.add_groups-loop-group-preserved
add_groups-loop-group-preserved t c =
    let placing = placed_by c.args.scopes.now c.args.imports.now in
    let all = c.args.groups.now in
    let i = c.loop-group.group-index in
    let here = brought_of c.loop-group.self in
    let start = brought_of c.args.self.now in
    let go = subst (λ (rest : List Group). GoOn placing start (lines_of_groups c.args.depth all) here (lines_of_groups c.args.depth rest))
    (next_item all i c.group-item.result c.loop-group-test.true c.group-item.is) c.loop-group.invariant.1 in (
      c.in_ok-add_group.ensures.within,
      go_step placing start (lines_of_groups c.args.depth all) here (brought_of c.add_group.new.self) (lines_below c.group-item.result c.args.depth)
          (lines_of_groups c.args.depth (drop (i + 1) all)) go c.in_ok-add_group.ensures.found c.in_ok-add_group.ensures.brought,
    )

pub add_groups-returns-in_err-add_group-clause-found : goal.add_groups-returns-in_err-add_group-clause-found
add_groups-returns-in_err-add_group-clause-found t c =
    let placing = placed_by c.args.scopes.now c.args.imports.now in
    let all = c.args.groups.now in
    let i = c.loop-group.group-index in
    let here = brought_of c.loop-group.self in
    let start = brought_of c.args.self.now in
    let go = subst (λ (rest : List Group). GoOn placing start (lines_of_groups c.args.depth all) here (lines_of_groups c.args.depth rest))
    (next_item all i c.group-item.result c.loop-group-test.true c.group-item.is) c.loop-group.invariant.1 in
    go_stop placing start (lines_of_groups c.args.depth all) here (lines_below c.group-item.result c.args.depth) (lines_of_groups c.args.depth (drop (i + 1) all))
    c.from_residual.result c.in_err-add_group.field-0.0 go (err_is c.from_residual.result c.in_err-add_group.field-0.0 c.from_residual.ensures.1)
    c.in_err-add_group.ensures.found

pub add_members-loop-member-preserved : goal.add_members-loop-member-preserved
add_members-loop-member-preserved t c =
    let placing = placed_by c.args.scopes.now c.args.imports.now in
    let all = c.args.members.now in
    let i = c.loop-member.member-index in
    let here = brought_of c.loop-member.self in
    let start = brought_of c.args.self.now in
    let go = subst (λ (rest : List Feature). GoOn placing start (lines_of_members c.args.depth all) here (lines_of_members c.args.depth rest))
    (next_item all i c.member-item.result c.loop-member-test.true c.member-item.is) c.loop-member.invariant.1 in (
      c.in_ok-add_feature.ensures.within,
      go_step placing start (lines_of_members c.args.depth all) here (brought_of c.add_feature.new.self) (lines_from c.member-item.result c.args.depth)
          (lines_of_members c.args.depth (drop (i + 1) all)) go c.in_ok-add_feature.ensures.found c.in_ok-add_feature.ensures.brought,
    )

pub add_members-returns-in_err-add_feature-clause-found : goal.add_members-returns-in_err-add_feature-clause-found
add_members-returns-in_err-add_feature-clause-found t c =
    let placing = placed_by c.args.scopes.now c.args.imports.now in
    let all = c.args.members.now in
    let i = c.loop-member.member-index in
    let here = brought_of c.loop-member.self in
    let start = brought_of c.args.self.now in
    let go = subst (λ (rest : List Feature). GoOn placing start (lines_of_members c.args.depth all) here (lines_of_members c.args.depth rest))
    (next_item all i c.member-item.result c.loop-member-test.true c.member-item.is) c.loop-member.invariant.1 in
    go_stop placing start (lines_of_members c.args.depth all) here (lines_from c.member-item.result c.args.depth) (lines_of_members c.args.depth (drop (i + 1) all))
    c.from_residual.result c.in_err-add_feature.field-0.0 go (err_is c.from_residual.result c.in_err-add_feature.field-0.0 c.from_residual.ensures.1)
    c.in_err-add_feature.ensures.found
