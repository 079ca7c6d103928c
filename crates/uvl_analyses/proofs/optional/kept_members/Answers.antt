-- What all groups keep is listed.
use Rattle.std.proofs.Common.{◌≡◌, ◌≤◌, ◌&&◌, Bool, false, not, List, length, get_or, take, IfOk, ap, ◌∙◌, subst, arith}
use Rattle.std.specs.List.{list_any}
use Rattle.std.proofs.lemmas.List.{take_all}
use Rattle.uvl_model.specs.declared.rows.FeatureNo.{FeatureNo}
use Rattle.uvl_model.specs.declared.rows.GroupRow.{GroupRow}
use Rattle.uvl_model.specs.Spelling.{numbered}
use Rattle.uvl_analyses.specs.Listed.{with_mark}
use Rattle.uvl_analyses.specs.Members.{is_dead_in, is_false_optional, is_kept_in}
use Rattle.uvl_analyses.proofs.Lists.{same_passing}
use Rattle.uvl_analyses.proofs.optional.kept_members.Goals as goal

pub returns : goal.returns
returns c =
    let rows = c.args.it.now.model in
    let kept : List Bool = c.loop-group.kept.items in
    let test : FeatureNo → Bool = λ feature. get_or kept feature.0 false in
    let size = ap (λ (gs : List GroupRow). length gs) c.groups-group-items.ensures.rows in
    let all : length rows.groups ≤ c.loop-group.group-index = omega (arith, size, c.loop-group-test.false) in
    let whole : take c.loop-group.group-index rows.groups ≡ rows.groups = take_all c.loop-group.group-index rows.groups all in
    let same =
    same_passing test (is_false_optional rows) (length kept) (length rows.features) c.loop-group.invariant.0
    (λ k within.
    let inside = c.loop-group.invariant.0 in
    c.loop-group.invariant.1 k (omega (arith, inside, within))
    ∙ ap (λ (gs : List GroupRow). not (is_dead_in rows (numbered k)) && list_any (λ group. is_kept_in rows group (numbered k)) gs) whole) in
    subst (λ (xs : List FeatureNo). IfOk c.marked.result (λ features. features.items ≡ xs)) (ap with_mark c.deref-2.ensures.value ∙ same) c.marked.ensures
