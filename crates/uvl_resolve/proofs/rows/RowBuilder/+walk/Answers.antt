-- The steps of the walk.
use Rattle.std.proofs.Common.{◌≡◌, ◌++◌, ◌∷◌, ◌+◌, [], length, ℕ, suc, List, Option, take, drop, set, refl, sym, ap, ◌∙◌, subst, arith}
use Rattle.std.specs.Str.{chars}
use Rattle.std.specs.Option.{option_map}
use Rattle.std.proofs.lemmas.List.{drop_all, length-append}
use Rattle.std.proofs.lemmas.Option.{slice_get_read}
use Rattle.uvl_ast.specs.declared.feature.Attribute.{Attribute}
use Rattle.uvl_ast.specs.declared.feature.Feature.{Feature, out-Feature}
use Rattle.uvl_ast.specs.declared.feature.Group.{Group, out-Group}
use Rattle.uvl_model.specs.declared.rows.FeatureNo.{FeatureNo}
use Rattle.uvl_model.specs.declared.rows.FeatureRow.{FeatureRow}
use Rattle.uvl_model.specs.declared.rows.GroupRow.{GroupRow}
use Rattle.uvl_resolve.specs.declared.rows.RowBuilder.{RowBuilder}
use Rattle.uvl_model.specs.Spelling.{size_of}
use Rattle.uvl_placing.specs.Bounds.{least_of, most_of}
use Rattle.uvl_placing.specs.Files.{imports_of, placed, tree_of_root}
use Rattle.uvl_placing.specs.Names.{dotted, front_of}
use Rattle.uvl_resolve.specs.Under.{MayStandInName, tree_under}
use Rattle.uvl_resolve.specs.steps.Walk.{AddsTree, AddsGroups, AddsMembers, HasRoom, qualifiers_of, said_by_file, said_by_groups, said_by_line, said_by_members, said_by_names}
use Rattle.uvl_resolve.proofs.Loops.{GroupsGoOn, MembersGoOn, groups_fit_both, members_fit_both, groups_step, members_step, members_end, group_fits, line_fits, same_room, size_said, size_there, groups_size}
use Rattle.uvl_resolve.proofs.Said.{line_places, placed_at, placed_bare, qualifiers_front, one_item, count_front}
use Rattle.uvl_resolve.proofs.Steps.{no_groups_left, line_and_groups, group_by_members}
use Rattle.uvl_resolve.proofs.Texts.{next_item, on_ok}
use Rattle.uvl_resolve.proofs.UnderTexts.{longer}
use Rattle.uvl_resolve.proofs.rows.RowBuilder.+walk.Goals as goal

pub add_file-add_feature-requires : goal.add_file-add_feature-requires
add_file-add_feature-requires t c =
    let text = chars c.args.text.now in
    let e : said_by_file c.args.front.now c.args.loaded.now text ≡ said_by_line c.args.front.now c.args.loaded.now text c.in-Some.root =
    ap (λ (root : Option Feature). option_map (tree_under text) (tree_of_root (imports_of (placed c.args.front.now) c.args.loaded.now) root)) c.in-Some.is in
    (omega (arith, ap (size_said size_of) e), (c.requires.1.1.0, (c.requires.1.1.1.0, same_room size_of (length c.args.self.now.features) _ _ e c.requires.1.1.1.1)))

pub add_feature-add_placed-requires : goal.add_feature-add_placed-requires
add_feature-add_placed-requires t c =
    let text = chars c.args.text.now in
    let line = c.args.line.now in
    let same = ap length c.as_slice-names.ensures in
    let other : length (out-Feature line).name.parts ≡ 1 → ⊥ = λ one. omega (arith, one, same) in
    let e = line_places c.args.front.now c.args.loaded.now text line c.requires.1.1.1.1.0 other c.requires.1.1.1.1.1 in
    let names = ap (said_by_names c.args.front.now c.args.loaded.now text) (sym c.as_slice-names.ensures) in
    (omega (arith, ap (size_said size_of) (e ∙ names)), (c.requires.1.1.0, (c.requires.1.1.1.0, same_room size_of (length c.args.self.now.features) _ _ (e ∙ names) c.requires.1.1.1.1)))

pub add_feature-add_groups-requires : goal.add_feature-add_groups-requires
add_feature-add_groups-requires t c =
    let text = chars c.args.text.now in
    let line = c.args.line.now in
    let is : (out-Feature line).name.parts ≡ c.index-names-0.result ∷ [] = sym c.as_slice-names.ensures ∙ one_item c.as_slice-names.result.now c.index-names-0.result (omega arith) (omega arith) c.index-names-0.is in
    let fits = line_fits c.args.front.now c.args.loaded.now text line c.index-names-0.result (length c.args.self.now.features) is c.requires.1.1.1.1 in
    let count = ap length c.in_ok-number.ensures.features ∙ length-append c.args.self.now.features _ in
    let groups = ap (said_by_groups c.args.front.now c.args.loaded.now text) (sym c.as_slice-2.ensures) in (
      omega (arith, fits.less, ap (size_said groups_size) groups),
      (
        c.requires.1.1.0,
        (
          c.requires.1.1.1.0,
          same_room groups_size (length c.add_row.new.self.features) _ _ groups
              (subst (λ (n : ℕ). HasRoom groups_size n (said_by_groups c.args.front.now c.args.loaded.now text (out-Feature line).groups)) (sym count) fits.room),
        ),
      ),
    )

pub add_feature-returns-clause-added : goal.add_feature-returns-clause-added
add_feature-returns-clause-added t c =
    let text = chars c.args.text.now in
    let line = c.args.line.now in
    let old = c.args.self.now in
    let is : (out-Feature line).name.parts ≡ c.index-names-0.result ∷ [] = sym c.as_slice-names.ensures ∙ one_item c.as_slice-names.result.now c.index-names-0.result (omega arith) (omega arith) c.index-names-0.is in
    let row : List Attribute → FeatureRow = λ attributes. record { name = text ++ c.index-names-0.result; parent = c.args.parent; attributes = attributes } in
    line_and_groups c.args.front.now c.args.loaded.now text line c.index-names-0.result is old c.add_row.new.self c.add_groups.new.self c.args.parent
    (subst (λ (attributes : List Attribute). c.add_row.new.self.features ≡ old.features ++ row attributes ∷ []) c.as_slice.ensures c.in_ok-number.ensures.features)
    c.in_ok-number.ensures.groups
    (subst (λ (number : FeatureNo). AddsGroups c.add_row.new.self c.add_groups.new.self number (said_by_groups c.args.front.now c.args.loaded.now text (out-Feature line).groups)) c.in_ok-number.ensures.number
    (subst (λ (groups : List Group). AddsGroups c.add_row.new.self c.add_groups.new.self c.in_ok-number.number (said_by_groups c.args.front.now c.args.loaded.now text groups)) c.as_slice-2.ensures c.in_ok-add_groups.ensures))

pub add_placed-target_of_names-requires-clause-placed : goal.add_placed-target_of_names-requires-clause-placed
add_placed-target_of_names-requires-clause-placed t c =
    placed_bare c.args.front.now c.args.loaded.now (chars c.args.text.now) c.args.names.now c.requires.1.1.1.1.0 c.requires.1.1.1.1.1

pub add_placed-add_file-requires : goal.add_placed-add_file-requires
add_placed-add_file-requires t c =
    let text = chars c.args.text.now in
    let front = c.args.front.now in
    let names = c.args.names.now in
    let target = c.in_ok-target.target in
    let there = c.index-front-target.result in
    let fits = c.requires.1.1.1.1 in
    let at = placed_at c.files_are_read_in_order.ensures.in_front front c.args.loaded.now text names fits.0 target fits.1 c.in_ok-target.ensures.target in
    let found = slice_get_read front _ target there refl at.within c.index-front-target.is in
    let is : chars c.as_str.result.now ≡ longer text (dotted (front_of names)) =
    ap chars c.as_str.ensures.value ∙ c.in_ok-text.ensures.text ∙ ap (λ (n : ℕ). longer text (dotted (take n names))) c.saturating_sub.ensures in
    let says = ap (said_by_file (take target front) there) is ∙ at.says there found in
    let size = size_there size_of _ fits.0 says in
    let whole = size_there size_of _ fits.0 fits.1 in
    let count = count_front front target (omega (arith, at.within)) in
    let next : target + 1 ≡ suc target = omega arith in
    let known = ap (λ (qs : List (List (List ℕ))). take (target + 1) qs) c.requires.1.1.0
    ∙ ap (λ (n : ℕ). take n (qualifiers_of (front ++ c.args.loaded.now ∷ []))) next ∙ qualifiers_front front c.args.loaded.now there target found in
    (omega (arith, size, whole, count, at.within), (known, (subst (λ (xs : List ℕ). MayStandInName (chars xs)) (sym c.as_str.ensures.value) c.in_ok-text.ensures.name, (fits.0, says, fits.2))))

pub add_placed-returns-clause-added : goal.add_placed-returns-clause-added
add_placed-returns-clause-added t c =
    let text = chars c.args.text.now in
    let front = c.args.front.now in
    let names = c.args.names.now in
    let target = c.in_ok-target.target in
    let there = c.index-front-target.result in
    let fits = c.requires.1.1.1.1 in
    let at = placed_at c.files_are_read_in_order.ensures.in_front front c.args.loaded.now text names fits.0 target fits.1 c.in_ok-target.ensures.target in
    let found = slice_get_read front _ target there refl at.within c.index-front-target.is in
    let is : chars c.as_str.result.now ≡ longer text (dotted (front_of names)) =
    ap chars c.as_str.ensures.value ∙ c.in_ok-text.ensures.text ∙ ap (λ (n : ℕ). longer text (dotted (take n names))) c.saturating_sub.ensures in
    let says = ap (said_by_file (take target front) there) is ∙ at.says there found in
    on_ok c.add_file.result _ _ (λ h. subst (AddsTree c.args.self.now c.add_file.new.self c.args.parent) (says ∙ sym fits.1) h) c.add_file.ensures.added

pub add_groups-add_group-requires : goal.add_groups-add_group-requires
add_groups-add_group-requires t c =
    let text = chars c.args.text.now in
    let all = c.args.groups.now in
    let i = c.loop-group.group-index in
    let go = subst (λ (rest : List Group). GroupsGoOn c.args.front.now c.args.loaded.now text c.args.self.now c.loop-group.self c.args.parent all rest)
    (next_item all i c.group-item.result c.loop-group-test.true c.group-item.is) c.loop-group.invariant in
    let both = groups_fit_both c.args.front.now c.args.loaded.now text c.group-item.result (drop (i + 1) all) (length c.loop-group.self.features) go.room in
    (omega (arith, both.sizes, go.smaller), (c.requires.1.1.0, (c.requires.1.1.1.0, both.room)))

pub add_groups-loop-group-preserved : goal.add_groups-loop-group-preserved
add_groups-loop-group-preserved t c =
    let text = chars c.args.text.now in
    let all = c.args.groups.now in
    let i = c.loop-group.group-index in
    let go = subst (λ (rest : List Group). GroupsGoOn c.args.front.now c.args.loaded.now text c.args.self.now c.loop-group.self c.args.parent all rest)
    (next_item all i c.group-item.result c.loop-group-test.true c.group-item.is) c.loop-group.invariant in
    groups_step c.args.front.now c.args.loaded.now text c.args.self.now c.loop-group.self c.add_group.new.self c.args.parent all c.group-item.result (drop (i + 1) all) go c.in_ok-add_group.ensures

pub add_groups-returns : goal.add_groups-returns
add_groups-returns t c =
    let text = chars c.args.text.now in
    let all = c.args.groups.now in
    let go = subst (λ (rest : List Group). GroupsGoOn c.args.front.now c.args.loaded.now text c.args.self.now c.loop-group.self c.args.parent all rest)
    (drop_all c.loop-group.group-index all c.loop-group-test.false) c.loop-group.invariant in
    go.add c.loop-group.self (no_groups_left c.loop-group.self c.args.parent)

pub add_group-overflow_cast-count : goal.add_group-overflow_cast-count
add_group-overflow_cast-count t c =
    let fits = group_fits c.args.front.now c.args.loaded.now (chars c.args.text.now) c.args.group.now (length c.args.self.now.features) c.requires.1.1.1.1 in
    omega (arith, fits.few, c.len-count.ensures)

pub add_group-least_of-lo-requires : goal.add_group-least_of-lo-requires
add_group-least_of-lo-requires t c =
    let fits = group_fits c.args.front.now c.args.loaded.now (chars c.args.text.now) c.args.group.now (length c.args.self.now.features) c.requires.1.1.1.1 in
    omega (arith, fits.few, c.len-count.ensures)

pub add_group-most_of-hi-requires : goal.add_group-most_of-hi-requires
add_group-most_of-hi-requires t c =
    let fits = group_fits c.args.front.now c.args.loaded.now (chars c.args.text.now) c.args.group.now (length c.args.self.now.features) c.requires.1.1.1.1 in
    omega (arith, fits.few, c.len-count.ensures)

pub add_group-returns : goal.add_group-returns
add_group-returns t c =
    let text = chars c.args.text.now in
    let written = c.args.group.now in
    let pushed : RowBuilder = record { alloc = c.args.self.now.alloc; features = c.args.self.now.features; groups = c.push.new.self } in
    let walked = c.add_members.new.self in
    let row : GroupRow = record { parent = c.args.parent; lo = c.least_of-lo.result; hi = c.most_of-hi.result; members = c.in_ok-members.members } in
    group_by_members c.args.front.now c.args.loaded.now text written c.args.self.now pushed walked
    (record { alloc = walked.alloc; features = walked.features; groups = c.set.new.self }) c.args.parent c.in_ok-members.members c.least_of-lo.result c.most_of-hi.result _
    refl c.in_ok-push.ensures.ok
    (subst (λ (lines : List Feature). AddsMembers pushed walked c.args.parent (said_by_members c.args.front.now c.args.loaded.now text lines) c.in_ok-members.members) c.as_slice-lines.ensures c.in_ok-members.ensures)
    refl
    (c.set.ensures ∙ ap (λ (n : ℕ). set walked.groups n row) c.len-place.ensures)
    (λ _. sym (c.least_of-lo.ensures ∙ ap (least_of (out-Group written).kind) c.len-count.ensures))
    (λ _. sym (c.most_of-hi.ensures ∙ ap (most_of (out-Group written).kind) c.len-count.ensures))

pub add_members-add_feature-requires : goal.add_members-add_feature-requires
add_members-add_feature-requires t c =
    let text = chars c.args.text.now in
    let all = c.args.lines.now in
    let i = c.loop-line.line-index in
    let go = subst (λ (rest : List Feature). MembersGoOn c.args.front.now c.args.loaded.now text c.args.self.now c.loop-line.self c.args.parent all rest c.loop-line.numbers)
    (next_item all i c.line-item.result c.loop-line-test.true c.line-item.is) c.loop-line.invariant in
    let both = members_fit_both c.args.front.now c.args.loaded.now text c.line-item.result (drop (i + 1) all) (length c.loop-line.self.features) go.room in
    (omega (arith, both.sizes, go.smaller), (c.requires.1.1.0, (c.requires.1.1.1.0, both.room)))

pub add_members-loop-line-preserved : goal.add_members-loop-line-preserved
add_members-loop-line-preserved t c =
    let text = chars c.args.text.now in
    let all = c.args.lines.now in
    let i = c.loop-line.line-index in
    let go = subst (λ (rest : List Feature). MembersGoOn c.args.front.now c.args.loaded.now text c.args.self.now c.loop-line.self c.args.parent all rest c.loop-line.numbers)
    (next_item all i c.line-item.result c.loop-line-test.true c.line-item.is) c.loop-line.invariant in
    let step = members_step c.args.front.now c.args.loaded.now text c.args.self.now c.loop-line.self c.add_feature.new.self c.args.parent all c.line-item.result (drop (i + 1) all) c.loop-line.numbers go
    c.in_ok-number.ensures.added in
    subst (λ (numbers : List FeatureNo). MembersGoOn c.args.front.now c.args.loaded.now text c.args.self.now c.add_feature.new.self c.args.parent all (drop (i + 1) all) numbers)
    (sym (c.in_ok-push.ensures.ok ∙ ap (λ (number : FeatureNo). c.loop-line.numbers ++ number ∷ []) c.in_ok-number.ensures.number)) step

pub add_members-returns : goal.add_members-returns
add_members-returns t c =
    let text = chars c.args.text.now in
    let all = c.args.lines.now in
    members_end c.args.front.now c.args.loaded.now text c.args.self.now c.loop-line.self c.args.parent all c.loop-line.numbers
    (subst (λ (rest : List Feature). MembersGoOn c.args.front.now c.args.loaded.now text c.args.self.now c.loop-line.self c.args.parent all rest c.loop-line.numbers)
    (drop_all c.loop-line.line-index all c.loop-line-test.false) c.loop-line.invariant)
