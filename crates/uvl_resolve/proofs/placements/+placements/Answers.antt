-- The placing lines of a line, and then those below it.
use Rattle.std.proofs.Common.{◌≡◌, ◌+◌, List, ℕ, map, drop, arith, sym, ap, ◌∙◌, subst}
use Rattle.std.specs.List.{All, flat_map}
use Rattle.std.proofs.lemmas.List.{drop_all}
use Rattle.uvl_ast.specs.declared.feature.Feature.{Feature, out-Feature}
use Rattle.uvl_ast.specs.declared.feature.Group.{Group}
use Rattle.uvl_placing.specs.Constraints.{placing_names, placings_below, placings_from}
use Rattle.uvl_resolve.specs.steps.Placements.{AddsPlacements, IsPlaced}
use Rattle.uvl_resolve.proofs.Depths.{depth_at, depth_in, group_within, groups_depth, member_within, members_depth}
use Rattle.uvl_resolve.proofs.Placing.{PlacesGoOn, front_placed, one_name, places_end, places_step, placings_at, placings_in}
use Rattle.uvl_resolve.proofs.Texts.{next_item}
use Rattle.uvl_resolve.proofs.placements.+placements.Goals as goal

abbrev joined : List (List (List (List ℕ))) → List (List (List ℕ))
joined lists = flat_map (λ (placings : List (List (List ℕ))). placings) lists

pub add_placements-add_placements_of_groups-requires : goal.add_placements-add_placements_of_groups-requires
add_placements-add_placements_of_groups-requires t c =
    let line = c.args.line.now in
    let below = joined (map placings_below (out-Feature line).groups) in
    let is : placings_from line ≡ joined (map placings_below c.as_slice.result.now) =
    placings_at line ∙ ap (λ (names : List (List ℕ)). placing_names names below) (sym c.as_slice-parts.ensures)
    ∙ one_name c.as_slice-parts.result.now below c.if-parts-eq1.true ∙ ap (λ (gs : List Group). joined (map placings_below gs)) (sym c.as_slice.ensures) in
    (omega (arith, depth_at c.args.line.now, ap groups_depth c.as_slice.ensures), (c.requires.known, subst (All (IsPlaced c.args.loaded.now c.args.names.now)) is c.requires.placed))

pub add_placements_of_groups-add_placements_of_members-requires : goal.add_placements_of_groups-add_placements_of_members-requires
add_placements_of_groups-add_placements_of_members-requires t c =
    let all = c.args.groups.now in
    let i = c.loop-group.group-index in
    let item = c.group-item.result in
    let rest = joined (map placings_below (drop (i + 1) all)) in
    let go = subst (λ (left : List Group). PlacesGoOn c.args.loaded.now c.args.names.now c.args.placements.now.items c.loop-group.placements.items (joined (map placings_below all)) (joined (map placings_below left)))
    (next_item all i item c.loop-group-test.true c.group-item.is) c.loop-group.invariant in
    let is : placings_below item ≡ joined (map placings_from c.as_slice-members.result.now) =
    placings_in item ∙ ap (λ (ms : List Feature). joined (map placings_from ms)) (sym c.as_slice-members.ensures) in
    (omega (arith, depth_in item, ap members_depth c.as_slice-members.ensures, group_within all i item c.loop-group-test.true c.group-item.is), (c.requires.known, subst (All (IsPlaced c.args.loaded.now c.args.names.now)) is (front_placed c.args.loaded.now c.args.names.now (placings_below item) rest go.placed)))

pub add_placements_of_groups-loop-group-preserved : goal.add_placements_of_groups-loop-group-preserved
add_placements_of_groups-loop-group-preserved t c =
    let all = c.args.groups.now in
    let i = c.loop-group.group-index in
    let item = c.group-item.result in
    let rest = joined (map placings_below (drop (i + 1) all)) in
    let loaded = c.args.loaded.now in
    let names = c.args.names.now in
    let go = subst (λ (left : List Group). PlacesGoOn loaded names c.args.placements.now.items c.loop-group.placements.items (joined (map placings_below all)) (joined (map placings_below left)))
    (next_item all i item c.loop-group-test.true c.group-item.is) c.loop-group.invariant in
    let is : placings_below item ≡ joined (map placings_from c.as_slice-members.result.now) =
    placings_in item ∙ ap (λ (ms : List Feature). joined (map placings_from ms)) (sym c.as_slice-members.ensures) in
    places_step loaded names c.args.placements.now.items c.loop-group.placements.items c.add_placements_of_members.new.placements.items (joined (map placings_below all))
    (placings_below item) rest go
    (subst (AddsPlacements loaded names c.loop-group.placements.items c.add_placements_of_members.new.placements.items) (sym is) c.in_ok-add_placements_of_members.ensures)

pub add_placements_of_groups-returns : goal.add_placements_of_groups-returns
add_placements_of_groups-returns t c =
    let all = c.args.groups.now in
    places_end c.args.loaded.now c.args.names.now c.args.placements.now.items c.loop-group.placements.items (joined (map placings_below all))
    (subst (λ (left : List Group). PlacesGoOn c.args.loaded.now c.args.names.now c.args.placements.now.items c.loop-group.placements.items (joined (map placings_below all)) (joined (map placings_below left)))
    (drop_all c.loop-group.group-index all c.loop-group-test.false) c.loop-group.invariant)

pub add_placements_of_members-add_placements-requires : goal.add_placements_of_members-add_placements-requires
add_placements_of_members-add_placements-requires t c =
    let all = c.args.members.now in
    let i = c.loop-member.member-index in
    let item = c.member-item.result in
    let rest = joined (map placings_from (drop (i + 1) all)) in
    let go = subst (λ (left : List Feature). PlacesGoOn c.args.loaded.now c.args.names.now c.args.placements.now.items c.loop-member.placements.items (joined (map placings_from all)) (joined (map placings_from left)))
    (next_item all i item c.loop-member-test.true c.member-item.is) c.loop-member.invariant in
    (omega (arith, member_within all i item c.loop-member-test.true c.member-item.is), (c.requires.known, front_placed c.args.loaded.now c.args.names.now (placings_from item) rest go.placed))

pub add_placements_of_members-loop-member-preserved : goal.add_placements_of_members-loop-member-preserved
add_placements_of_members-loop-member-preserved t c =
    let all = c.args.members.now in
    let i = c.loop-member.member-index in
    let item = c.member-item.result in
    let rest = joined (map placings_from (drop (i + 1) all)) in
    let loaded = c.args.loaded.now in
    let names = c.args.names.now in
    let go = subst (λ (left : List Feature). PlacesGoOn loaded names c.args.placements.now.items c.loop-member.placements.items (joined (map placings_from all)) (joined (map placings_from left)))
    (next_item all i item c.loop-member-test.true c.member-item.is) c.loop-member.invariant in
    places_step loaded names c.args.placements.now.items c.loop-member.placements.items c.add_placements.new.placements.items (joined (map placings_from all))
    (placings_from item) rest go c.in_ok-add_placements.ensures

pub add_placements_of_members-returns : goal.add_placements_of_members-returns
add_placements_of_members-returns t c =
    let all = c.args.members.now in
    places_end c.args.loaded.now c.args.names.now c.args.placements.now.items c.loop-member.placements.items (joined (map placings_from all))
    (subst (λ (left : List Feature). PlacesGoOn c.args.loaded.now c.args.names.now c.args.placements.now.items c.loop-member.placements.items (joined (map placings_from all)) (joined (map placings_from left)))
    (drop_all c.loop-member.member-index all c.loop-member-test.false) c.loop-member.invariant)
