-- The placing lines in front are found, and the rest is left. Each call goes on with what is less deep.
use Rattle.std.proofs.Common.{◌+◌, ◌*◌, drop, map, List, ℕ}
use Rattle.std.specs.List.{flat_map}
use Rattle.uvl_placing.specs.Constraints.{placings_below, placings_from}
use Rattle.uvl_ast.specs.Depth.{depth_of}
use Rattle.uvl_resolve.proofs.Depths.{groups_depth, members_depth}
use Rattle.uvl_resolve.proofs.Placing.{PlacesGoOn}
use Rattle.uvl_resolve.proofs.placements.+placements.Given as goal

abbrev pub decreases-add_placements : goal.decreases-add_placements
decreases-add_placements l = 3 * depth_of l.line.now

abbrev pub decreases-add_placements_of_groups : goal.decreases-add_placements_of_groups
decreases-add_placements_of_groups l = 3 * groups_depth l.groups.now + 2

abbrev pub decreases-add_placements_of_members : goal.decreases-add_placements_of_members
decreases-add_placements_of_members l = 3 * members_depth l.members.now + 1

abbrev pub invariant-add_placements_of_groups-loop-group : goal.invariant-add_placements_of_groups-loop-group
invariant-add_placements_of_groups-loop-group l =
    PlacesGoOn l.loaded l.names l.initial.placements.items l.placements.items (flat_map (λ (placings : List (List (List ℕ))). placings) (map placings_below l.groups))
    (flat_map (λ (placings : List (List (List ℕ))). placings) (map placings_below (drop l.group-index l.groups)))

abbrev pub invariant-add_placements_of_members-loop-member : goal.invariant-add_placements_of_members-loop-member
invariant-add_placements_of_members-loop-member l =
    PlacesGoOn l.loaded l.names l.initial.placements.items l.placements.items (flat_map (λ (placings : List (List (List ℕ))). placings) (map placings_from l.members))
    (flat_map (λ (placings : List (List (List ℕ))). placings) (map placings_from (drop l.member-index l.members)))
