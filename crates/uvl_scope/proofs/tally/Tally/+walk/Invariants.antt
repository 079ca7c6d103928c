-- In the middle of a list of groups and of a list of members.
use Rattle.std.proofs.Common.{drop}
use Rattle.uvl_scope.specs.steps.Offers.{placed_by}
use Rattle.uvl_scope.specs.steps.Walk.{IsWithin, brought_of}
use Rattle.uvl_scope.proofs.Walked.{GoOn}
use Rattle.uvl_scope.proofs.WalkLines.{lines_of_groups, lines_of_members}
use Rattle.uvl_scope.proofs.tally.Tally.+walk.Given as goal

abbrev pub invariant-add_groups-loop-group : goal.invariant-add_groups-loop-group
invariant-add_groups-loop-group l =
    IsWithin l.self
    × GoOn (placed_by l.scopes l.imports) (brought_of l.initial.self) (lines_of_groups l.depth l.groups) (brought_of l.self)
    (lines_of_groups l.depth (drop l.group-index l.groups))

abbrev pub invariant-add_members-loop-member : goal.invariant-add_members-loop-member
invariant-add_members-loop-member l =
    IsWithin l.self
    × GoOn (placed_by l.scopes l.imports) (brought_of l.initial.self) (lines_of_members l.depth l.members) (brought_of l.self)
    (lines_of_members l.depth (drop l.member-index l.members))
