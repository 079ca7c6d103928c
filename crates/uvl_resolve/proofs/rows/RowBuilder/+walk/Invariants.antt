-- In the middle of a list of groups and of a list of members. Each call has fewer features to add, or goes on in a file
-- in front.
use Rattle.std.proofs.Common.{◌+◌, ◌*◌, drop, length}
use Rattle.std.specs.Str.{chars}
use Rattle.uvl_model.specs.Spelling.{size_of, size_of_members}
use Rattle.uvl_resolve.specs.steps.Walk.{said_by_file, said_by_group, said_by_groups, said_by_line, said_by_members, said_by_names}
use Rattle.uvl_resolve.proofs.Loops.{GroupsGoOn, MembersGoOn, size_said, groups_size, branch_size}
use Rattle.uvl_resolve.proofs.rows.RowBuilder.+walk.Given as goal

abbrev pub decreases-add_file : goal.decreases-add_file
decreases-add_file l = 10 * (size_said size_of (said_by_file l.front.now l.loaded.now (chars l.text.now)) + length l.front.now) + 2

abbrev pub decreases-add_feature : goal.decreases-add_feature
decreases-add_feature l =
    10 * (size_said size_of (said_by_line l.front.now l.loaded.now (chars l.text.now) l.line.now) + length l.front.now) + 1

abbrev pub decreases-add_placed : goal.decreases-add_placed
decreases-add_placed l =
    10 * (size_said size_of (said_by_names l.front.now l.loaded.now (chars l.text.now) l.names.now) + length l.front.now)

abbrev pub decreases-add_groups : goal.decreases-add_groups
decreases-add_groups l =
    10 * (size_said groups_size (said_by_groups l.front.now l.loaded.now (chars l.text.now) l.groups.now) + length l.front.now) + 4

abbrev pub decreases-add_group : goal.decreases-add_group
decreases-add_group l =
    10 * (size_said branch_size (said_by_group l.front.now l.loaded.now (chars l.text.now) l.group.now) + length l.front.now) + 3

abbrev pub decreases-add_members : goal.decreases-add_members
decreases-add_members l =
    10 * (size_said size_of_members (said_by_members l.front.now l.loaded.now (chars l.text.now) l.lines.now) + length l.front.now) + 2

abbrev pub invariant-add_groups-loop-group : goal.invariant-add_groups-loop-group
invariant-add_groups-loop-group l =
    GroupsGoOn l.front l.loaded (chars l.text) l.initial.self l.self l.parent l.groups (drop l.group-index l.groups)

abbrev pub invariant-add_members-loop-line : goal.invariant-add_members-loop-line
invariant-add_members-loop-line l =
    MembersGoOn l.front l.loaded (chars l.text) l.initial.self l.self l.parent l.lines (drop l.line-index l.lines) l.numbers
