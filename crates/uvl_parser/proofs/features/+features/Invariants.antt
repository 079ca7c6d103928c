-- The depth falls at each feature; within one depth a part comes below the whole.
use Rattle.std.proofs.Common.{◌+◌, ◌*◌}
use Rattle.uvl_parser.proofs.features.+features.Given as goal

abbrev pub decreases-feature_at : goal.decreases-feature_at
decreases-feature_at l = 10 * l.depth + 0

abbrev pub decreases-members-one_or_more : goal.decreases-members-one_or_more
decreases-members-one_or_more l = 10 * l.depth + 1

abbrev pub decreases-members : goal.decreases-members
decreases-members l = 10 * l.depth + 2

abbrev pub decreases-group : goal.decreases-group
decreases-group l = 10 * l.depth + 3

abbrev pub decreases-groups-body : goal.decreases-groups-body
decreases-groups-body l = 10 * l.depth + 4

abbrev pub decreases-groups : goal.decreases-groups
decreases-groups l = 10 * l.depth + 5

abbrev pub decreases-feature : goal.decreases-feature
decreases-feature l = 10 * l.depth + 6
