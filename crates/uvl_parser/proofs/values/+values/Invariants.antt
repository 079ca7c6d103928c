-- The depth falls at each brace and bracket; within one depth a part comes below the whole.
use Rattle.std.proofs.Common.{◌+◌, ◌*◌}
use Rattle.uvl_parser.proofs.values.+values.Given as goal

abbrev pub decreases-value_at : goal.decreases-value_at
decreases-value_at l = 10 * l.depth + 1

abbrev pub decreases-attribute_at : goal.decreases-attribute_at
decreases-attribute_at l = 10 * l.depth + 2

abbrev pub decreases-attributes-separated : goal.decreases-attributes-separated
decreases-attributes-separated l = 10 * l.depth + 3

abbrev pub decreases-values-separated : goal.decreases-values-separated
decreases-values-separated l = 10 * l.depth + 3

abbrev pub decreases-attributes : goal.decreases-attributes
decreases-attributes l = 10 * l.depth + 4

abbrev pub decreases-values : goal.decreases-values
decreases-values l = 10 * l.depth + 4

abbrev pub decreases-list : goal.decreases-list
decreases-list l = 10 * l.depth + 5

abbrev pub decreases-vector : goal.decreases-vector
decreases-vector l = 10 * l.depth + 5
