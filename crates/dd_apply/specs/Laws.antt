-- How many nodes an operation makes, and when none leaves.
use Rattle.std.specs.Prelude.{◌+◌, ◌<◌, ◌≤◌, [], ◌∷◌}
use Rattle.dd_store.specs.Size.{Function, size}
use Rattle.dd_store.specs.Table.{Table, node_count, IsSound}
use Rattle.dd_apply.specs.Made.{Makes, StaysUnlessFull}

-- At most as many nodes are made as the asked function needs.
abbrev pub FewAreMade : Type 0
FewAreMade =
    (old new : Table) (asked : Function) → IsSound new → Makes old new asked →
    node_count new ≤ node_count old + size new.order (asked ∷ [])

-- While the nodes with those that the asked function needs are below the budget, no node leaves.
abbrev pub RoomKeepsNodes : Type 0
RoomKeepsNodes =
    (old new : Table) (asked : Function) → StaysUnlessFull old new asked →
    node_count old + size old.order (asked ∷ []) < old.budget → Makes old new asked
