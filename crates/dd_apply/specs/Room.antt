-- Where a node can be had without a collection.
use Rattle.std.specs.Prelude.{◌≡◌, ◌⊎◌, ℕ, ◌<◌, Some}
use Rattle.dd_store.specs.declared.row.Row.{Row}
use Rattle.dd_store.specs.Table.{Table, row_of, node_count}

-- its ends are one, the table has room, or the node is there
abbrev pub HasRoomFor : Table → Row → Type 0
HasRoomFor t r = (r.low.0 ≡ r.high.0) ⊎ (node_count t < t.budget) ⊎ ((n : ℕ) × (row_of t n ≡ Some r))
