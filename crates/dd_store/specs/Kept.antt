-- What a store keeps beside its table, and what ties it to the table.
use Rattle.std.specs.Prelude.{◌≡◌, ℕ, ◌<◌, ◌≤◌, Bool, false, List, length, slice_index, slice_index_or}
use Rattle.dd_store.specs.Table.{Table, handle_count, level_of, IsSound}

-- the marks of the nodes and the variables that the slots know, how many handles are live, and the level of each
-- variable
pub record Index : Type 0 where
  pub marks : List Bool
  pub variables : ℕ
  pub live : ℕ
  pub levels : List ℕ

-- the index is that of the table
pub record IsKept (t : Table) (i : Index) : Type 0 where
  pub sound : IsSound t
  -- the constants have slots, and each slot has its count of handles
  pub constants : 2 ≤ length t.slots
  pub counted : length t.counts ≡ length t.slots
  -- the slots know each variable, and no mark is left
  pub known : i.variables ≡ length t.order
  pub unmarked : (n : ℕ) → slice_index_or i.marks n false ≡ false
  -- the counter is right
  pub live_is : handle_count t ≡ i.live
  -- each variable has its level
  pub leveled : length i.levels ≡ length t.order
  pub level_is : (v : ℕ) → v < length t.order → slice_index i.levels v ≡ level_of t v
