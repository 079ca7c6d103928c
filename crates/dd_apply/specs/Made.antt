-- What a call adds to a table, and when it collects.
use Rattle.std.specs.Prelude.{◌≡◌, ◌≢◌, ◌⊎◌, ℕ, Some}
use Rattle.std.specs.List.{Contains}
use Rattle.dd_store.specs.declared.row.Row.{Row}
use Rattle.dd_store.specs.Changes.{KeepsRows}
use Rattle.dd_store.specs.Exhausted.{IsPartialResult, value_at}
use Rattle.dd_store.specs.Follow.{IsThere}
use Rattle.dd_store.specs.Size.{Function, cofactors}
use Rattle.dd_store.specs.Table.{Table, row_of, node_count, IsSound}

-- no node leaves, and the value of each new one is that of the asked function with the first variables fixed
pub record Makes (old new : Table) (asked : Function) : Type 0 where
  pub rows : KeepsRows old new
  pub made : (n : ℕ) (r : Row) → row_of new n ≡ Some r → (row_of old n ≡ Some r) ⊎ IsPartialResult new asked n

-- At a moment of the call the table was full: it held the old nodes, and what the call had made of the asked function
-- beside them, and these were as many as the budget, without one that the function needs.
pub record WasFull (old : Table) (asked : Function) : Type 0 where
  pub moment : Table
  pub sound : IsSound moment
  pub order : moment.order ≡ old.order
  pub budget : moment.budget ≡ old.budget
  pub makes : Makes old moment asked
  pub full : node_count moment ≡ moment.budget
  pub lacking : Function
  pub needed : Contains (cofactors moment.order asked) lacking
  pub absent : (n : ℕ) → IsThere (row_of moment) n → value_at moment n ≢ lacking

-- no node leaves but by a collection, and there is one only where the table is full
abbrev pub StaysUnlessFull : Table → Table → Function → Type 0
StaysUnlessFull old new asked = Makes old new asked ⊎ WasFull old asked
