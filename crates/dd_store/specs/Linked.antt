-- The slots of a table and the chains through them, and what is always true of both.
use Rattle.std.specs.Prelude.{◌≡◌, ◌≢◌, ℕ, ◌+◌, ◌<◌, ◌≤◌, Bool, false, if◌then◌else◌, List, [], length, map, set, slice_index_or, Option, Some, None}
use Rattle.dd_store.specs.declared.row.Row.{Row}
use Rattle.dd_store.specs.declared.row.NodeNo.{NodeNo}
use Rattle.dd_store.specs.declared.slots.slot.Slot.{Slot}
use Rattle.dd_store.specs.declared.slots.slot.Slot.TheVariants.{Free, Node}
use Rattle.dd_store.specs.Limits.{most_budget}
use Rattle.dd_store.specs.Table.{rows_in}
use Rattle.dd_store.specs.Slots.{rows_testing}
use Rattle.dd_store.specs.Chains.{Heads, IsChainOf, AreChained, head_at, bucket_of, width}

-- the row of the node in a slot
abbrev pub row_of_slot : Slot → Option Row
row_of_slot (Free next) = None
row_of_slot (Node marked row next) = Some row

-- the next number of its chain
abbrev pub next_of_slot : Slot → ℕ
next_of_slot (Free next) = next.0
next_of_slot (Node marked row next) = next.0

-- whether it has a node that is marked
abbrev pub is_marked_slot : Slot → Bool
is_marked_slot (Free next) = false
is_marked_slot (Node marked row next) = marked

-- the slot of a number; a free one beyond the end
abbrev pub slot_at : List Slot → ℕ → Slot
slot_at slots n = slice_index_or slots n (Free (record { 0 = 0 }))

-- the row of a number, and the next number of its chain
abbrev pub row_in : List Slot → ℕ → Option Row
row_in slots n = row_of_slot (slot_at slots n)

abbrev pub next_in : List Slot → ℕ → ℕ
next_in slots n = next_of_slot (slot_at slots n)

-- the rows and the marks of slots, by number
abbrev pub rows_of : List Slot → List (Option Row)
rows_of slots = map row_of_slot slots

abbrev pub marks_of : List Slot → List Bool
marks_of slots = map is_marked_slot slots

-- the number is neither that of a constant nor that of a node
abbrev pub IsFree : List Slot → ℕ → Type 0
IsFree slots n = (2 ≤ n) × (n < length slots) × (row_in slots n ≡ None)

-- the heads of a variable's chains
abbrev pub heads_of : List Heads → ℕ → Heads
heads_of variables v = slice_index_or variables v (record { heads = []; nodes = 0 })

-- Each number from 2 on is in one chain: it is free, or it hangs where its row says.
pub record AreLinked (slots : List Slot) (free : ℕ) (variables : List Heads) (nodes : ℕ) : Type 0 where
  pub constants : 2 ≤ length slots
  pub few : length slots ≤ most_budget + 2
  -- the constants are no nodes
  pub no_rows : (n : ℕ) → n < 2 → row_in slots n ≡ None
  -- each node tests a variable that is known
  pub known : (n : ℕ) (r : Row) → row_in slots n ≡ Some r → r.var.0 < length variables
  -- the chains
  pub free_chain : IsChainOf (next_in slots) free (IsFree slots)
  pub chains : (v : ℕ) → v < length variables → AreChained (next_in slots) (row_in slots) v (heads_of variables v).heads
  -- the counts
  pub each_count : (v : ℕ) → v < length variables → (heads_of variables v).nodes ≡ rows_testing v (rows_of slots)
  pub count : nodes ≡ rows_in (rows_of slots)

-- each slot has the row and the mark that it had
pub record KeepsSlots (old new : List Slot) : Type 0 where
  pub rows : rows_of new ≡ rows_of old
  pub marks : marks_of new ≡ marks_of old
  pub size : length new ≡ length old

-- the heads with a node first in the chain of its row
abbrev pub with_first : List NodeNo → Row → ℕ → List NodeNo
with_first heads r n = set heads (bucket_of r (length heads)) (record { 0 = n })

-- the node with this row is first in its chain now, in front of the one that was
pub record PutsFirst (old new : List Slot) (before after : List NodeNo) (n : ℕ) (r : Row) : Type 0 where
  pub slots : (m : ℕ) → m ≢ n → slot_at new m ≡ slot_at old m
  pub next : next_in new n ≡ head_at before (bucket_of r (length before))
  pub heads : after ≡ with_first before r n
  pub within : bucket_of r (length before) < length before

-- the row of a node that tests another variable, or none
abbrev pub TestsAnother : ℕ → Option Row → Type 0
TestsAnother v None = Unit {0}
TestsAnother v (Some r) = r.var.0 ≢ v

-- no node but those of the variable changes its chain
abbrev pub KeepsOthers : List Slot → List Slot → ℕ → Type 0
KeepsOthers old new v = (n : ℕ) → TestsAnother v (row_in old n) → next_in new n ≡ next_in old n

-- the row of a slot whose node is marked
abbrev pub kept_row : Slot → Option Row
kept_row s = if is_marked_slot s then row_of_slot s else None

-- the marked nodes are still there, and no mark is
pub record SweepsSlots (old new : List Slot) : Type 0 where
  pub rows : (n : ℕ) → row_in new n ≡ kept_row (slot_at old n)
  pub marks : (n : ℕ) → is_marked_slot (slot_at new n) ≡ false
  pub size : length new ≡ length old

-- all chains of a variable are empty, and no node is counted
pub record AreEmpty (h : Heads) : Type 0 where
  pub heads : (b : ℕ) → b < width h → head_at h.heads b ≡ 0
  pub nodes : h.nodes ≡ 0

-- what comes next of the node n with this row in the chain that it is first in, and the heads after that
pub record IsPlace (variables : List Heads) (n : ℕ) (r : Row) (next : NodeNo) (heads : Heads) : Type 0 where
  pub known : r.var.0 < length variables
  pub first : next.0 ≡ head_at (heads_of variables r.var.0).heads (bucket_of r (width (heads_of variables r.var.0)))
  pub within : bucket_of r (width (heads_of variables r.var.0)) < width (heads_of variables r.var.0)
  pub heads_are : heads.heads ≡ with_first (heads_of variables r.var.0).heads r n
  pub nodes_are : heads.nodes ≡ (heads_of variables r.var.0).nodes + 1
