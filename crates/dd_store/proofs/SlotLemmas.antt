-- Slots that keep their rows and marks.
use Rattle.std.proofs.Common.{◌≡◌, ◌≢◌, ℕ, ◌≤◌, List, [], ◌∷◌, ◌++◌, length, inl, inr, arith, length-append, Option, Some, None, get_or, refl, sym, ap, ◌∙◌, subst}
use Rattle.std.proofs.Math.ListN.{set, length-set, get_or-map}
use Rattle.std.proofs.Math.Seq.{map-set_same}
use Rattle.std.proofs.lemmas.Bool.{cases_lt}
use Rattle.std.proofs.lemmas.List.{get_or_append_left, get_or_past, get_or_push}
use Rattle.dd_store.specs.declared.row.Row.{Row}
use Rattle.dd_store.specs.declared.row.NodeNo.{NodeNo}
use Rattle.dd_store.specs.declared.slots.slot.Slot.{Slot}
use Rattle.dd_store.specs.declared.slots.slot.Slot.TheVariants.{Free}
use Rattle.dd_store.specs.Chains.{HangsIn}
use Rattle.dd_store.specs.Linked.{row_in, row_of_slot, next_of_slot, is_marked_slot, slot_at, rows_of, KeepsSlots, KeepsOthers, TestsAnother, PutsFirst}
use Rattle.dd_store.proofs.FindLemmas.{hangs-row}

-- a row by its number
pub row-at : (slots : List Slot) (n : ℕ) → get_or (rows_of slots) n None ≡ row_in slots n
row-at slots n = get_or-map row_of_slot slots n (Free (record { 0 = 0 }))

-- nothing changes
pub keeps-all : (slots : List Slot) → KeepsSlots slots slots
keeps-all slots = record { rows = refl; marks = refl; size = refl }

pub keeps-then : {a b c : List Slot} → KeepsSlots a b → KeepsSlots b c → KeepsSlots a c
keeps-then one two = record { rows = two.rows ∙ one.rows; marks = two.marks ∙ one.marks; size = two.size ∙ one.size }

-- a slot that changes its next number alone
pub keeps-set : (slots : List Slot) (n : ℕ) (s : Slot) → row_of_slot s ≡ row_in slots n → is_marked_slot s ≡ is_marked_slot (slot_at slots n) → KeepsSlots slots (set slots n s)
keeps-set slots n s row mark = record {
  rows = map-set_same row_of_slot slots n s (Free (record { 0 = 0 })) row;
  marks = map-set_same is_marked_slot slots n s (Free (record { 0 = 0 })) mark;
  size = length-set slots n s;
}

-- the rows are the same function
pub keeps-rows : {a b : List Slot} → KeepsSlots a b → row_in b ≡ row_in a
keeps-rows {a} {b} keeps = λ j n. (sym (row-at b n) ∙ ap (λ rows. get_or rows n None) keeps.rows ∙ row-at a n) j

-- the nodes of the other variables keep their chains
pub others-then : (a b c : List Slot) (v : ℕ) → KeepsSlots a b → KeepsOthers a b v → KeepsOthers b c v → KeepsOthers a c v
others-then a b c v keeps one two n other = two n (subst (λ rows. TestsAnother v (rows n)) (sym (keeps-rows keeps)) other) ∙ one n other

-- a node of this variable changes alone
another-not : (v size b : ℕ) (o : Option Row) → HangsIn v size o b → TestsAnother v o → ⊥
another-not v size b None hangs other = hangs
another-not v size b (Some r) hangs other = other hangs.0

pub others-put : (a b : List Slot) (xs ys : List NodeNo) (v size bucket node : ℕ) → HangsIn v size (row_in a node) bucket
    → ((r : Row) → row_in a node ≡ Some r → PutsFirst a b xs ys node r) → KeepsOthers a b v
others-put a b xs ys v size bucket node hangs puts n other =
    let there = hangs-row v size bucket a node hangs in
    ap next_of_slot ((puts there.0 there.1).slots n (λ same. another-not v size bucket (row_in a node) hangs (subst (λ k. TestsAnother v (row_in a k)) same other)))

-- a slot more at the end, and a slot that is set
pub slot-push_other : (xs : List Slot) (s : Slot) (n m : ℕ) → length xs ≡ n → m ≢ n → slot_at (xs ++ s ∷ []) m ≡ slot_at xs m
slot-push_other xs s n m is other =
    elim (cases_lt m (length xs)) [
      | inl inside ↦ get_or_append_left xs (s ∷ []) _ m inside
      | inr past ↦ (let more = length-append xs (s ∷ []) in get_or_past (xs ++ s ∷ []) m _ (omega arith)) ∙ sym (get_or_past xs m _ past)
    ]

pub slot-push_same : (xs : List Slot) (s : Slot) (n : ℕ) → length xs ≡ n → slot_at (xs ++ s ∷ []) n ≡ s
slot-push_same xs s n is = get_or_push xs s _ n is

pub row-past : (xs : List Slot) (n : ℕ) → length xs ≤ n → row_in xs n ≡ None
row-past xs n past = ap row_of_slot (get_or_past xs n _ past)
