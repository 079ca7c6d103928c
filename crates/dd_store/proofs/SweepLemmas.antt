-- Slots that are put into their chains anew, one number behind the other.
use Rattle.std.proofs.Common.{◌≡◌, ◌≢◌, ℕ, true, false, ◌+◌, ◌<◌, ◌≤◌, List, length, take, Some, None, is_some, refl, ap, sym, ◌∙◌, subst, inl, inr, arith}
use Rattle.std.proofs.Math.ListN.{set}
use Rattle.std.proofs.lemmas.Bool.{cases_eq, cases_lt, true≢false}
use Rattle.std.proofs.lemmas.List.{take_more_set, length-take-le, length-map, get_or-take}
use Rattle.dd_store.specs.declared.row.Row.{Row}
use Rattle.dd_store.specs.declared.row.NodeNo.{NodeNo}
use Rattle.dd_store.specs.declared.slots.slot.Slot.{Slot}
use Rattle.dd_store.specs.declared.slots.slot.Slot.TheVariants.{Free, Node}
use Rattle.dd_store.specs.Limits.{most_budget}
use Rattle.dd_store.specs.Table.{rows_in}
use Rattle.dd_store.specs.Chains.{Heads, IsChainOf, HangsIn}
use Rattle.dd_store.specs.Linked.{AreLinked, AreEmpty, SweepsSlots, IsFree, row_in, next_in, row_of_slot, is_marked_slot, kept_row, slot_at, rows_of, heads_of, IsPlace}
use Rattle.dd_store.proofs.ChainLemmas.{empty}
use Rattle.dd_store.proofs.RowCounts.{testing-le, two-less}
use Rattle.dd_store.proofs.SlotLemmas.{row-at, row-past}
use Rattle.dd_store.proofs.PutLemmas.{push-node, push-free}

-- there are two numbers more than nodes at least, those of the constants
pub nodes-below : (slots : List Slot) → 2 ≤ length slots → ((n : ℕ) → n < 2 → row_in slots n ≡ None) → rows_in (rows_of slots) + 2 ≤ length slots
nodes-below slots two none =
    let size = length-map slots row_of_slot in
    let less = two-less (rows_of slots) (let two' : 2 ≤ length (rows_of slots) = omega arith in two') (row-at slots 0 ∙ none 0 (omega arith)) (row-at slots 1 ∙ none 1 (omega arith)) in
    omega arith

pub count-below : (slots : List Slot) (free : ℕ) (variables : List Heads) (nodes : ℕ) → AreLinked slots free variables nodes → nodes + 2 ≤ length slots
count-below slots free variables nodes linked = let below = nodes-below slots linked.constants linked.no_rows in let is = linked.count in omega arith

pub each-below : (slots : List Slot) (free : ℕ) (variables : List Heads) (nodes v : ℕ) → AreLinked slots free variables nodes → v < length variables
    → (heads_of variables v).nodes + 2 ≤ length slots
each-below slots free variables nodes v linked known =
    let below = nodes-below slots linked.constants linked.no_rows in
    let is = linked.each_count v known in
    let less = testing-le v (rows_of slots) in
    omega arith

-- a variable has at most as many nodes as there are
pub each-le : (slots : List Slot) (free : ℕ) (variables : List Heads) (nodes v : ℕ) → AreLinked slots free variables nodes → v < length variables
    → (heads_of variables v).nodes ≤ rows_in (rows_of slots)
each-le slots free variables nodes v linked known = let is = linked.each_count v known in let less = testing-le v (rows_of slots) in omega arith

-- one number more is in its chain
pub relink-node : (slots : List Slot) (free nodes : ℕ) (variables : List Heads) (n : ℕ) (r : Row) (next : NodeNo) (heads : Heads)
    → AreLinked (take n slots) free variables nodes → n < length slots → length slots ≤ most_budget + 2 → IsPlace variables n r next heads
    → AreLinked (take (n + 1) (set slots n (Node false r next))) free (set variables r.var.0 heads) (nodes + 1)
relink-node slots free nodes variables n r next heads linked within few place =
    subst (λ xs. AreLinked xs free (set variables r.var.0 heads) (nodes + 1)) (sym (take_more_set slots n (Node false r next) within))
    (push-node (take n slots) free nodes variables n r next heads linked (length-take-le n slots (omega arith)) (omega arith) place)

pub relink-free : (slots : List Slot) (free nodes : ℕ) (variables : List Heads) (n : ℕ) (next : NodeNo)
    → AreLinked (take n slots) free variables nodes → n < length slots → length slots ≤ most_budget + 2 → next.0 ≡ free
    → AreLinked (take (n + 1) (set slots n (Free next))) n variables nodes
relink-free slots free nodes variables n next linked within few first =
    subst (λ xs. AreLinked xs n variables nodes) (sym (take_more_set slots n (Free next) within))
    (push-free (take n slots) free nodes variables n next linked (length-take-le n slots (omega arith)) (omega arith) first)

-- the two constants alone
pub relink-start : (slots : List Slot) (variables : List Heads) → 2 ≤ length slots → ((n : ℕ) → n < 2 → row_in slots n ≡ None)
    → ((v : ℕ) → v < length variables → AreEmpty (heads_of variables v)) → AreLinked (take 2 slots) 0 variables 0
relink-start slots variables two none empty' = record {
  constants = let is = size in omega arith;
  few = let is = size in omega arith;
  no_rows = λ n small. none' n;
  known = λ n r is. absurd (true≢false (ap is_some (sym is ∙ none' n)));
  free_chain = empty (next_in xs) (IsFree xs) (λ n p. let is = size in let inside = p.1 in let large = p.0 in omega arith);
  chains = λ v inside c within. subst (λ h. IsChainOf (next_in xs) h (λ n. HangsIn v (length (heads_of variables v).heads) (row_in xs n) c)) (sym ((empty' v inside).heads c within))
      (empty (next_in xs) (λ n. HangsIn v (length (heads_of variables v).heads) (row_in xs n) c) (λ n p. subst (λ o. HangsIn v (length (heads_of variables v).heads) o c) (none' n) p));
  each_count = λ v inside. (empty' v inside).nodes ∙ (let is = size in let none'' = no-rows in let less = testing-le v (rows_of xs) in omega arith);
  count = let is = size in let none'' = no-rows in omega arith;
}
  where
    xs : List Slot
    xs = take 2 slots

    size : length xs ≡ 2
    size = length-take-le 2 slots two

    none' : (n : ℕ) → row_in xs n ≡ None
    none' n = elim (cases_lt n 2) [
      | inl small ↦ ap row_of_slot (get_or-take 2 slots n _ small) ∙ none n small
      | inr large ↦ row-past xs n (let is = size in omega arith)
    ]

    no-rows : rows_in (rows_of xs) + 2 ≤ length xs
    no-rows = nodes-below xs (let is = size in omega arith) (λ n small. none' n)

-- how far the sweep has come
pub record Swept (old new : List Slot) (n : ℕ) : Type 0 where
  pub rows : (m : ℕ) → m < n → row_in new m ≡ kept_row (slot_at old m)
  pub marks : (m : ℕ) → m < n → is_marked_slot (slot_at new m) ≡ false
  pub left : (m : ℕ) → n ≤ m → slot_at new m ≡ slot_at old m

kept-none : (s : Slot) → row_of_slot s ≡ None → kept_row s ≡ None
kept-none (Free next) is = refl
kept-none (Node marked r next) is = absurd (true≢false (ap is_some is))

mark-none : (s : Slot) → row_of_slot s ≡ None → is_marked_slot s ≡ false
mark-none (Free next) is = refl
mark-none (Node marked r next) is = absurd (true≢false (ap is_some is))

pub swept-start : (slots : List Slot) → ((n : ℕ) → n < 2 → row_in slots n ≡ None) → Swept slots slots 2
swept-start slots none = record {
  rows = λ m small. none m small ∙ sym (kept-none (slot_at slots m) (none m small));
  marks = λ m small. mark-none (slot_at slots m) (none m small);
  left = λ m large. refl;
}

pub swept-step : (old mid new : List Slot) (n : ℕ) → Swept old mid n → row_in new n ≡ kept_row (slot_at mid n) → is_marked_slot (slot_at new n) ≡ false
    → ((m : ℕ) → m ≢ n → slot_at new m ≡ slot_at mid m) → Swept old new (n + 1)
swept-step old mid new n swept row mark others = record {
  rows = λ m less. elim (cases_eq m n) [
    | inl same ↦ ap (row_in new) same ∙ row ∙ ap kept_row (swept.left n (omega arith)) ∙ ap (λ k. kept_row (slot_at old k)) (sym same)
    | inr other ↦ ap row_of_slot (others m other) ∙ swept.rows m (omega arith)
  ];
  marks = λ m less. elim (cases_eq m n) [
    | inl same ↦ ap (λ k. is_marked_slot (slot_at new k)) same ∙ mark
    | inr other ↦ ap is_marked_slot (others m other) ∙ swept.marks m (omega arith)
  ];
  left = λ m large. others m (omega arith) ∙ swept.left m (omega arith);
}

pub swept-end : (old new : List Slot) (n : ℕ) → Swept old new n → length new ≡ length old → length old ≤ n → SweepsSlots old new
swept-end old new n swept size end = record {
  rows = λ m. elim (cases_lt m n) [
    | inl less ↦ swept.rows m less
    | inr past ↦ row-past new m (omega arith) ∙ sym (kept-none (slot_at old m) (row-past old m (omega arith)))
  ];
  marks = λ m. elim (cases_lt m n) [
    | inl less ↦ swept.marks m less
    | inr past ↦ mark-none (slot_at new m) (row-past new m (omega arith))
  ];
  size = size;
}

-- a kept row is the row
pub kept-row : (s : Slot) (r : Row) → kept_row s ≡ Some r → row_of_slot s ≡ Some r
kept-row (Free next) r is = is
kept-row (Node true q next) r is = is
kept-row (Node false q next) r is = absurd (true≢false (sym (ap is_some is)))
