-- What contracts see of linked slots, and the steps that change no row.
use Rattle.std.proofs.Common.{◌≡◌, ◌≢◌, ◌⊎◌, ℕ, Bool, true, false, cond, if◌then◌else◌, nat_eq, ◌+◌, ◌<◌, ◌≤◌, List, [], ◌∷◌, ◌++◌, length, map, Option, Some, None, IfNone, is_some, get_or, zero, suc, refl, ap, sym, ◌∙◌, subst, inl, inr, arith, get_or-set_other, get_or-set_same, length-append}
use Rattle.std.proofs.Math.ListN.{set, length-set, get_or-map}
use Rattle.std.proofs.Math.Seq.{map-set_same}
use Rattle.std.proofs.lemmas.Bool.{cases_eq, cases_lt, true≢false, eq-eqb, ne_eqb}
use Rattle.std.proofs.lemmas.List.{map-append, map-set, length-map, get_or_append_left, get_or_push}
use Rattle.dd_store.specs.declared.row.Row.{Row}
use Rattle.dd_store.specs.declared.row.NodeNo.{NodeNo}
use Rattle.dd_store.specs.declared.slots.slot.Slot.{Slot}
use Rattle.dd_store.specs.declared.slots.slot.Slot.TheVariants.{Free, Node}
use Rattle.dd_store.specs.Table.{rows_in}
use Rattle.dd_store.specs.Slots.{Nodes, rows_testing, AddsNode, MarksNode, Sweeps}
use Rattle.dd_store.specs.Chains.{Heads, IsChainOf, AreChained, HangsIn, head_at}
use Rattle.dd_store.specs.Linked.{AreLinked, SweepsSlots, IsFree, row_in, next_in, next_of_slot, row_of_slot, is_marked_slot, slot_at, rows_of, marks_of, heads_of, KeepsSlots, KeepsOthers, TestsAnother}
use Rattle.dd_store.proofs.ChainLemmas.{keeps, takes, empty, ended}
use Rattle.dd_store.proofs.RowCounts.{free-there, rows_in-some, rows_in-set}
use Rattle.dd_store.proofs.SlotLemmas.{row-at, row-past, keeps-rows, slot-push_other, slot-push_same}

-- the nodes that slots have, as contracts see them
abbrev pub seen : List Slot → ℕ → Nodes
seen slots variables = record { rows = rows_of slots; marks = marks_of slots; variables = variables }

pub mark-at : (slots : List Slot) (n : ℕ) → get_or (marks_of slots) n false ≡ is_marked_slot (slot_at slots n)
mark-at slots n = get_or-map is_marked_slot slots n (Free (record { 0 = 0 }))

pub unmarked : (s : Slot) → row_of_slot s ≡ None → is_marked_slot s ≡ false
unmarked (Free next) is = refl
unmarked (Node marked r next) is = absurd (true≢false (ap is_some is))

-- no row is found
pub absent-seen : (slots : List Slot) (r : Row) (o : Option NodeNo) → IfNone o ((n : ℕ) → row_in slots n ≢ Some r) → IfNone o ((n : ℕ) → get_or (rows_of slots) n None ≢ Some r)
absent-seen slots r None none = λ n is. none n (sym (row-at slots n) ∙ is)
absent-seen slots r (Some k) none = tt

-- where the numbers aren't all used, there is a free one
pub free-some : (slots : List Slot) (free : ℕ) (variables : List Heads) (nodes : ℕ) → AreLinked slots free variables nodes
    → rows_in (rows_of slots) + 2 < length (rows_of slots) → free ≢ 0
free-some slots free variables nodes linked less zero' =
    let size = length-map slots row_of_slot in
    let two = linked.constants in
    let there = free-there (rows_of slots) (let two' : 2 ≤ length (rows_of slots) = omega arith in two') (row-at slots 0 ∙ linked.no_rows 0 (omega arith)) (row-at slots 1 ∙ linked.no_rows 1 (omega arith)) less in
    ended linked.free_chain zero' there.0 (there.1, (let inside = there.2 in omega arith), sym (row-at slots there.0) ∙ there.3)

pub free-first : (slots : List Slot) (free : ℕ) (variables : List Heads) (nodes : ℕ) → AreLinked slots free variables nodes → free ≢ 0 → IsFree slots free
free-first slots free variables nodes linked some = (takes linked.free_chain some).0

-- a node behind the last number
pub adds-push : (slots : List Slot) (free : ℕ) (variables : List Heads) (nodes count count' n : ℕ) (r : Row) (next : NodeNo) → AreLinked slots free variables nodes
    → length slots ≡ n → rows_in (rows_of slots) + 2 ≡ length (rows_of slots) → count' ≡ count → AddsNode (seen slots count) (seen (slots ++ Node false r next ∷ []) count') n r
adds-push slots free variables nodes count count' n r next linked is full known = record {
  free = row-at slots n ∙ row-past slots n (omega arith);
  no_constant = let two = linked.constants in omega arith;
  added = row-at ys n ∙ ap row_of_slot (slot-push_same slots s n is);
  others = λ m other. row-at ys m ∙ ap row_of_slot (slot-push_other slots s n m is other) ∙ sym (row-at slots m);
  marks = λ m. mark-at ys m ∙ marks m (cases_eq m n) ∙ sym (mark-at slots m);
  count = counted;
  within = let size = length-map ys row_of_slot in let more = length-append slots (s ∷ []) in omega arith;
  size = let before = length-map slots row_of_slot in let size = length-map ys row_of_slot in let more = length-append slots (s ∷ []) in let more' = counted in omega arith;
  variables = known;
}
  where
    s : Slot
    s = Node false r next

    ys : List Slot
    ys = slots ++ s ∷ []

    counted : rows_in (rows_of ys) ≡ rows_in (rows_of slots) + 1
    counted = ap rows_in (map-append row_of_slot slots (s ∷ [])) ∙ rows_in-some (rows_of slots) r

    past : is_marked_slot (slot_at slots n) ≡ false
    past = unmarked (slot_at slots n) (row-past slots n (omega arith))

    marks : (m : ℕ) → (m ≡ n) ⊎ (m ≢ n) → is_marked_slot (slot_at ys m) ≡ is_marked_slot (slot_at slots m)
    marks m (inl same) = ap (λ k. is_marked_slot (slot_at ys k)) same ∙ ap is_marked_slot (slot-push_same slots s n is) ∙ sym (ap (λ k. is_marked_slot (slot_at slots k)) same ∙ past)
    marks m (inr other) = ap is_marked_slot (slot-push_other slots s n m is other)

-- a node in a free slot
pub adds-reuse : (slots : List Slot) (count count' n : ℕ) (r : Row) (next : NodeNo) → IsFree slots n → rows_in (rows_of slots) + 2 < length (rows_of slots) → count' ≡ count
    → AddsNode (seen slots count) (seen (set slots n (Node false r next)) count') n r
adds-reuse slots count count' n r next free less known = record {
  free = row-at slots n ∙ free.2;
  no_constant = free.0;
  added = row-at ys n ∙ ap row_of_slot here;
  others = λ m other. row-at ys m ∙ ap row_of_slot (get_or-set_other slots n m s _ other) ∙ sym (row-at slots m);
  marks = λ m. mark-at ys m ∙ marks m (cases_eq m n) ∙ sym (mark-at slots m);
  count = counted;
  within = let size = length-map ys row_of_slot in let same = length-set slots n s in let inside = free.1 in omega arith;
  size = let before = length-map slots row_of_slot in let size = length-map ys row_of_slot in let same = length-set slots n s in let more' = counted in omega arith;
  variables = known;
}
  where
    s : Slot
    s = Node false r next

    ys : List Slot
    ys = set slots n s

    here : slot_at ys n ≡ s
    here = get_or-set_same slots n s _ free.1

    counted : rows_in (rows_of ys) ≡ rows_in (rows_of slots) + 1
    counted = ap rows_in (map-set row_of_slot slots n s) ∙ rows_in-set (rows_of slots) n r (let size = length-map slots row_of_slot in let inside = free.1 in omega arith) (row-at slots n ∙ free.2)

    marks : (m : ℕ) → (m ≡ n) ⊎ (m ≢ n) → is_marked_slot (slot_at ys m) ≡ is_marked_slot (slot_at slots m)
    marks m (inl same) = ap (λ k. is_marked_slot (slot_at ys k)) same ∙ ap is_marked_slot here ∙ sym (ap (λ k. is_marked_slot (slot_at slots k)) same ∙ unmarked (slot_at slots n) free.2)
    marks m (inr other) = ap is_marked_slot (get_or-set_other slots n m s _ other)

-- what is next changes for nodes alone, and their chains are right after it
pub linked-others : (xs ys : List Slot) (free nodes : ℕ) (variables after : List Heads) → AreLinked xs free variables nodes → rows_of ys ≡ rows_of xs → length ys ≡ length xs
    → length after ≡ length variables → ((m : ℕ) → row_in xs m ≡ None → next_in ys m ≡ next_in xs m)
    → ((v : ℕ) → v < length variables → AreChained (next_in ys) (row_in ys) v (heads_of after v).heads)
    → ((v : ℕ) → v < length variables → (heads_of after v).nodes ≡ (heads_of variables v).nodes) → AreLinked ys free after nodes
linked-others xs ys free nodes variables after linked rows size known next chains counts = record {
  constants = let two = linked.constants in omega arith;
  few = let few' = linked.few in omega arith;
  no_rows = λ n small. row n ∙ linked.no_rows n small;
  known = λ n r is. subst (λ l. r.var.0 < l) (sym known) (linked.known n r (sym (row n) ∙ is));
  free_chain = keeps linked.free_chain (next_in ys) (IsFree ys) (λ m p. next m p.2)
      (λ m p. (p.0, (let inside = p.1 in omega arith), row m ∙ p.2)) (λ m q. (q.0, (let inside = q.1 in omega arith), sym (row m) ∙ q.2));
  chains = λ v inside. chains v (let same = known in omega arith);
  each_count = λ v inside. let inside' : v < length variables = omega arith in counts v inside' ∙ linked.each_count v inside' ∙ sym (ap (rows_testing v) rows);
  count = linked.count ∙ sym (ap rows_in rows);
}
  where
    row : (n : ℕ) → row_in ys n ≡ row_in xs n
    row n = sym (row-at ys n) ∙ ap (λ rs. get_or rs n None) rows ∙ row-at xs n

-- a mark
pub linked-mark : (slots : List Slot) (free : ℕ) (variables : List Heads) (nodes n : ℕ) (s : Slot) → AreLinked slots free variables nodes
    → row_of_slot s ≡ row_in slots n → next_of_slot s ≡ next_in slots n → AreLinked (set slots n s) free variables nodes
linked-mark slots free variables nodes n s linked row next =
    linked-others slots (set slots n s) free nodes variables variables linked rows (length-set slots n s) refl (λ m is. same m)
    (λ v inside c within. keeps (linked.chains v inside c within) (next_in (set slots n s)) _ (λ m p. same m)
    (λ m p. subst (λ o. HangsIn v (length (heads_of variables v).heads) o c) (sym (row' m)) p) (λ m q. subst (λ o. HangsIn v (length (heads_of variables v).heads) o c) (row' m) q))
    (λ v inside. refl)
  where
    rows : rows_of (set slots n s) ≡ rows_of slots
    rows = map-set_same row_of_slot slots n s (Free (record { 0 = 0 })) row

    nexts : map next_of_slot (set slots n s) ≡ map next_of_slot slots
    nexts = map-set_same next_of_slot slots n s (Free (record { 0 = 0 })) next

    same : (m : ℕ) → next_in (set slots n s) m ≡ next_in slots m
    same m = sym (get_or-map next_of_slot (set slots n s) m (Free (record { 0 = 0 }))) ∙ ap (λ ks. get_or ks m 0) nexts ∙ get_or-map next_of_slot slots m (Free (record { 0 = 0 }))

    row' : (m : ℕ) → row_in (set slots n s) m ≡ row_in slots m
    row' m = sym (row-at (set slots n s) m) ∙ ap (λ rs. get_or rs m None) rows ∙ row-at slots m

pub marks-seen : (slots : List Slot) (count n : ℕ) (s : Slot) → n < length slots → row_of_slot s ≡ row_in slots n → is_marked_slot s ≡ true
    → MarksNode (seen slots count) (seen (set slots n s) count) n
marks-seen slots count n s inside row mark = record {
  marked = λ m. mark-at (set slots n s) m ∙ by m (cases_eq m n);
  rows = map-set_same row_of_slot slots n s (Free (record { 0 = 0 })) row;
  variables = refl;
}
  where
    by : (m : ℕ) → (m ≡ n) ⊎ (m ≢ n) → is_marked_slot (slot_at (set slots n s) m) ≡ (if nat_eq m n then true else get_or (marks_of slots) m false)
    by m (inl same) = ap (λ k. is_marked_slot (slot_at (set slots n s) k)) same ∙ ap is_marked_slot (get_or-set_same slots n s _ inside) ∙ mark
        ∙ sym (ap (λ b. cond b true (get_or (marks_of slots) m false)) (eq-eqb m n same))
    by m (inr other) = ap is_marked_slot (get_or-set_other slots n m s _ other) ∙ sym (mark-at slots m) ∙ sym (ap (λ b. cond b true (get_or (marks_of slots) m false)) (ne_eqb m n other))

-- more heads for one variable
pub linked-grown : (xs ys : List Slot) (free : ℕ) (variables : List Heads) (nodes v : ℕ) (heads : Heads) → AreLinked xs free variables nodes → v < length variables
    → KeepsSlots xs ys → KeepsOthers xs ys v → AreChained (next_in ys) (row_in ys) v heads.heads → heads.nodes ≡ (heads_of variables v).nodes
    → AreLinked ys free (set variables v heads) nodes
linked-grown xs ys free variables nodes v heads linked known keeps' others chained count =
    linked-others xs ys free nodes variables (set variables v heads) linked keeps'.rows keeps'.size (length-set variables v heads)
    (λ m none. others m (subst (TestsAnother v) (sym none) tt)) chains counts
  where
    row : (m : ℕ) → row_in ys m ≡ row_in xs m
    row m = ap (λ f. f m) (keeps-rows keeps')

    another : (w size c : ℕ) (o : Option Row) → w ≢ v → HangsIn w size o c → TestsAnother v o
    another w size c None other hangs = tt
    another w size c (Some r) other hangs = λ same. other (sym hangs.0 ∙ same)

    there : (w : ℕ) → w < length variables → w ≢ v → AreChained (next_in ys) (row_in ys) w (heads_of variables w).heads
    there w inside other c within = keeps (linked.chains w inside c within) (next_in ys) _
        (λ m p. others m (another w _ c (row_in xs m) other p))
        (λ m p. subst (λ o. HangsIn w (length (heads_of variables w).heads) o c) (sym (row m)) p)
        (λ m q. subst (λ o. HangsIn w (length (heads_of variables w).heads) o c) (row m) q)

    chains : (w : ℕ) → w < length variables → AreChained (next_in ys) (row_in ys) w (heads_of (set variables v heads) w).heads
    chains w inside = elim (cases_eq w v) [
      | inl same ↦ subst (λ k. AreChained (next_in ys) (row_in ys) k (heads_of (set variables v heads) k).heads) (sym same)
          (subst (λ h. AreChained (next_in ys) (row_in ys) v h.heads) (sym (get_or-set_same variables v heads _ known)) chained)
      | inr other ↦ subst (λ h. AreChained (next_in ys) (row_in ys) w h.heads) (sym (get_or-set_other variables v w heads _ other)) (there w inside other)
    ]

    counts : (w : ℕ) → w < length variables → (heads_of (set variables v heads) w).nodes ≡ (heads_of variables w).nodes
    counts w inside = elim (cases_eq w v) [
      | inl same ↦ ap (λ k. (heads_of (set variables v heads) k).nodes) same ∙ ap (λ (h : Heads). h.nodes) (get_or-set_same variables v heads _ known) ∙ count ∙ ap (λ k. (heads_of variables k).nodes) (sym same)
      | inr other ↦ ap (λ (h : Heads). h.nodes) (get_or-set_other variables v w heads _ other)
    ]

-- a variable that no row tests
testing-zero : (v : ℕ) (rows : List (Option Row)) → ((n : ℕ) (r : Row) → get_or rows n None ≡ Some r → r.var.0 < v) → rows_testing v rows ≡ 0
testing-zero v [] below = refl
testing-zero v (None ∷ rows) below = testing-zero v rows (λ n r is. below (suc n) r is)
testing-zero v (Some r ∷ rows) below =
    let less = below 0 r refl in
    ap (λ b. cond b (suc (rows_testing v rows)) (rows_testing v rows)) (ne_eqb r.var.0 v (omega arith)) ∙ testing-zero v rows (λ n s is. below (suc n) s is)

pub linked-variable : (slots : List Slot) (free : ℕ) (variables : List Heads) (nodes : ℕ) (heads : Heads) → AreLinked slots free variables nodes
    → heads.heads ≡ record { 0 = 0 } ∷ [] → heads.nodes ≡ 0 → AreLinked slots free (variables ++ heads ∷ []) nodes
linked-variable slots free variables nodes heads linked one none = record {
  constants = linked.constants;
  few = linked.few;
  no_rows = linked.no_rows;
  known = λ n r is. let before = linked.known n r is in let more = length-append variables (heads ∷ []) in omega arith;
  free_chain = linked.free_chain;
  chains = λ v inside. elim (cases_lt v (length variables)) [
    | inl before ↦ subst (λ h. AreChained (next_in slots) (row_in slots) v h.heads) (sym (get_or_append_left variables (heads ∷ []) _ v before)) (linked.chains v before)
    | inr past ↦ (let is = last v inside past in subst (λ h. AreChained (next_in slots) (row_in slots) v h.heads) (sym (get_or_push variables heads _ v (sym is))) (new v is))
  ];
  each_count = λ v inside. elim (cases_lt v (length variables)) [
    | inl before ↦ ap (λ (h : Heads). h.nodes) (get_or_append_left variables (heads ∷ []) _ v before) ∙ linked.each_count v before
    | inr past ↦ (let is = last v inside past in ap (λ (h : Heads). h.nodes) (get_or_push variables heads _ v (sym is)) ∙ none ∙ sym (testing-zero v (rows_of slots) (below v is)))
  ];
  count = linked.count;
}
  where
    last : (v : ℕ) → v < length (variables ++ heads ∷ []) → length variables ≤ v → v ≡ length variables
    last v inside past = let more = length-append variables (heads ∷ []) in omega arith

    below : (v : ℕ) → v ≡ length variables → (n : ℕ) (r : Row) → get_or (rows_of slots) n None ≡ Some r → r.var.0 < v
    below v is n r row = subst (λ k. r.var.0 < k) (sym is) (linked.known n r (sym (row-at slots n) ∙ row))

    no-row : (v size c : ℕ) (n : ℕ) (o : Option Row) → v ≡ length variables → row_in slots n ≡ o → HangsIn v size o c → ⊥
    no-row v size c n None is row hangs = hangs
    no-row v size c n (Some r) is row hangs = let less = linked.known n r row in let same = hangs.0 in omega (arith, less, same)

    head : (c : ℕ) → c < length heads.heads → head_at heads.heads c ≡ 0
    head c within = ap (λ hs. head_at hs c) one ∙ only c
      where
        only : (c : ℕ) → head_at (record { 0 = 0 } ∷ []) c ≡ 0
        only zero = refl
        only (suc c) = refl

    new : (v : ℕ) → v ≡ length variables → AreChained (next_in slots) (row_in slots) v heads.heads
    new v is c within = subst (λ h. IsChainOf (next_in slots) h (λ n. HangsIn v (length heads.heads) (row_in slots n) c)) (sym (head c within))
        (empty (next_in slots) (λ n. HangsIn v (length heads.heads) (row_in slots n) c) (λ n p. no-row v _ c n (row_in slots n) is refl p))

-- a sweep
fewer : (xs ys : List (Option Row)) → length ys ≡ length xs → ((n : ℕ) → (get_or ys n None ≡ None) ⊎ (get_or ys n None ≡ get_or xs n None)) → rows_in ys ≤ rows_in xs
fewer [] [] size each = omega arith
fewer [] (y ∷ ys) size each = absurd (omega arith)
fewer (x ∷ xs) [] size each = absurd (omega arith)
fewer (x ∷ xs) (y ∷ ys) size each = by x y (each 0) (fewer xs ys (omega arith) (λ n. each (suc n)))
  where
    by : (x y : Option Row) → (y ≡ None) ⊎ (y ≡ x) → rows_in ys ≤ rows_in xs → rows_in (y ∷ ys) ≤ rows_in (x ∷ xs)
    by None None is rest = rest
    by (Some r) None is rest = omega arith
    by (Some r) (Some s) is rest = omega arith
    by None (Some s) (inl is) rest = absurd (true≢false (ap is_some is))
    by None (Some s) (inr is) rest = absurd (true≢false (ap is_some is))

pub sweeps-seen : (xs ys : List Slot) (count count' : ℕ) → count' ≡ count → SweepsSlots xs ys → Sweeps (seen xs count) (seen ys count')
sweeps-seen xs ys count count' same swept = record {
  rows = λ n. row-at ys n ∙ swept.rows n ∙ sym (ap (λ b. cond b (get_or (rows_of xs) n None) None) (mark-at xs n) ∙ ap (λ o. cond (is_marked_slot (slot_at xs n)) o None) (row-at xs n));
  marks = λ n. mark-at ys n ∙ swept.marks n;
  size = length-map ys row_of_slot ∙ swept.size ∙ sym (length-map xs row_of_slot);
  variables = same;
}

pub sweeps-fewer : (xs ys : List Slot) → SweepsSlots xs ys → rows_in (rows_of ys) ≤ rows_in (rows_of xs)
sweeps-fewer xs ys swept = fewer (rows_of xs) (rows_of ys) (length-map ys row_of_slot ∙ swept.size ∙ sym (length-map xs row_of_slot)) each
  where
    cases : (b : Bool) (o : Option Row) → (cond b o None ≡ None) ⊎ (cond b o None ≡ o)
    cases true o = inr refl
    cases false o = inl refl

    each : (n : ℕ) → (get_or (rows_of ys) n None ≡ None) ⊎ (get_or (rows_of ys) n None ≡ get_or (rows_of xs) n None)
    each n = elim (cases (is_marked_slot (slot_at xs n)) (row_in xs n)) [
      | inl none ↦ inl (row-at ys n ∙ swept.rows n ∙ none)
      | inr same ↦ inr (row-at ys n ∙ swept.rows n ∙ same ∙ sym (row-at xs n))
    ]

-- a number with a row has a slot
pub some-within : (slots : List Slot) (n : ℕ) → is_some (row_in slots n) ≡ true → n < length slots
some-within slots n some = elim (cases_lt n (length slots)) [ inl inside ↦ inside | inr past ↦ absurd (true≢false (sym some ∙ ap is_some (row-past slots n past))) ]
