-- A node that is added: the rows stay reduced, the values stay, and the fields stay tied to the table.
use Rattle.std.proofs.Common.{◌≡◌, ◌≢◌, ◌⊎◌, ℕ, Bool, ◌==◌, ◌+◌, ◌<◌, ◌≤◌, true, false, if◌then◌else◌, List, [], ◌∷◌, length, sum, Option, Some, None, is_some, IfSome, get_or, refl, ap, sym, ◌∙◌, subst, inl, inr, arith}
use Rattle.std.proofs.Math.ListN.{set, length-set}
use Rattle.std.proofs.lemmas.Bool.{cases_eq, true≢false}
use Rattle.dd_store.specs.declared.row.Row.{Row}
use Rattle.dd_store.specs.declared.row.Var.{Var}
use Rattle.dd_store.specs.declared.row.NodeNo.{NodeNo}
use Rattle.dd_store.specs.Slots.{Nodes, AddsNode}
use Rattle.dd_store.specs.Order.{level_in, level_of_row, IsIn}
use Rattle.dd_store.specs.Follow.{end_of, value_in, IsThere}
use Rattle.dd_store.specs.Table.{Table, row_of, rows_in, node_count, handles_on, value_of, IsLive, HasEnds, AreReduced, IsSound}
use Rattle.dd_store.specs.Kept.{Index, IsKept}
use Rattle.dd_store.specs.Changes.{AddsRow, Grows}
use Rattle.dd_store.specs.Handles.{GainsHandle}
use Rattle.dd_store.proofs.ChangeLemmas.{keeps-reached}
use Rattle.dd_store.proofs.HandleLemmas.{gains-handle, one_on-other}
use Rattle.dd_store.proofs.ReadLemmas.{has-ends}
use Rattle.dd_store.proofs.FollowLemmas.{follow-node, follow-same}

-- a row that a table can take: its variable is there, its ends are there below it and differ, and no node has it
pub record CanTake (order : List Var) (rows : ℕ → Option Row) (r : Row) : Type 0 where
  pub variable : IsIn order r.var.0
  pub ends_there : (b : Bool) → IsThere rows (end_of r b)
  pub above : (b : Bool) → level_in order r.var.0 < level_of_row order (rows (end_of r b))
  pub differ : r.low.0 ≢ r.high.0
  pub absent : (n : ℕ) → rows n ≢ Some r

-- rows with one more, under a number that was free
pub record Adds (old new : ℕ → Option Row) (k : ℕ) (r : Row) : Type 0 where
  pub free : old k ≡ None
  pub no_constant : 2 ≤ k
  pub added : new k ≡ Some r
  pub others : (n : ℕ) → n ≢ k → new n ≡ old n

-- what is there isn't the free number
there-other : (old : ℕ → Option Row) (k n : ℕ) → old k ≡ None → 2 ≤ k → IsThere old n → n ≢ k
there-other old k n free large there same =
    true≢false (sym (there (let large' : 2 ≤ n = omega arith in large')) ∙ ap is_some (ap old same ∙ free))

-- and keeps its row
pub there-same : (old new : ℕ → Option Row) (k : ℕ) (r : Row) → Adds old new k r → (n : ℕ) → IsThere old n → new n ≡ old n
there-same old new k r adds n there = adds.others n (there-other old k n adds.free adds.no_constant there)

-- and is still there
pub there-still : (old new : ℕ → Option Row) (k : ℕ) (r : Row) → Adds old new k r → (n : ℕ) → IsThere old n → IsThere new n
there-still old new k r adds n there = λ large. ap is_some (there-same old new k r adds n there) ∙ there large

-- a row after the addition is the new one or one from before
row-cases : (old new : ℕ → Option Row) (k : ℕ) (r : Row) → Adds old new k r → (n : ℕ) (s : Row) → new n ≡ Some s
    → ((n ≡ k) × (s ≡ r)) ⊎ ((n ≢ k) × (old n ≡ Some s))
row-cases old new k r adds n s is =
    elim (cases_eq n k) [
      | inl same ↦ inl (same, (let both : Some s ≡ Some r = sym is ∙ ap new same ∙ adds.added in cc))
      | inr other ↦ inr (other, sym (adds.others n other) ∙ is)
    ]

-- the rows stay reduced
pub reduced-add : (order : List Var) (old new : ℕ → Option Row) (k : ℕ) (r : Row) → AreReduced order old → CanTake order old r → Adds old new k r → AreReduced order new
reduced-add order old new k r reduced can adds = record {
  distinct = reduced.distinct;
  no_is_constant = adds.others 0 (λ same. let large = adds.no_constant in absurd (omega arith)) ∙ reduced.no_is_constant;
  yes_is_constant = adds.others 1 (λ same. let large = adds.no_constant in absurd (omega arith)) ∙ reduced.yes_is_constant;
  tested = λ n s is. elim (row-cases old new k r adds n s is) [
    | inl new' ↦ rw new'.1 can.variable
    | inr old' ↦ reduced.tested n s old'.1
  ];
  ends_there = λ n s b is. there-still old new k r adds _ (end-there n s b is);
  ends_below = λ n s b is. rw (there-same old new k r adds _ (end-there n s b is)) (elim (row-cases old new k r adds n s is) [
    | inl new' ↦ rw new'.1 (can.above b)
    | inr old' ↦ reduced.ends_below n s b old'.1
  ]);
  ends_differ = λ n s is. elim (row-cases old new k r adds n s is) [
    | inl new' ↦ rw new'.1 can.differ
    | inr old' ↦ reduced.ends_differ n s old'.1
  ];
  unique = λ m n s is_m is_n. unique' m n s (row-cases old new k r adds m s is_m) (row-cases old new k r adds n s is_n);
}
  where
    end-there : (n : ℕ) (s : Row) (b : Bool) → new n ≡ Some s → IsThere old (end_of s b)
    end-there n s b is = elim (row-cases old new k r adds n s is) [
      | inl new' ↦ rw new'.1 (can.ends_there b)
      | inr old' ↦ reduced.ends_there n s b old'.1
    ]

    unique' : (m n : ℕ) (s : Row) → ((m ≡ k) × (s ≡ r)) ⊎ ((m ≢ k) × (old m ≡ Some s)) → ((n ≡ k) × (s ≡ r)) ⊎ ((n ≢ k) × (old n ≡ Some s)) → m ≡ n
    unique' m n s (inl new_m) (inl new_n) = new_m.0 ∙ sym new_n.0
    unique' m n s (inl new_m) (inr old_n) = absurd (can.absent n (old_n.1 ∙ ap Some new_m.1))
    unique' m n s (inr old_m) (inl new_n) = absurd (can.absent m (old_m.1 ∙ ap Some new_n.1))
    unique' m n s (inr old_m) (inr old_n) = reduced.unique m n s old_m.1 old_n.1

-- every constant and node keeps its value
pub value-add : (order : List Var) (old new : ℕ → Option Row) (k : ℕ) (r : Row) → AreReduced order old → Adds old new k r
    → (a : ℕ → Bool) (n : ℕ) → IsThere old n → value_in order new a n ≡ value_in order old a n
value-add order old new k r reduced adds a n there =
    ap (λ m. m == 1) (follow-same order old new a (there-same old new k r adds) (λ m s b is. reduced.ends_there m s b is) n there)

-- the new node has the value of the end that the assignment takes
pub value-new : (order : List Var) (old new : ℕ → Option Row) (k : ℕ) (r : Row) → AreReduced order old → CanTake order old r → Adds old new k r
    → (a : ℕ → Bool) → value_in order new a k ≡ (if a r.var.0 then value_in order old a r.high.0 else value_in order old a r.low.0)
value-new order old new k r reduced can adds a =
    let b = a r.var.0 in
    let there = can.ends_there b in
    let below : level_in order r.var.0 < level_of_row order (new (end_of r b)) = rw (there-same old new k r adds _ there) (can.above b) in
    ap (λ m. m == 1) (follow-node order new a k r adds.added can.variable below) ∙ value-add order old new k r reduced adds a _ there ∙ by b
  where
    by : (b : Bool) → value_in order old a (end_of r b) ≡ (if b then value_in order old a r.high.0 else value_in order old a r.low.0)
    by true = refl
    by false = refl

-- a slot more: the constants have slots without rows, so there are two slots more than nodes at least
rows-within : (xs : List (Option Row)) → rows_in xs ≤ length xs
rows-within [] = omega arith
rows-within (None ∷ xs) = let rest = rows-within xs in omega arith
rows-within (Some r ∷ xs) = let rest = rows-within xs in omega arith

pub rows-fit : (xs : List (Option Row)) → 2 ≤ length xs → get_or xs 0 None ≡ None → get_or xs 1 None ≡ None → rows_in xs + 2 ≤ length xs
rows-fit [] some first second = absurd (omega arith)
rows-fit (x ∷ []) some first second = absurd (omega arith)
rows-fit (x ∷ y ∷ xs) some first second =
    let one : rows_in (x ∷ y ∷ xs) ≡ rows_in (y ∷ xs) = ap (λ (o : Option Row). rows_in (o ∷ y ∷ xs)) first in
    let two : rows_in (y ∷ xs) ≡ rows_in xs = ap (λ (o : Option Row). rows_in (o ∷ xs)) second in
    let rest = rows-within xs in
    omega arith

-- the table with other slots and counts
abbrev pub with_slots : Table → List (Option Row) → List ℕ → Table
with_slots t slots counts = record t { slots = slots; counts = counts }

-- A node is added to a sound table that has room for it, with a live handle on it.
module _ (t : Table) (slots : List (Option Row)) (counts : List ℕ) (k : ℕ) (r : Row) (sound : IsSound t) (can : CanTake t.order (row_of t) r)
    (adds : Adds (row_of t) (λ n. get_or slots n None) k r) (count : rows_in slots ≡ node_count t + 1) (room : node_count t < t.budget)
    (gains : GainsHandle t (with_slots t slots counts) k) where
  -- the table is as sound
  pub sound-add : IsSound (with_slots t slots counts)
  sound-add = record {
    reduced = record { rows = reduced-add t.order _ _ k r sound.reduced.rows can adds; live = live' };
    numbered = sound.numbered;
    has_numbers = sound.has_numbers;
    few_variables = sound.few_variables;
    within_budget = omega arith;
    enough = sound.enough;
    not_too_much = sound.not_too_much;
  }
    where
      live' : (n : ℕ) → IsLive (with_slots t slots counts) n → IsThere (λ m. get_or slots m None) n
      live' n is_live = elim (cases_eq n k) [
        | inl same ↦ λ large. ap is_some (ap (λ (m : ℕ). get_or slots m None) same ∙ adds.added)
        | inr other ↦
            let each = gains.each n in
            let none = one_on-other k n other in
            there-still _ _ k r adds n (sound.reduced.live n (omega arith))
      ]

  -- what is there keeps its row and its value
  pub grows-add : Grows t (with_slots t slots counts) 1
  grows-add = record {
    keeps = record {
      values = λ n a before after. value-add t.order (row_of t) _ k r sound.reduced.rows adds a n (sound.reduced.live n before);
      kept_alive = λ n before after. keeps-reached t (λ m. get_or slots m None) sound (there-same _ _ k r adds) n before;
      order = refl;
      budget = refl;
      sound = sound-add;
    };
    count = omega arith;
    rows = λ _ n s is. there-same _ _ k r adds n (λ large. ap is_some is) ∙ is;
    none = λ no n. absurd (omega arith);
  }

  -- the new node is one more
  pub adds-row : AddsRow t (with_slots t slots counts) k r
  adds-row = record { free = adds.free; no_constant = adds.no_constant; added = adds.added; others = adds.others; count = count }

  -- and has the value that was asked for
  pub value-added : (a : ℕ → Bool) → value_of (with_slots t slots counts) k a ≡ (if a r.var.0 then value_of t r.high.0 a else value_of t r.low.0 a)
  value-added a = value-new t.order (row_of t) (λ n. get_or slots n None) k r sound.reduced.rows can adds a

-- what an added node makes of a table and of what is kept beside it
pub record Added (t u : Table) (i : Index) (k : ℕ) (r : Row) : Type 0 where
  pub kept : IsKept u i
  pub row : AddsRow t u k r
  pub grows : Grows t u 1
  pub gains : GainsHandle t u k
  pub value : (a : ℕ → Bool) → value_of u k a ≡ (if a r.var.0 then value_of t r.high.0 a else value_of t r.low.0 a)

-- What is kept beside the table when the slots have a node more and the counts a handle on it. `counts` are those with
-- a count for each slot, and `x` is the one of the new node before.
module _ (t : Table) (i : Index) (old new : Nodes) (counts : List ℕ) (k x : ℕ) (r : Row) (kept : IsKept t i) (can : CanTake t.order (row_of t) r)
    (room : node_count t < t.budget) (slots_is : old.rows ≡ t.slots) (marks_is : old.marks ≡ i.marks) (variables_is : old.variables ≡ i.variables)
    (adds : AddsNode old new k r) (size : length counts ≡ length new.rows) (same : (n : ℕ) → get_or counts n 0 ≡ handles_on t n)
    (total : sum counts ≡ sum t.counts) (read : x ≡ get_or counts k x) where
  adds' : Adds (row_of t) (λ n. get_or new.rows n None) k r
  adds' =
      subst (λ (rs : List (Option Row)). Adds (λ n. get_or rs n None) (λ n. get_or new.rows n None) k r) slots_is
      (record { free = adds.free; no_constant = adds.no_constant; added = adds.added; others = adds.others })

  count' : rows_in new.rows ≡ node_count t + 1
  count' = adds.count ∙ ap (λ (rs : List (Option Row)). rows_in rs + 1) slots_is

  gains' : GainsHandle t (with_slots t new.rows (set counts k (x + 1))) k
  gains' =
      let inside = adds.within in
      let gains = gains-handle (with_slots t new.rows counts) k x (omega arith) read in
      record {
        gained = gains.gained ∙ ap (λ (n : ℕ). n + 1) (same k);
        each = λ n. let here = same n in let each = gains.each n in omega arith;
        total = let more = gains.total in omega arith;
      }

  kept' : IsKept (with_slots t new.rows (set counts k (x + 1))) (record { marks = new.marks; variables = new.variables; live = i.live + 1; levels = i.levels })
  kept' = record {
    sound = sound-add t new.rows (set counts k (x + 1)) k r kept.sound can adds' count' room gains';
    constants = let size' = adds.size in let before = ap length slots_is in let constants = kept.constants in omega arith;
    counted = length-set counts k _ ∙ size;
    known = adds.variables ∙ variables_is ∙ kept.known;
    unmarked = λ n. adds.marks n ∙ ap (λ (ms : List Bool). get_or ms n false) marks_is ∙ kept.unmarked n;
    live_is = let more = gains'.total in let is = kept.live_is in omega arith;
    leveled = kept.leveled;
    level_is = kept.level_is;
  }

  pub added : Added t (with_slots t new.rows (set counts k (x + 1))) (record { marks = new.marks; variables = new.variables; live = i.live + 1; levels = i.levels }) k r
  added = record {
    kept = kept';
    row = adds-row t new.rows (set counts k (x + 1)) k r kept.sound can adds' count' room gains';
    grows = grows-add t new.rows (set counts k (x + 1)) k r kept.sound can adds' count' room gains';
    gains = gains';
    value = value-added t new.rows (set counts k (x + 1)) k r kept.sound can adds' count' room gains';
  }

-- what the look-up finds is the node of the row
pub find-found : (t : Table) (r : Row) (o : Option NodeNo) → IsSound t → IfSome o (λ k. row_of t k.0 ≡ Some r)
    → IfSome o (λ k. HasEnds t k.0 r.var.0 r.low.0 r.high.0)
find-found t r None sound is = tt
find-found t r (Some k) sound is = has-ends t k.0 r sound is
