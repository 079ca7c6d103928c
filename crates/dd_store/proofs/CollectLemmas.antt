-- A collection: marked nodes stay, the others leave.
use Rattle.std.proofs.Common.{◌≡◌, ℕ, ◌+◌, ◌<◌, ◌≤◌, ◌==◌, Bool, true, false, cond, if◌then◌else◌, List, [], ◌∷◌, ◌++◌, length, Option, Some, None, is_some, get_or, refl, ap, sym, ◌∙◌, subst, inl, inr, arith}
use Rattle.std.specs.List.{All}
use Rattle.std.proofs.lemmas.Bool.{cases_lt, true≢false}
use Rattle.std.proofs.lemmas.List.{get_or_past}
use Rattle.std.proofs.lemmas.List.Elements.{All-append, All-weaker, All-nil, All-cons, All-head, All-tail}
use Rattle.dd_store.specs.declared.row.Row.{Row}
use Rattle.dd_store.specs.declared.row.Var.{Var}
use Rattle.dd_store.specs.Order.{level_in, level_of_row}
use Rattle.dd_store.specs.Follow.{end_of, step, follow, IsThere}
use Rattle.dd_store.specs.Reached.{reached, KeepsReached}
use Rattle.dd_store.specs.Marks.{IsDone, MarksBelow}
use Rattle.dd_store.specs.Slots.{Nodes, Sweeps, mark_at}
use Rattle.dd_store.specs.Table.{Table, row_of, rows_in, node_count, IsLive, AreReduced, IsSound}
use Rattle.dd_store.specs.Changes.{Keeps, IsKeptAlive, IsCollected}
use Rattle.dd_store.specs.Kept.{Index, IsKept}
use Rattle.dd_store.proofs.ChangeLemmas.{All-front, All-back}

-- what is closed under ends has all that it reaches
pub reached-all : (P : ℕ → Type 0) (vs : List Var) (rows : ℕ → Option Row) → ((n : ℕ) (r : Row) (b : Bool) → rows n ≡ Some r → P n → P (end_of r b))
    → (n : ℕ) → P n → All P (reached vs rows n)
reached-all P [] rows closed n here = All-cons P n [] here (All-nil P)
reached-all P (v ∷ vs) rows closed n here =
    All-cons P n _ here
    (All-append P _ _ (reached-all P vs rows closed _ (next false (rows n) refl)) (reached-all P vs rows closed _ (next true (rows n) refl)))
  where
    next : (b : Bool) (o : Option Row) → rows n ≡ o → P (step o v.0 n b)
    next b None e = here
    next b (Some r) e = within (v.0 == r.var.0)
      where
        within : (t : Bool) → P (cond t (end_of r b) n)
        within true = closed n r b e here
        within false = here

-- where what is reached keeps its rows, following ends leads to the same number
pub follow-kept : (vs : List Var) (old new : ℕ → Option Row) (a : ℕ → Bool) (n : ℕ) → KeepsReached vs old new n → follow vs new a n ≡ follow vs old a n
follow-kept [] old new a n keeps = refl
follow-kept (v ∷ vs) old new a n keeps =
    let P : ℕ → Type 0 = λ m. new m ≡ old m in
    let low = reached vs old (step (old n) v.0 n false) in
    let high = reached vs old (step (old n) v.0 n true) in
    let here : new n ≡ old n = All-head P n (low ++ high) keeps in
    let rest = All-tail P n (low ++ high) keeps in
    ap (λ (o : Option Row). follow vs new a (step o v.0 n (a v.0))) here
    ∙ by (a v.0) (All-front P low high rest) (All-back P low high rest) (follow-kept vs old new a (step (old n) v.0 n (a v.0)))
  where
    by : (b : Bool) → KeepsReached vs old new (step (old n) v.0 n false) → KeepsReached vs old new (step (old n) v.0 n true)
        → (KeepsReached vs old new (step (old n) v.0 n b) → follow vs new a (step (old n) v.0 n b) ≡ follow vs old a (step (old n) v.0 n b))
        → follow vs new a (step (old n) v.0 n b) ≡ follow vs old a (step (old n) v.0 n b)
    by false one two rest = rest one
    by true one two rest = rest two

-- The marks of a collection, and the table behind it.
module _ (t u : Table) (marks : ℕ → Bool) (sound : IsSound t) (below : MarksBelow t.order (row_of t) t.counts marks (length t.counts))
    (swept : (n : ℕ) → row_of u n ≡ (if marks n then row_of t n else None)) (count : node_count u ≤ node_count t)
    (order : u.order ≡ t.order) (counts : u.counts ≡ t.counts) (budget : u.budget ≡ t.budget) where
  -- a row that is there after is one from before that is marked
  was : (n : ℕ) (r : Row) → row_of u n ≡ Some r → (marks n ≡ true) × (row_of t n ≡ Some r)
  was n r is = by (marks n) refl (sym (swept n) ∙ is)
    where
      by : (b : Bool) → marks n ≡ b → (if b then row_of t n else None) ≡ Some r → (marks n ≡ true) × (row_of t n ≡ Some r)
      by true e h = (e, h)
      by false e h = absurd (true≢false (sym (ap is_some h)))

  marked-same : (n : ℕ) → marks n ≡ true → row_of u n ≡ row_of t n
  marked-same n is = swept n ∙ ap (λ (b : Bool). if b then row_of t n else None) is

  -- what is done keeps its row
  done-same : (n : ℕ) → IsDone (row_of t) marks n → row_of u n ≡ row_of t n
  done-same n done = by (row_of t n) refl
    where
      none : (b : Bool) → row_of t n ≡ None → (if b then row_of t n else None) ≡ None
      none true e = e
      none false e = refl

      by : (o : Option Row) → row_of t n ≡ o → row_of u n ≡ row_of t n
      by None e = swept n ∙ none (marks n) e ∙ sym e
      by (Some r) e = marked-same n (done (ap is_some e))

  -- and so do its ends
  done-ends : (n : ℕ) (r : Row) (b : Bool) → row_of t n ≡ Some r → IsDone (row_of t) marks n → IsDone (row_of t) marks (end_of r b)
  done-ends n r b is done = below.ends n (done (ap is_some is)) r b is

  -- a live handle stands on what is done
  live-done : (h : ℕ) → IsLive t h → IsDone (row_of t) marks h
  live-done h live = elim (cases_lt h (length t.counts)) [
    | inl inside ↦ below.done h inside live
    | inr beyond ↦ absurd (let none = get_or_past t.counts h 0 beyond in omega arith)
  ]

  live-reaches : (h : ℕ) → IsLive t h → All (IsDone (row_of t) marks) (reached t.order (row_of t) h)
  live-reaches h live = reached-all (IsDone (row_of t) marks) t.order (row_of t) done-ends h (live-done h live)

  there-after : (n : ℕ) → IsThere (row_of t) n → IsDone (row_of t) marks n → IsThere (row_of u) n
  there-after n there done large = ap is_some (done-same n done) ∙ there large

  end-done : (n : ℕ) (r : Row) (b : Bool) → row_of u n ≡ Some r → IsDone (row_of t) marks (end_of r b)
  end-done n r b is = let before = was n r is in below.ends n before.0 r b before.1

  reduced : AreReduced u.order (row_of u)
  reduced = subst (λ (vs : List Var). AreReduced vs (row_of u)) (sym order) (record {
    distinct = sound.reduced.rows.distinct;
    no_is_constant = none 0 sound.reduced.rows.no_is_constant;
    yes_is_constant = none 1 sound.reduced.rows.yes_is_constant;
    tested = λ n r is. sound.reduced.rows.tested n r (was n r is).1;
    ends_there = λ n r b is. there-after (end_of r b) (sound.reduced.rows.ends_there n r b (was n r is).1) (end-done n r b is);
    ends_below = λ n r b is.
        subst (λ (o : Option Row). level_in t.order r.var.0 < level_of_row t.order o) (sym (done-same (end_of r b) (end-done n r b is)))
        (sound.reduced.rows.ends_below n r b (was n r is).1);
    ends_differ = λ n r is. sound.reduced.rows.ends_differ n r (was n r is).1;
    unique = λ m n r is_m is_n. sound.reduced.rows.unique m n r (was m r is_m).1 (was n r is_n).1;
  })
    where
      none : (n : ℕ) → row_of t n ≡ None → row_of u n ≡ None
      none n e = done-same n (λ some. absurd (true≢false (sym some ∙ ap is_some e))) ∙ e

  same-live : (n : ℕ) → IsLive u n → IsLive t n
  same-live n live = subst (λ (cs : List ℕ). 0 < get_or cs n 0) counts live

  pub sound-after : IsSound u
  sound-after = record {
    reduced = record { rows = reduced; live = λ n live. there-after n (sound.reduced.live n (same-live n live)) (live-done n (same-live n live)) };
    numbered = subst (λ (vs : List Var). (v : ℕ) → level_in vs v < length vs → v < length vs) (sym order) sound.numbered;
    has_numbers = subst (λ (vs : List Var). (v : ℕ) → v < length vs → level_in vs v < length vs) (sym order) sound.has_numbers;
    few_variables = let few = sound.few_variables in let same = ap length order in omega arith;
    within_budget = let most = sound.within_budget in omega arith;
    enough = let enough = sound.enough in omega arith;
    not_too_much = let most = sound.not_too_much in omega arith;
  }

  pub keeps-collected : Keeps t u
  keeps-collected = record {
    values = λ n a before after.
        ap (λ (vs : List Var). follow vs (row_of u) a n == 1) order
        ∙ ap (λ (k : ℕ). k == 1) (follow-kept t.order (row_of t) (row_of u) a n (kept n before));
    kept_alive = λ n before after. kept n before;
    order = order;
    budget = budget;
    sound = sound-after;
  }
    where
      kept : (n : ℕ) → IsLive t n → KeepsReached t.order (row_of t) (row_of u) n
      kept n live = All-weaker (IsDone (row_of t) marks) (λ m. row_of u m ≡ row_of t m) done-same (reached t.order (row_of t) n) (live-reaches n live)

  pub is-collected : IsCollected t u
  is-collected n r = (forth, back)
    where
      forth : row_of u n ≡ Some r → (row_of t n ≡ Some r) × IsKeptAlive t n
      forth is = let before = was n r is in (before.1, below.reached n before.0)

      back : (row_of t n ≡ Some r) × IsKeptAlive t n → row_of u n ≡ Some r
      back (is, (h, live, (k, inside, at))) =
          let done : IsDone (row_of t) marks n = subst (IsDone (row_of t) marks) at (live-reaches h live k n inside) in
          done-same n done ∙ is

-- What a collection makes of a table and of what is kept beside it.
pub record Collects (t u : Table) (i : Index) : Type 0 where
  pub kept : IsKept u i
  pub keeps : Keeps t u
  pub collected : IsCollected t u

-- the fields of a store as a table
abbrev pub table_of : List (Option Row) → List Var → List ℕ → ℕ → Table
table_of slots order counts budget = record { slots = slots; order = order; counts = counts; budget = budget }

-- marks and a sweep are a collection
pub collects : (slots : List (Option Row)) (order os : List Var) (counts cs : List ℕ) (budget gone : ℕ) (i : Index) (marked swept : Nodes)
    → os ≡ order → cs ≡ counts → IsKept (table_of slots order counts budget) i
    → MarksBelow os (λ n. get_or slots n None) cs (mark_at marked) (length cs) → marked.rows ≡ slots → marked.variables ≡ i.variables
    → Sweeps marked swept → rows_in swept.rows + gone ≡ rows_in marked.rows
    → Collects (table_of slots order counts budget) (table_of swept.rows order counts budget)
    (record { marks = swept.marks; variables = swept.variables; live = i.live; levels = i.levels })
collects slots order os counts cs budget gone i marked swept same_order same_counts kept below same_rows same_variables sweeps count = record {
  kept = record {
    sound = sound-after (table_of slots order counts budget) (table_of swept.rows order counts budget) (mark_at marked) kept.sound below' swept' fewer refl refl refl;
    constants = let constants = kept.constants in let size = sweeps.size in let same = ap length same_rows in omega arith;
    counted = kept.counted ∙ sym (sweeps.size ∙ ap length same_rows);
    known = sweeps.variables ∙ same_variables ∙ kept.known;
    unmarked = sweeps.marks;
    live_is = kept.live_is;
    leveled = kept.leveled;
    level_is = kept.level_is;
  };
  keeps = keeps-collected (table_of slots order counts budget) (table_of swept.rows order counts budget) (mark_at marked) kept.sound below' swept' fewer refl refl refl;
  collected = is-collected (table_of slots order counts budget) (table_of swept.rows order counts budget) (mark_at marked) kept.sound below' swept' fewer refl refl refl;
}
  where
    fewer : rows_in swept.rows ≤ rows_in slots
    fewer = let same = ap rows_in same_rows in omega arith

    below' : MarksBelow order (λ n. get_or slots n None) counts (mark_at marked) (length counts)
    below' =
        subst (λ (vs : List Var). MarksBelow vs (λ n. get_or slots n None) counts (mark_at marked) (length counts)) same_order
        (subst (λ (ns : List ℕ). MarksBelow os (λ n. get_or slots n None) ns (mark_at marked) (length ns)) same_counts below)

    swept' : (n : ℕ) → get_or swept.rows n None ≡ (if mark_at marked n then get_or slots n None else None)
    swept' n = sweeps.rows n ∙ ap (λ (rs : List (Option Row)). if mark_at marked n then get_or rs n None else None) same_rows
