-- A table that is full behind its collection: all that fills it is reached from live handles.
use Rattle.std.proofs.Common.{◌≡◌, ◌≢◌, ◌⊎◌, ℕ, zero, suc, ◌+◌, ◌*◌, ◌^◌, ◌<◌, ◌≤◌, nat_eq, nat_le, Bool, true, false, cond, ◌||◌, if◌then◌else◌, List, [], ◌∷◌, length, map, sum, filter, Option, Some, None, Result, Ok, Err, OnErr, is_some, get_or, refl, ap, sym, ◌∙◌, subst, inl, inr, arith}
use Rattle.std.specs.List.{All, flat_map}
use Rattle.std.specs.Cmp.{nat_eq_equiv}
use Rattle.std.specs.Set.{is_member, unique_keys, distinct_count}
use Rattle.std.proofs.lemmas.Bool.{cases_lt, cases_eq, eq-eqb, le-leb, true≢false}
use Rattle.std.proofs.Math.Nat.{mul-le-mul_right}
use Rattle.std.proofs.lemmas.Bool.Decides.{nat_tests}
use Rattle.std.proofs.lemmas.List.{get_or_past}
use Rattle.std.proofs.lemmas.List.Sums.{sum_by-append}
use Rattle.std.proofs.lemmas.List.Elements.{All-nil, All-cons, All-weaker}
use Rattle.dd_store.specs.declared.row.Row.{Row}
use Rattle.dd_store.specs.declared.row.Var.{Var}
use Rattle.dd_store.specs.Order.{level_in, level_of_row}
use Rattle.dd_store.specs.Follow.{end_of, value_in, IsThere}
use Rattle.dd_store.specs.Reached.{reached}
use Rattle.dd_store.specs.Size.{Function, size}
use Rattle.dd_store.specs.SizeLaws.{function_of}
use Rattle.dd_store.specs.Table.{Table, row_of, rows_in, node_count, handle_count, value_of, IsLive, IsVariable, IsAbove, AreReduced}
use Rattle.dd_store.specs.Changes.{Keeps, Grows, IsCollected, IsCollectedBut, AreKeptAlive}
use Rattle.dd_store.specs.Handles.{KeepsHandles}
use Rattle.dd_store.specs.Exhausted.{IsExhausted, IsPartialResult, HasHeld, asked_by, value_at}
use Rattle.dd_store.proofs.AddLemmas.{CanTake, Adds, reduced-add, value-add, value-new, there-same, there-still}
use Rattle.dd_store.proofs.Canonical.{canonical}
use Rattle.dd_store.proofs.ChangeLemmas.{reached-same, reached-there, keeps_then}
use Rattle.dd_store.proofs.FreeLemmas.{size-bounded}
use Rattle.dd_store.proofs.MarkLemmas.{reached-itself}
use Rattle.dd_store.proofs.ReachedLemmas.{reached-size}
use Rattle.dd_store.proofs.SizeLemmas.{In, in_from, contains_from, in_each, in_filter, count_more, more-size}
use Rattle.dd_store.proofs.StayLemmas.{count-same}

-- what holds of each element, and of one
pub all-in : {X : Type 0} (P : X → Type 0) (xs : List X) → ((x : X) → In x xs → P x) → All P xs
all-in P [] each = All-nil P
all-in P (x ∷ xs) each = All-cons P x xs (each x (inl refl)) (all-in P xs (λ y is. each y (inr is)))

pub in-all : {X : Type 0} (P : X → Type 0) (xs : List X) → All P xs → (x : X) → In x xs → P x
in-all P xs all x is = let (k, inside, at) = contains_from x xs is in subst P at (all k x inside)

-- the numbers from n on with a count above 0
live_from : ℕ → List ℕ → List ℕ
live_from n [] = []
live_from n (zero ∷ cs) = live_from (suc n) cs
live_from n (suc c ∷ cs) = n ∷ live_from (suc n) cs

live-few : (n : ℕ) (cs : List ℕ) → length (live_from n cs) ≤ sum cs
unfolding live_from
live-few n [] = omega arith
live-few n (zero ∷ cs) = let rest = live-few (suc n) cs in omega arith
live-few n (suc c ∷ cs) =
    let rest = live-few (suc n) cs in
    let all : sum (suc c ∷ cs) ≡ 0 + suc c + sum cs = sum_by-append (λ x. x) (suc c ∷ []) cs in
    omega arith

live-is : (n : ℕ) (cs : List ℕ) (m : ℕ) → In m (live_from n cs) → (k : ℕ) × (m ≡ n + k) × (0 < get_or cs k 0)
unfolding live_from
live-is n [] m is = absurd is
live-is n (zero ∷ cs) m is = let (k, at, some) = live-is (suc n) cs m is in (suc k, omega arith, some)
live-is n (suc c ∷ cs) m (inl is) = (0, omega arith, omega arith)
live-is n (suc c ∷ cs) m (inr is) = let (k, at, some) = live-is (suc n) cs m is in (suc k, omega arith, some)

live-has : (n : ℕ) (cs : List ℕ) (k : ℕ) → 0 < get_or cs k 0 → In (n + k) (live_from n cs)
unfolding live_from
live-has n [] k some = absurd (omega arith)
live-has n (zero ∷ cs) zero some = absurd (omega arith)
live-has n (zero ∷ cs) (suc k) some =
    let there : suc n + k ≡ n + suc k = omega arith in
    subst (λ (m : ℕ). In m (live_from (suc n) cs)) there (live-has (suc n) cs k some)
live-has n (suc c ∷ cs) zero some = inl (omega arith)
live-has n (suc c ∷ cs) (suc k) some =
    let there : suc n + k ≡ n + suc k = omega arith in
    inr (subst (λ (m : ℕ). In m (live_from (suc n) cs)) there (live-has (suc n) cs k some))

-- the numbers of the live handles
held_numbers : Table → List ℕ
held_numbers t = live_from 0 t.counts

held-live : (t : Table) (n : ℕ) → In n (held_numbers t) → IsLive t n
unfolding held_numbers
held-live t n is =
    let (k, at, some) = live-is 0 t.counts n is in
    let same : k ≡ n = omega arith in
    subst (IsLive t) same some

live-held : (t : Table) (n : ℕ) → IsLive t n → In n (held_numbers t)
unfolding held_numbers
live-held t n live =
    let same : 0 + n ≡ n = omega arith in
    subst (λ (m : ℕ). In m (live_from 0 t.counts)) same (live-has 0 t.counts n live)

held-few : (t : Table) → length (held_numbers t) ≤ handle_count t
unfolding held_numbers
held-few t = live-few 0 t.counts

-- the numbers from n on that have a row
rows_from : ℕ → List (Option Row) → List ℕ
rows_from n [] = []
rows_from n (None ∷ xs) = rows_from (suc n) xs
rows_from n (Some r ∷ xs) = n ∷ rows_from (suc n) xs

rows-count : (n : ℕ) (xs : List (Option Row)) → length (rows_from n xs) ≡ rows_in xs
unfolding rows_from
rows-count n [] = refl
rows-count n (None ∷ xs) = rows-count (suc n) xs
rows-count n (Some r ∷ xs) = ap suc (rows-count (suc n) xs)

rows-is : (n : ℕ) (xs : List (Option Row)) (m : ℕ) → In m (rows_from n xs) → (k : ℕ) × (m ≡ n + k) × (k < length xs) × (r : Row) × (get_or xs k None ≡ Some r)
unfolding rows_from
rows-is n [] m is = absurd is
rows-is n (None ∷ xs) m is = let (k, at, inside, r, row) = rows-is (suc n) xs m is in (suc k, omega arith, omega arith, r, row)
rows-is n (Some s ∷ xs) m (inl is) = (0, omega arith, omega arith, s, refl)
rows-is n (Some s ∷ xs) m (inr is) = let (k, at, inside, r, row) = rows-is (suc n) xs m is in (suc k, omega arith, omega arith, r, row)

-- they all differ
below-none : (n m : ℕ) (xs : List (Option Row)) → m < n → is_member nat_eq (rows_from n xs) m ≡ false
unfolding rows_from
below-none n m [] below = refl
below-none n m (None ∷ xs) below = below-none (suc n) m xs (omega arith)
below-none n m (Some r ∷ xs) below =
    let other : nat_eq m n ≡ false = grind (arith, nat_tests) in
    ap (λ (b : Bool). b || is_member nat_eq (rows_from (suc n) xs) m) other ∙ below-none (suc n) m xs (omega arith)

above-none : (n m : ℕ) (xs : List (Option Row)) → n + length xs ≤ m → is_member nat_eq (rows_from n xs) m ≡ false
unfolding rows_from
above-none n m [] above = refl
above-none n m (None ∷ xs) above = above-none (suc n) m xs (omega arith)
above-none n m (Some r ∷ xs) above =
    let other : nat_eq m n ≡ false = grind (arith, nat_tests) in
    ap (λ (b : Bool). b || is_member nat_eq (rows_from (suc n) xs) m) other ∙ above-none (suc n) m xs (omega arith)

all-differ : (n : ℕ) (xs : List (Option Row)) → distinct_count nat_eq (rows_from n xs) ≡ rows_in xs
unfolding rows_from
all-differ n [] = refl
all-differ n (None ∷ xs) = all-differ (suc n) xs
all-differ n (Some r ∷ xs) =
    ap (λ (b : Bool). length (cond b (unique_keys nat_eq (rows_from (suc n) xs)) (n ∷ unique_keys nat_eq (rows_from (suc n) xs)))) (below-none (suc n) n xs (omega arith))
    ∙ ap suc (all-differ (suc n) xs)

-- so there are at most as many rows as different numbers in a list that has all their numbers
rows-in : (xs : List (Option Row)) (ns : List ℕ) → ((n : ℕ) (r : Row) → get_or xs n None ≡ Some r → In n ns) → (m : ℕ) → In m (rows_from 0 xs) → In m ns
rows-in xs ns has m is =
    let (k, at, inside, r, row) = rows-is 0 xs m is in
    let same : k ≡ m = omega arith in
    subst (λ (n : ℕ). In n ns) same (has k r row)

rows-at-most : (xs : List (Option Row)) (ns : List ℕ) → ((n : ℕ) (r : Row) → get_or xs n None ≡ Some r → In n ns) → rows_in xs ≤ distinct_count nat_eq ns
rows-at-most xs ns has =
    subst (λ (c : ℕ). c ≤ distinct_count nat_eq ns) (all-differ 0 xs) (count_more nat_eq_equiv (rows_from 0 xs) ns (rows-in xs ns has))

-- and fewer where the list has a number beyond them too
rows-fewer : (xs : List (Option Row)) (ns : List ℕ) (k : ℕ) → ((n : ℕ) (r : Row) → get_or xs n None ≡ Some r → In n ns) → length xs ≤ k → In k ns → rows_in xs < distinct_count nat_eq ns
rows-fewer xs ns k has beyond there =
    let more = count_more nat_eq_equiv (k ∷ rows_from 0 xs) ns within in
    let count : distinct_count nat_eq (k ∷ rows_from 0 xs) ≡ suc (rows_in xs) =
    ap (λ (b : Bool). length (cond b (unique_keys nat_eq (rows_from 0 xs)) (k ∷ unique_keys nat_eq (rows_from 0 xs)))) (above-none 0 k xs (omega arith))
    ∙ ap suc (all-differ 0 xs) in
    less (rows_in xs) _ _ count more
  where
    less : (a b c : ℕ) → b ≡ suc a → b ≤ c → a < c
    less a b c one two = omega arith

    within : (m : ℕ) → In m (k ∷ rows_from 0 xs) → In m ns
    within m (inl is) = subst (λ (n : ℕ). In n ns) is there
    within m (inr is) = rows-in xs ns has m is

-- a free number with a row: a table with one node more
abbrev with_row : (ℕ → Option Row) → ℕ → Row → ℕ → Option Row
with_row rows k r n = if nat_eq n k then Some r else rows n

with-adds : (rows : ℕ → Option Row) (k : ℕ) (r : Row) → rows k ≡ None → 2 ≤ k → Adds rows (with_row rows k r) k r
with-adds rows k r free large = record {
  free = free;
  no_constant = large;
  added = ap (λ (b : Bool). if b then Some r else rows k) (eq-eqb k k refl);
  others = λ n other. ap (λ (b : Bool). if b then Some r else rows n) (different n other);
}
  where
    different : (n : ℕ) → n ≢ k → nat_eq n k ≡ false
    different n other = grind (arith, nat_tests)

-- The table behind a collection, with a row that it can take.
module _ (t m : Table) (r : Row) (keeps : Keeps t m) (collected : IsCollected t m) (handles : KeepsHandles t m) where
  live-after : (n : ℕ) → IsLive t n → IsLive m n
  live-after n live = let same = handles.each n in omega arith

  -- what a live handle reaches is reached by it after
  reached-after : (n : ℕ) → IsLive t n → reached m.order (row_of m) n ≡ reached t.order (row_of t) n
  reached-after n live =
      ap (λ (vs : List Var). reached vs (row_of m) n) keeps.order
      ∙ reached-same t.order (row_of t) (row_of m) n (keeps.kept_alive n live (live-after n live))

  -- a number with a live handle keeps its row
  row-after : (n : ℕ) → IsLive t n → row_of m n ≡ row_of t n
  row-after n live =
      in-all (λ (k : ℕ). row_of m k ≡ row_of t k) (reached t.order (row_of t) n) (keeps.kept_alive n live (live-after n live)) n (reached-itself t.order (row_of t) n)

  value-after : (n : ℕ) → IsLive t n → value_at m n ≡ value_at t n
  value-after n live = λ j a. keeps.values n a live (live-after n live) j

  end-live : IsLive t r.low.0 → IsLive t r.high.0 → (b : Bool) → IsLive t (end_of r b)
  end-live low high true = high
  end-live low high false = low

  -- it can take the row as before
  pub can-after : IsVariable t r.var.0 → ((b : Bool) → IsLive t (end_of r b)) → ((b : Bool) → IsAbove t r.var.0 (end_of r b)) → r.low.0 ≢ r.high.0
      → ((n : ℕ) → row_of t n ≢ Some r) → CanTake m.order (row_of m) r
  can-after variable live above differ absent = record {
    variable = subst (λ (vs : List Var). level_in vs r.var.0 < length vs) (sym keeps.order) variable;
    ends_there = λ b. keeps.sound.reduced.live (end_of r b) (live-after (end_of r b) (live b));
    above = λ b.
        subst (λ (vs : List Var). level_in vs r.var.0 < level_of_row vs (row_of m (end_of r b))) (sym keeps.order)
        (subst (λ (o : Option Row). level_in t.order r.var.0 < level_of_row t.order o) (sym (row-after (end_of r b) (live b))) (above b));
    differ = differ;
    absent = λ n is. absent n ((collected n r).0 is).0;
  }

  abbrev from : List ℕ
  from = held_numbers t

  from-there : All (IsThere (row_of m)) from
  from-there = all-in (IsThere (row_of m)) from (λ n is. keeps.sound.reduced.live n (live-after n (held-live t n is)))

  -- all its nodes are reached
  all-reached : (n : ℕ) (s : Row) → row_of m n ≡ Some s → In n (flat_map (reached m.order (row_of m)) from)
  all-reached n s is =
      let (at, (h, live, has)) = (collected n s).0 is in
      in_each (reached m.order (row_of m)) h from n (live-held t h live)
      (subst (λ (ns : List ℕ). In n ns) (sym (reached-after h live)) (in_from n (reached t.order (row_of t) h) has))

  no-constant : (n : ℕ) (s : Row) → row_of m n ≡ Some s → nat_le 2 n ≡ true
  no-constant n s is = elim (cases_lt n 2) [
    | inr past ↦ le-leb 2 n past
    | inl small ↦ elim (cases_eq n 0) [
      | inl zero' ↦ absurd (true≢false (ap is_some (sym is ∙ ap (row_of m) zero' ∙ keeps.sound.reduced.rows.no_is_constant)))
      | inr other ↦
          let one : n ≡ 1 = omega arith in
          absurd (true≢false (ap is_some (sym is ∙ ap (row_of m) one ∙ keeps.sound.reduced.rows.yes_is_constant)))
    ]
  ]

  in-nodes : (n : ℕ) (s : Row) → row_of m n ≡ Some s → In n (filter (nat_le 2) (flat_map (reached m.order (row_of m)) from))
  in-nodes n s is = in_filter (nat_le 2) n (flat_map (reached m.order (row_of m)) from) (all-reached n s is) (no-constant n s is)

  map-length : (xs : List ℕ) → length (map (function_of m.order (row_of m)) xs) ≡ length xs
  map-length [] = refl
  map-length (x ∷ xs) = ap suc (map-length xs)

  times-more : (a b c d : ℕ) → a ≤ b * d → b ≤ c → a ≤ c * d
  times-more a b c d one two = let more = mul-le-mul_right d two in omega arith

  -- so they are few
  bounded : node_count m ≤ handle_count t * 2 ^ length m.order
  bounded =
      let fs = map (function_of m.order (row_of m)) from in
      let count = rows-at-most m.slots (filter (nat_le 2) (flat_map (reached m.order (row_of m)) from)) in-nodes in
      let same = reached-size m.order (row_of m) keeps.sound.reduced.rows from from-there in
      let most = size-bounded m.order fs in
      let few = held-few t in
      let number = map-length from in
      times-more (node_count m) (length fs) (handle_count t) (2 ^ length m.order) (omega arith) (omega arith)

  -- with the row there were one node more
  module _ (can : CanTake m.order (row_of m) r) (low_live : IsLive t r.low.0) (high_live : IsLive t r.high.0) where
    abbrev next : ℕ
    next = length m.slots + 2

    rows' : ℕ → Option Row
    rows' = with_row (row_of m) next r

    adds' : Adds (row_of m) rows' next r
    unfolding rows'
    adds' = with-adds (row_of m) next r (get_or_past m.slots next None (omega arith)) (omega arith)

    reduced' : AreReduced m.order rows'
    reduced' = reduced-add m.order (row_of m) rows' next r keeps.sound.reduced.rows can adds'

    -- from the handles the same is reached
    reached-with : (n : ℕ) → IsThere (row_of m) n → reached m.order rows' n ≡ reached m.order (row_of m) n
    reached-with n there =
        reached-same m.order (row_of m) rows' n
        (All-weaker (IsThere (row_of m)) (λ (k : ℕ). rows' k ≡ row_of m k) (there-same (row_of m) rows' next r adds') (reached m.order (row_of m) n)
        (reached-there m.order (row_of m) keeps.sound.reduced.rows.ends_there n there))

    abbrev ns : List ℕ
    ns = next ∷ from

    there' : All (IsThere rows') ns
    there' = all-in (IsThere rows') ns there''
      where
        there'' : (n : ℕ) → In n ns → IsThere rows' n
        there'' n (inl is) = λ large. ap is_some (ap rows' (sym is) ∙ adds'.added)
        there'' n (inr is) = there-still (row_of m) rows' next r adds' n (keeps.sound.reduced.live n (live-after n (held-live t n is)))

    reaches : (n : ℕ) (s : Row) → row_of m n ≡ Some s → In n (filter (nat_le 2) (flat_map (reached m.order rows') ns))
    reaches n s is =
        let (at, (h, live, has)) = (collected n s).0 is in
        in_filter (nat_le 2) n (flat_map (reached m.order rows') ns)
        (in_each (reached m.order rows') h ns n (inr (live-held t h live))
        (subst (λ (ks : List ℕ). In n ks) (sym (reached-with h (keeps.sound.reduced.live h (live-after h live)) ∙ reached-after h live)) (in_from n (reached t.order (row_of t) h) has)))
        (no-constant n s is)

    reaches-next : In next (filter (nat_le 2) (flat_map (reached m.order rows') ns))
    reaches-next =
        in_filter (nat_le 2) next (flat_map (reached m.order rows') ns)
        (in_each (reached m.order rows') next ns next (inl refl) (reached-itself m.order rows' next)) (le-leb 2 next (omega arith))

    -- the functions that need so many nodes are the asked one and those that are held
    value-next : function_of m.order rows' next ≡ asked_by t r
    value-next = λ j a. same a j
      where
        both : (b : Bool) (x y x' y' : Bool) → x ≡ x' → y ≡ y' → (if b then x else y) ≡ (if b then x' else y')
        both true x y x' y' e f = e
        both false x y x' y' e f = f

        same : (a : ℕ → Bool) → value_in m.order rows' a next ≡ (if a r.var.0 then value_of t r.high.0 a else value_of t r.low.0 a)
        same a =
            value-new m.order (row_of m) rows' next r keeps.sound.reduced.rows can adds' a
            ∙ both (a r.var.0) _ _ _ _ (keeps.values r.high.0 a high_live (live-after r.high.0 high_live)) (keeps.values r.low.0 a low_live (live-after r.low.0 low_live))

    value-old : (n : ℕ) → IsLive t n → function_of m.order rows' n ≡ value_at t n
    value-old n live = λ j a. same a j
      where
        same : (a : ℕ → Bool) → value_in m.order rows' a n ≡ value_of t n a
        same a =
            value-add m.order (row_of m) rows' next r keeps.sound.reduced.rows adds' a n (keeps.sound.reduced.live n (live-after n live))
            ∙ keeps.values n a live (live-after n live)

    in-map : (h : ℕ → Function) (xs : List ℕ) (f : Function) → In f (map h xs) → (x : ℕ) × In x xs × (h x ≡ f)
    in-map h [] f is = absurd is
    in-map h (x ∷ xs) f (inl is) = (x, inl refl, is)
    in-map h (x ∷ xs) f (inr is) = let (y, there, same) = in-map h xs f is in (y, inr there, same)

    asked-held : (held : List Function) → HasHeld t held → (f : Function) → In f (map (function_of m.order rows') ns) → In f (asked_by t r ∷ held)
    asked-held held has f (inl is) = inl (sym value-next ∙ is)
    asked-held held has f (inr is) =
        let (n, there, same) = in-map (function_of m.order rows') from f is in
        let live = held-live t n there in
        inr (subst (λ (g : Function). In g held) (sym (value-old n live) ∙ same) (in_from (value_at t n) held (has n live)))

    too-much : (held : List Function) → HasHeld t held → node_count m < size t.order (asked_by t r ∷ held)
    too-much held has =
        let count = rows-fewer m.slots (filter (nat_le 2) (flat_map (reached m.order rows') ns)) next reaches (omega arith) reaches-next in
        let same = reached-size m.order rows' reduced' ns there' in
        let more = more-size m.order (map (function_of m.order rows') ns) (asked_by t r ∷ held)
        (λ f is. contains_from f (asked_by t r ∷ held) (asked-held held has f (in_from f (map (function_of m.order rows') ns) is))) in
        let order' = ap (λ (vs : List Var). size vs (asked_by t r ∷ held)) keeps.order in
        chain (node_count m) _ _ _ _ count same more order'
      where
        chain : (a b c d e : ℕ) → a < b → b ≡ c → c ≤ d → d ≡ e → a < e
        chain a b c d e one two three four = omega arith

    pub exhausted : (roots nodes : ℕ) → node_count m ≡ m.budget → nodes ≡ m.budget → roots ≡ handle_count t → IsExhausted t m (asked_by t r) 0 nodes roots
    exhausted roots nodes full nodes_is roots_is = record {
      full = full;
      nodes_is = nodes_is;
      from = from;
      there = from-there;
      each = all-in (λ n. IsLive t n ⊎ IsPartialResult m (asked_by t r) n) from (λ n is. inl (held-live t n is));
      all = λ n s is. contains_from n (flat_map (reached m.order (row_of m)) from) (all-reached n s is);
      few = let few = held-few t in omega arith;
      roots_few = omega arith;
      apart = λ k n there_k there_n same. canonical m.order (row_of m) keeps.sound.reduced.rows k n there_k there_n same;
      bound = subst (λ (k : ℕ). m.budget ≤ k * 2 ^ length m.order) (sym roots_is) (subst (λ (k : ℕ). k ≤ handle_count t * 2 ^ length m.order) full bounded);
      size = λ held has. let budget = keeps.budget in let much = too-much held has in full-size _ _ _ _ much full budget;
    }
      where
        full-size : (a b c d : ℕ) → a < d → a ≡ b → b ≡ c → c < d
        full-size a b c d one two three = omega arith

-- a collection that takes none of the nodes leaves as many
pub none-goes : (t m : Table) → IsCollected t m → AreKeptAlive t → node_count m ≡ node_count t
none-goes t m collected alive = count-same m.slots t.slots same
  where
    same : (n : ℕ) → row_of m n ≡ row_of t n
    same n = by (row_of t n) refl (row_of m n) refl
      where
        by : (o : Option Row) → row_of t n ≡ o → (p : Option Row) → row_of m n ≡ p → p ≡ o
        by (Some r) e p f = sym f ∙ (collected n r).1 (e, alive n r e)
        by None e None f = refl
        by None e (Some s) f = sym ((collected n s).0 f).0 ∙ e

-- a change behind the collection of a full table
pub grows-behind : (t m u : Table) → Keeps t m → KeepsHandles t m → node_count t ≡ t.budget → node_count m ≤ node_count t → Grows m u 1 → Grows t u 1
grows-behind t m u keeps handles full fewer grows = record {
  keeps = keeps_then keeps grows.keeps (λ n before after. let same = handles.each n in omega arith);
  count = let count = grows.count in omega arith;
  rows = λ room n r is. absurd (omega arith);
  none = λ no n. absurd (omega arith);
}

-- where nothing but one number changes behind a collection
pub collected-but : (t m u : Table) (h : ℕ) → IsCollected t m → ((n : ℕ) → n ≢ h → row_of u n ≡ row_of m n) → IsCollectedBut t u h
collected-but t m u h collected others n r other =
    let same = others n other in
    ((λ is. (collected n r).0 (sym same ∙ is)), (λ alive. same ∙ (collected n r).1 alive))

pub collected-same : (t m u : Table) → IsCollected t m → ((n : ℕ) → row_of u n ≡ row_of m n) → IsCollected t u
collected-same t m u collected same n r = ((λ is. (collected n r).0 (sym (same n) ∙ is)), (λ alive. same n ∙ (collected n r).1 alive))

-- what holds anyway holds at a refusal
pub at-err : {X E : Type 0} (r : Result X E) (P : Type 0) → P → OnErr r P
at-err (Ok x) P h = tt
at-err (Err e) P h = h
