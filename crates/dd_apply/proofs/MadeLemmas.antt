-- No node leaves over the steps of an operation but where the table is full.
use Rattle.std.proofs.Common.{◌≡◌, ◌≢◌, ◌⊎◌, ◌==◌, ℕ, zero, suc, ◌≤◌, Bool, true, false, if◌then◌else◌, List, [], ◌∷◌, Option, Some, None, IsSome, is_some, Result, Ok, Err, IfOk, OnErr, get_or, length, ◌+◌, refl, ap, sym, ◌∙◌, subst, inl, inr, arith}
use Rattle.std.specs.List.{Contains}
use Rattle.std.proofs.lemmas.Bool.{cases_lt, cases_eq, eq-eqb, ne_eqb, true≢false}
use Rattle.std.proofs.lemmas.List.{get_or_past}
use Rattle.dd_store.specs.declared.row.Row.{Row}
use Rattle.dd_store.specs.declared.row.Var.{Var}
use Rattle.dd_store.specs.declared.refusal.Refusal.{Refusal}
use Rattle.dd_store.specs.Changes.{Keeps, KeepsRows, Grows, IsFullFor}
use Rattle.dd_store.specs.Exhausted.{IsPartialResult, value_at}
use Rattle.dd_store.specs.Follow.{IsThere, end_of, value_in}
use Rattle.dd_store.specs.Size.{Function, cofactors}
use Rattle.dd_store.specs.Table.{Table, row_of, row_with, node_count, value_of, IsSound, IsVariable, IsAbove}
use Rattle.dd_store.proofs.AddLemmas.{CanTake, Adds, reduced-add, value-add, value-new, there-still}
use Rattle.dd_store.proofs.Canonical.{canonical}
use Rattle.dd_store.proofs.CofactorLemmas.{own-cofactor, cofactors-compose}
use Rattle.dd_store.proofs.FollowLemmas.{follow-same}
use Rattle.dd_apply.specs.Made.{Makes, WasFull, StaysUnlessFull}
use Rattle.dd_apply.specs.Split.{fork}
use Rattle.dd_apply.proofs.HeldLemmas.{constant-row}

-- what is there keeps its row where no node leaves
row-kept : (t u : Table) → IsSound t → IsSound u → KeepsRows t u → (n : ℕ) → IsThere (row_of t) n → row_of u n ≡ row_of t n
row-kept t u sound sound' rows n there = elim (cases_lt n 2) [
  | inl small ↦ constant-row u sound' n small ∙ sym (constant-row t sound n small)
  | inr large ↦ node (row_of t n) refl (there large)
]
  where
    node : (o : Option Row) → row_of t n ≡ o → IsSome o → row_of u n ≡ row_of t n
    node None e none = absurd (true≢false (sym none))
    node (Some r) e some = rows n r e ∙ sym e

-- and its value
value-stays : (t u : Table) → IsSound t → IsSound u → KeepsRows t u → u.order ≡ t.order → (n : ℕ) → IsThere (row_of t) n → value_at u n ≡ value_at t n
value-stays t u sound sound' rows order n there =
    ap (λ (vs : List Var). let f : (ℕ → Bool) → Bool = λ a. value_in vs (row_of u) a n in f) order
    ∙ (λ j a. ap (λ (m : ℕ). m == 1) (follow-same t.order (row_of t) (row_of u) a (row-kept t u sound sound' rows) (λ m s b is. sound.reduced.rows.ends_there m s b is) n there) j)

-- a node is there
row-there : (t : Table) (n : ℕ) (r : Row) → row_of t n ≡ Some r → IsThere (row_of t) n
row-there t n r is = λ large. ap is_some is

-- no new node
pub makes-none : (t u : Table) (f : Function) → ((n : ℕ) → row_of u n ≡ row_of t n) → Makes t u f
makes-none t u f same = record { rows = λ n r is. same n ∙ is; made = λ n r is. inl (sym (same n) ∙ is) }

-- partial results of a part are partial results of the whole
partial-part : (t u : Table) (f g : Function) → u.order ≡ t.order → Contains (cofactors t.order f) g → (n : ℕ) → IsPartialResult u g n → IsPartialResult u f n
partial-part t u f g order of n is = cofactors-compose u.order f g (value_at u n) (subst (λ (vs : List Var). Contains (cofactors vs f) g) (sym order) of) is

makes-part : (t u : Table) (f g : Function) → u.order ≡ t.order → Contains (cofactors t.order f) g → Makes t u g → Makes t u f
makes-part t u f g order of makes = record {
  rows = makes.rows;
  made = λ n r is. elim (makes.made n r is) [
    | inl old ↦ inl old
    | inr part ↦ inr (partial-part t u f g order of n part)
  ];
}

-- one step after another
makes-then : (t u w : Table) (f : Function) → IsSound u → IsSound w → w.order ≡ u.order → Makes t u f → Makes u w f → Makes t w f
makes-then t u w f sound sound' order one two = record {
  rows = λ n r is. two.rows n r (one.rows n r is);
  made = λ n r is. elim (two.made n r is) [
    | inr part ↦ inr part
    | inl old ↦ elim (one.made n r old) [
      | inl first ↦ inl first
      | inr part ↦ inr (
          subst (λ (vs : List Var). Contains (cofactors vs f) (value_at w n)) (sym order)
          (subst (λ (g : Function). Contains (cofactors u.order f) g) (sym (value-stays u w sound sound' two.rows order n (row-there u n r old))) part)
          )
    ]
  ];
}

full-part : (t : Table) (f g : Function) → Contains (cofactors t.order f) g → WasFull t g → WasFull t f
full-part t f g of was = record {
  moment = was.moment;
  sound = was.sound;
  order = was.order;
  budget = was.budget;
  makes = makes-part t was.moment f g was.order of was.makes;
  full = was.full;
  lacking = was.lacking;
  needed = cofactors-compose was.moment.order f g was.lacking (subst (λ (vs : List Var). Contains (cofactors vs f) g) (sym was.order) of) was.needed;
  absent = was.absent;
}

full-behind : (t u : Table) (f : Function) → IsSound u → u.order ≡ t.order → u.budget ≡ t.budget → Makes t u f → WasFull u f → WasFull t f
full-behind t u f sound order budget makes was = record {
  moment = was.moment;
  sound = was.sound;
  order = was.order ∙ order;
  budget = was.budget ∙ budget;
  makes = makes-then t u was.moment f sound was.sound was.order makes was.makes;
  full = was.full;
  lacking = was.lacking;
  needed = was.needed;
  absent = was.absent;
}

-- the same of both
pub stays-part : (t u : Table) (f g : Function) → Keeps t u → Contains (cofactors t.order f) g → StaysUnlessFull t u g → StaysUnlessFull t u f
stays-part t u f g keeps of (inl makes) = inl (makes-part t u f g keeps.order of makes)
stays-part t u f g keeps of (inr was) = inr (full-part t f g of was)

pub stays-then : (t u w : Table) (f : Function) → Keeps t u → Keeps u w → StaysUnlessFull t u f → StaysUnlessFull u w f → StaysUnlessFull t w f
stays-then t u w f one two (inr was) next = inr was
stays-then t u w f one two (inl makes) (inl next) = inl (makes-then t u w f one.sound two.sound two.order makes next)
stays-then t u w f one two (inl makes) (inr was) = inr (full-behind t u f one.sound one.order one.budget makes was)

-- where handles alone change
pub stays-handles : (t u w : Table) (f : Function) → Grows u w 0 → IsSound u → StaysUnlessFull t u f → StaysUnlessFull t w f
stays-handles t u w f grows sound (inr was) = inr was
stays-handles t u w f grows sound (inl makes) =
    inl (makes-then t u w f sound grows.keeps.sound grows.keeps.order makes (makes-none u w f (grows.none refl)))

-- whether a node of the table has the row
same-row : (r s : Row) → (r ≡ s) ⊎ (r ≢ s)
same-row r s = elim (cases_eq r.var.0 s.var.0) [
  | inr other ↦ inr (λ is. other (ap (λ (x : Row). x.var.0) is))
  | inl var ↦ elim (cases_eq r.low.0 s.low.0) [
    | inr other ↦ inr (λ is. other (ap (λ (x : Row). x.low.0) is))
    | inl low ↦ elim (cases_eq r.high.0 s.high.0) [
      | inr other ↦ inr (λ is. other (ap (λ (x : Row). x.high.0) is))
      | inl high ↦ inl (ap (λ (v : ℕ). row_with v r.low.0 r.high.0) var ∙ ap (λ (l : ℕ). row_with s.var.0 l r.high.0) low ∙ ap (λ (h : ℕ). row_with s.var.0 s.low.0 h) high)
    ]
  ]
]

has-row : (slots : List (Option Row)) (r : Row) → ((n : ℕ) × (get_or slots n None ≡ Some r)) ⊎ ((n : ℕ) → get_or slots n None ≢ Some r)
has-row [] r = inr (λ n is. true≢false (sym (ap is_some is)))
has-row (o ∷ slots) r = by o (has-row slots r)
  where
    by : (p : Option Row) → ((n : ℕ) × (get_or slots n None ≡ Some r)) ⊎ ((n : ℕ) → get_or slots n None ≢ Some r)
        → ((n : ℕ) × (get_or (p ∷ slots) n None ≡ Some r)) ⊎ ((n : ℕ) → get_or (p ∷ slots) n None ≢ Some r)
    by p (inl (n, is)) = inl (suc n, is)
    by None (inr none) = inr absent
      where
        absent : (n : ℕ) → get_or (None ∷ slots) n None ≢ Some r
        absent zero is = true≢false (sym (ap is_some is))
        absent (suc n) is = none n is
    by (Some s) (inr none) = elim (same-row s r) [
      | inl same ↦ inl (0, ap Some same)
      | inr other ↦ inr (absent other)
    ]
      where
        absent : (s ≢ r) → (n : ℕ) → get_or (Some s ∷ slots) n None ≢ Some r
        absent other zero is = other (let both : Some s ≡ Some r = is in cc)
        absent other (suc n) is = none n is

full-or-not : (t : Table) (r : Row) → IsFullFor t r ⊎ (IsFullFor t r → ⊥)
full-or-not t r = elim (cases_eq r.low.0 r.high.0) [
  | inl same ↦ inr (λ full. full.differ same)
  | inr differ ↦ elim (cases_eq (node_count t) t.budget) [
    | inr room ↦ inr (λ full. room full.full)
    | inl full ↦ elim (has-row t.slots r) [
      | inl (n, is) ↦ inr (λ all. all.absent n is)
      | inr absent ↦ inl (record { differ = differ; full = full; absent = absent })
    ]
  ]
]

-- rows with one more under the number k
abbrev with_row : (ℕ → Option Row) → ℕ → Row → ℕ → Option Row
with_row rows k r n = if n == k then Some r else rows n

with-adds : (rows : ℕ → Option Row) (k : ℕ) (r : Row) → rows k ≡ None → 2 ≤ k → Adds rows (with_row rows k r) k r
with-adds rows k r free large = record {
  free = free;
  no_constant = large;
  added = ap (λ (b : Bool). if b then Some r else rows k) (eq-eqb k k refl);
  others = λ n other. ap (λ (b : Bool). if b then Some r else rows n) (ne_eqb n k other);
}

-- no constant and no node has the value that a node with an absent row would have
no-value : (t : Table) (r : Row) → IsSound t → CanTake t.order (row_of t) r → (n : ℕ) → IsThere (row_of t) n
    → value_at t n ≢ fork r.var.0 (value_at t r.low.0) (value_at t r.high.0)
no-value t r sound can n there is =
    let next = length t.slots + 2 in
    let rows' = with_row (row_of t) next r in
    let free : row_of t next ≡ None = get_or_past t.slots next None (omega arith) in
    let adds = with-adds (row_of t) next r free (omega arith) in
    let reduced = reduced-add t.order (row_of t) rows' next r sound.reduced.rows can adds in
    let same : n ≡ next = canonical t.order rows' reduced n next (there-still (row_of t) rows' next r adds n there) (λ large. ap is_some adds.added)
    (λ a. value-add t.order (row_of t) rows' next r sound.reduced.rows adds a n there ∙ ap (λ (f : Function). f a) is
    ∙ sym (value-new t.order (row_of t) rows' next r sound.reduced.rows can adds a)) in
    let some = there (omega arith) in
    true≢false (sym some ∙ ap is_some (ap (row_of t) same ∙ free))

-- a node that is had
module _ (t u : Table) (v low high : ℕ) (sound : IsSound t) (keeps : Keeps t u) (variable : IsVariable t v) (low_there : IsThere (row_of t) low) (high_there : IsThere (row_of t) high)
    (above_low : IsAbove t v low) (above_high : IsAbove t v high) where
  abbrev row : Row
  row = row_with v low high

  abbrev asked : Function
  asked = fork v (value_at t low) (value_at t high)

  can : IsFullFor t row → CanTake t.order (row_of t) row
  can full = record { variable = variable; ends_there = there; above = above; differ = full.differ; absent = full.absent }
    where
      there : (b : Bool) → IsThere (row_of t) (end_of row b)
      there true = high_there
      there false = low_there

      above : (b : Bool) → IsAbove t v (end_of row b)
      above true = above_high
      above false = above_low

  made-node : (h : ℕ) → KeepsRows t u → value_at u h ≡ asked → ((n : ℕ) → n ≢ h → row_of u n ≡ row_of t n) → Makes t u asked
  made-node h rows value others = record {
    rows = rows;
    made = λ n r is. elim (cases_eq n h) [
      | inl same ↦ inr (subst (λ (f : Function). Contains (cofactors u.order asked) f) (sym (ap (value_at u) same ∙ value)) (own-cofactor u.order asked))
      | inr other ↦ inl (sym (others n other) ∙ is)
    ];
  }

  pub stays-node : (result : Result ℕ Refusal) → ((IsFullFor t row → ⊥) → KeepsRows t u)
      → ((IsFullFor t row → ⊥) → IfOk result (λ h. (n : ℕ) → n ≢ h → row_of u n ≡ row_of t n))
      → ((IsFullFor t row → ⊥) → OnErr result (Grows t u 0))
      → IfOk result (λ h. (a : ℕ → Bool) → value_of u h a ≡ (if a v then value_of t high a else value_of t low a)) → StaysUnlessFull t u asked
  stays-node result rows others no_more value = elim (full-or-not t row) [
    | inl full ↦ inr (record {
      moment = t;
      sound = sound;
      order = refl;
      budget = refl;
      makes = makes-none t t asked (λ n. refl);
      full = full.full;
      lacking = asked;
      needed = own-cofactor t.order asked;
      absent = no-value t row sound (can full);
    })
    | inr room ↦ inl (by result (others room) (no_more room) value (rows room))
  ]
    where
      by : (result : Result ℕ Refusal) → IfOk result (λ h. (n : ℕ) → n ≢ h → row_of u n ≡ row_of t n) → OnErr result (Grows t u 0)
          → IfOk result (λ h. (a : ℕ → Bool) → value_of u h a ≡ (if a v then value_of t high a else value_of t low a)) → KeepsRows t u → Makes t u asked
      by (Ok h) others no_more value rows = made-node h rows (λ j a. value a j) others
      by (Err r) others no_more value rows = makes-none t u asked (no_more.none refl)
