-- What a sound table says of a number: where it stands, its ends, and whether its value is that of another one.
use Rattle.std.proofs.Common.{◌≡◌, ℕ, Bool, if◌then◌else◌, ◌==◌, ◌-◌, ◌<◌, ◌≤◌, suc, true, false, cond, List, [], ◌∷◌, length, Option, Some, None, IsTrue, ◌↔◌, is_some, refl, ap, sym, ◌∙◌, inl, inr, arith}
use Rattle.std.proofs.lemmas.Bool.{cases_lt, cases_eq, eqb-true, eq-eqb, true≢false}
use Rattle.std.proofs.lemmas.List.{get_or_past}
use Rattle.dd_store.specs.declared.row.Row.{Row}
use Rattle.dd_store.specs.declared.row.Var.{Var}
use Rattle.dd_store.specs.Order.{level_in, level_of_row}
use Rattle.dd_store.specs.Follow.{end_of, IsThere}
use Rattle.dd_store.specs.Table.{Table, row_of, value_of, top_of, level_of, IsLive, IsSound, HasEnds, HaveSameValues}
use Rattle.dd_store.proofs.FollowLemmas.{follow-none, follow-node}
use Rattle.dd_store.proofs.Canonical.{canonical}

-- a constant or a node has a slot
pub slot-within : (t : Table) (n : ℕ) → 2 ≤ length t.slots → IsThere (row_of t) n → n < length t.slots
slot-within t n constants there =
    elim (cases_lt n (length t.slots)) [
      | inl inside ↦ inside
      | inr past ↦
          let none : row_of t n ≡ None = get_or_past t.slots n None past in
          absurd (true≢false (sym (there (omega arith)) ∙ ap is_some none))
    ]

-- a number without a row is a constant
pub constant-none : (t : Table) (n : ℕ) → IsThere (row_of t) n → row_of t n ≡ None → n < 2
constant-none t n there none =
    elim (cases_lt n 2) [ inl inside ↦ inside | inr past ↦ absurd (true≢false (sym (there past) ∙ ap is_some none)) ]

-- a constant has no row
pub none-constant : (t : Table) (n : ℕ) → IsSound t → n < 2 → row_of t n ≡ None
none-constant t n sound small =
    elim (cases_eq n 0) [
      | inl is ↦ rw is sound.reduced.rows.no_is_constant
      | inr other ↦
          let is : n ≡ 1 = omega arith in
          rw is sound.reduced.rows.yes_is_constant
    ]

-- a level is at most the number of variables
pub level_in-≤ : (order : List Var) (v : ℕ) → level_in order v ≤ length order
level_in-≤ [] v = omega arith
level_in-≤ (w ∷ ws) v = by (w.0 == v) (level_in-≤ ws v)
  where
    by : (t : Bool) → level_in ws v ≤ length ws → cond t 0 (suc (level_in ws v)) ≤ suc (length ws)
    by true rest = omega arith
    by false rest = omega arith

pub top_of-≤ : (t : Table) (n : ℕ) → top_of t n ≤ length t.order
top_of-≤ t n = by (row_of t n)
  where
    by : (o : Option Row) → level_of_row t.order o ≤ length t.order
    by None = omega arith
    by (Some r) = level_in-≤ t.order r.var.0

-- one step of the way that an assignment takes from a node
pub record Takes (t : Table) (a : ℕ → Bool) (n m : ℕ) : Type 0 where
  pub there : IsThere (row_of t) m
  pub value : value_of t m a ≡ value_of t n a
  pub lower : length t.order - top_of t m < length t.order - top_of t n

pub takes : (t : Table) (a : ℕ → Bool) (n : ℕ) (r : Row) → IsSound t → row_of t n ≡ Some r → Takes t a n (end_of r (a r.var.0))
takes t a n r sound is =
    let rows = sound.reduced.rows in
    let inside = rows.tested n r is in
    let below = rows.ends_below n r (a r.var.0) is in
    let top : top_of t n ≡ level_of t r.var.0 = ap (level_of_row t.order) is in
    let most = top_of-≤ t (end_of r (a r.var.0)) in
    record {
      there = rows.ends_there n r (a r.var.0) is;
      value = ap (λ m. m == 1) (sym (follow-node t.order (row_of t) a n r is inside below));
      lower = omega arith;
    }

-- the value of a number without a row
pub value_of-none : (t : Table) (a : ℕ → Bool) (n : ℕ) → row_of t n ≡ None → value_of t n a ≡ (n == 1)
value_of-none t a n none = ap (λ m. m == 1) (follow-none t.order (row_of t) a n none)

-- what a row says of its node
pub has-ends : (t : Table) (n : ℕ) (r : Row) → IsSound t → row_of t n ≡ Some r → HasEnds t n r.var.0 r.low.0 r.high.0
has-ends t n r sound is =
    let rows = sound.reduced.rows in
    record {
      row = is;
      value = λ a. sym (takes t a n r sound is).value ∙ by a (a r.var.0);
      variable = rows.tested n r is;
      low_there = rows.ends_there n r false is;
      high_there = rows.ends_there n r true is;
      above_low = rows.ends_below n r false is;
      above_high = rows.ends_below n r true is;
      differ = rows.ends_differ n r is;
    }
  where
    by : (a : ℕ → Bool) (b : Bool) → value_of t (end_of r b) a ≡ (if b then value_of t r.high.0 a else value_of t r.low.0 a)
    by a true = refl
    by a false = refl

-- live handles of one value stand on one number
pub same-place : (t : Table) (m n : ℕ) → IsSound t → IsLive t m → IsLive t n → HaveSameValues t m n → m ≡ n
same-place t m n sound live_m live_n same =
    canonical t.order (row_of t) sound.reduced.rows m n (sound.reduced.live m live_m) (sound.reduced.live n live_n) same

-- a live handle of one value for all assignments stands on the constant of that value
pub constant-place : (t : Table) (n : ℕ) (b : Bool) → IsSound t → IsLive t n → ((a : ℕ → Bool) → value_of t n a ≡ b) → n ≡ (if b then 1 else 0)
constant-place t n b sound live same =
    canonical t.order (row_of t) sound.reduced.rows n _ (sound.reduced.live n live) (there b) (λ a. same a ∙ sym (value b a))
  where
    there : (b : Bool) → IsThere (row_of t) (if b then 1 else 0)
    there true = λ large. absurd (omega arith)
    there false = λ large. absurd (omega arith)

    value : (b : Bool) (a : ℕ → Bool) → value_of t (if b then 1 else 0) a ≡ b
    value true a = value_of-none t a 1 sound.reduced.rows.yes_is_constant
    value false a = value_of-none t a 0 sound.reduced.rows.no_is_constant

-- handles of which it was tested whether they stand on one number
pub same-decided : (t : Table) (m n : ℕ) (r : Bool) → IsSound t → IsLive t m → IsLive t n → r ≡ (m == n) → IsTrue r ↔ HaveSameValues t m n
same-decided t m n r sound live_m live_n tested = (forth, back)
  where
    forth : IsTrue r → HaveSameValues t m n
    forth true' = λ a. ap (λ k. value_of t k a) (eqb-true m n (sym tested ∙ true'))

    back : HaveSameValues t m n → IsTrue r
    back same = tested ∙ eq-eqb m n (same-place t m n sound live_m live_n same)

-- a node's value isn't one for all assignments
pub node-varies : (t : Table) (n : ℕ) (r : Row) (b : Bool) → IsSound t → IsLive t n → row_of t n ≡ Some r → ((a : ℕ → Bool) → value_of t n a ≡ b) → ⊥
node-varies t n r b sound live is same =
    true≢false (ap is_some (sym is ∙ ap (row_of t) (constant-place t n b sound live same) ∙ none b))
  where
    none : (b : Bool) → row_of t (if b then 1 else 0) ≡ None
    none true = sound.reduced.rows.yes_is_constant
    none false = sound.reduced.rows.no_is_constant
