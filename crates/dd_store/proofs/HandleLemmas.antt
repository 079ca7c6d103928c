-- Counts of live handles that change at one number.
use Rattle.std.proofs.Common.{◌≡◌, ◌≢◌, ℕ, Bool, if◌then◌else◌, ◌==◌, ◌+◌, ◌-◌, ◌<◌, ◌≤◌, true, false, List, length, sum, None, is_some, Result, Ok, Err, IfOk, get_or, refl, ap, sym, ◌∙◌, subst, inl, inr, arith, get_or-set_other, get_or-set_same}
use Rattle.std.proofs.Math.ListN.{set, length-set}
use Rattle.std.proofs.lemmas.Grind.{get_or_default_zero}
use Rattle.std.proofs.lemmas.Bool.{cases_eq, cases_lt, eq-eqb, ne_eqb, true≢false}
use Rattle.std.proofs.lemmas.List.{get_or_past}
use Rattle.std.proofs.lemmas.List.Sums.{sum_by-set, get_or-le-sum_by}
use Rattle.std.specs.declared.alloc.AllocError.{AllocError}
use Rattle.dd_store.specs.Follow.{IsThere}
use Rattle.dd_store.specs.Table.{Table, row_of, handles_on, IsLive, IsSound, value_of}
use Rattle.dd_store.specs.Kept.{Index, IsKept}
use Rattle.dd_store.specs.Changes.{Grows}
use Rattle.dd_store.specs.Handles.{one_on, GainsHandle, LosesHandle}
use Rattle.dd_store.proofs.FollowLemmas.{follow-none}

-- the table with another count of handles on one number
abbrev pub with_count : Table → ℕ → ℕ → Table
with_count t n count = record t { counts = set t.counts n count }

-- a changed count changes the sum
sum-set : (xs : List ℕ) (i y : ℕ) → i < length xs → sum (set xs i y) + get_or xs i 0 ≡ sum xs + y
sum-set xs i y within = sum_by-set (λ x. x) xs i y 0 within

-- a count is within the sum
count-le-sum : (xs : List ℕ) (i : ℕ) → i < length xs → get_or xs i 0 ≤ sum xs
count-le-sum xs i within = get_or-le-sum_by (λ x. x) xs i 0 within

-- a number with a live handle has a count
pub live-within : (t : Table) (n : ℕ) → IsLive t n → n < length t.counts
live-within t n live =
    elim (cases_lt n (length t.counts)) [ inl inside ↦ inside | inr past ↦ absurd (let none = get_or_past t.counts n 0 past in omega arith) ]

-- a constant or a node has a count
pub there-within : (t : Table) (i : Index) (n : ℕ) → IsKept t i → IsThere (row_of t) n → n < length t.counts
there-within t i n kept there =
    elim (cases_lt n (length t.counts)) [
      | inl inside ↦ inside
      | inr past ↦
          let counted = kept.counted in
          let constants = kept.constants in
          let beyond : length t.slots ≤ n = omega arith in
          let none : row_of t n ≡ None = get_or_past t.slots n None beyond in
          absurd (true≢false (sym (there (omega arith)) ∙ ap is_some none))
    ]

-- a count that was read is the number of handles
read-count : (t : Table) (n x : ℕ) → n < length t.counts → x ≡ get_or t.counts n x → x ≡ handles_on t n
read-count t n x within read = read ∙ get_or_default_zero t.counts n x within

-- a count that changes at one number alone
one_on-same : (n m : ℕ) → m ≡ n → one_on n m ≡ 1
one_on-same n m same = rw (eq-eqb m n same) refl

pub one_on-other : (n m : ℕ) → m ≢ n → one_on n m ≡ 0
one_on-other n m other = rw (ne_eqb m n other) refl

-- what holds at n and elsewhere holds of each number
pub each-gain : (old new : ℕ → ℕ) (n : ℕ) → new n ≡ old n + 1 → ((m : ℕ) → m ≢ n → new m ≡ old m) → (m : ℕ) → new m ≡ old m + one_on n m
each-gain old new n gained others m = elim (cases_eq m n) [
  | inl same ↦ ap new same ∙ gained ∙ ap (λ k. old k + 1) (sym same) ∙ ap (λ k. old m + k) (sym (one_on-same n m same))
  | inr other ↦ (let same = others m other in let none = one_on-other n m other in omega arith)
]

-- one more handle
pub gains-handle : (t : Table) (n x : ℕ) → n < length t.counts → x ≡ get_or t.counts n x → GainsHandle t (with_count t n (x + 1)) n
gains-handle t n x within read =
    let is = read-count t n x within read in
    let same = get_or-set_same t.counts n (x + 1) 0 within in
    let total' = sum-set t.counts n (x + 1) within in
    let gained' : handles_on (with_count t n (x + 1)) n ≡ handles_on t n + 1 = omega arith in
    record {
      gained = gained';
      each = each-gain (handles_on t) (handles_on (with_count t n (x + 1))) n gained' (λ m other. get_or-set_other t.counts n m _ 0 other);
      total = omega arith;
    }

-- one handle less
pub loses-handle : (t : Table) (n x : ℕ) → IsLive t n → x ≡ get_or t.counts n x → LosesHandle t (with_count t n (x - 1)) n
loses-handle t n x live read =
    let within = live-within t n live in
    let is = read-count t n x within read in
    let same = get_or-set_same t.counts n (x - 1) 0 within in
    let total' = sum-set t.counts n (x - 1) within in
    let lost' : handles_on t n ≡ handles_on (with_count t n (x - 1)) n + 1 = omega arith in
    record {
      lost = sym lost';
      each = λ m. sym (each-gain (handles_on (with_count t n (x - 1))) (handles_on t) n lost' (λ m other. sym (get_or-set_other t.counts n m _ 0 other)) m);
      total = omega arith;
    }

-- the table is as sound with a count taken down
pub release-kept : (t : Table) (i : Index) (n x : ℕ) → IsKept t i → IsLive t n
    → x ≡ get_or t.counts n x → IsKept (with_count t n (x - 1)) (record i { live = i.live - 1 })
release-kept t i n x kept is_live read = record {
  sound = record {
    reduced = record { rows = kept.sound.reduced.rows; live = live' };
    numbered = kept.sound.numbered;
    has_numbers = kept.sound.has_numbers;
    few_variables = kept.sound.few_variables;
    within_budget = kept.sound.within_budget;
    enough = kept.sound.enough;
    not_too_much = kept.sound.not_too_much;
  };
  constants = kept.constants;
  counted = length-set t.counts n _ ∙ kept.counted;
  known = kept.known;
  unmarked = kept.unmarked;
  live_is = let loses = (loses-handle t n x is_live read).total in omega arith;
  leveled = kept.leveled;
  level_is = kept.level_is;
}
  where
    live' : (m : ℕ) → IsLive (with_count t n (x - 1)) m → IsThere (row_of t) m
    live' m after = elim (cases_eq m n) [
      | inl same ↦ subst (IsThere (row_of t)) (sym same) (kept.sound.reduced.live n is_live)
      | inr other ↦ kept.sound.reduced.live m (let before = get_or-set_other t.counts n m (x - 1) 0 other in omega arith)
    ]

-- another count changes the handles alone
pub grows-with_count : (t : Table) (n count : ℕ) → IsSound (with_count t n count) → Grows t (with_count t n count) 0
grows-with_count t n count sound = record {
  keeps = record {
    values = λ m a before after. refl;
    kept_alive = λ m before after k d within. refl;
    order = refl;
    budget = refl;
    sound = sound;
  };
  count = omega arith;
  rows = λ room m r is. is;
  none = λ no m. refl;
}

-- the value of a constant
pub value_of-constant : (t : Table) (b : Bool) (a : ℕ → Bool) → IsSound t → value_of t (if b then 1 else 0) a ≡ b
value_of-constant t true a sound = ap (λ n. n == 1) (follow-none t.order (row_of t) a 1 sound.reduced.rows.yes_is_constant)
value_of-constant t false a sound = ap (λ n. n == 1) (follow-none t.order (row_of t) a 0 sound.reduced.rows.no_is_constant)

-- a handle on a constant has the constant's value
pub constant-value : (r : Result ℕ AllocError) (t : Table) (b : Bool) → IsSound t → IfOk r (λ h. h ≡ (if b then 1 else 0))
    → IfOk r (λ h. (a : ℕ → Bool) → value_of t h a ≡ b)
constant-value (Ok h) t b sound place = λ a. ap (λ n. value_of t n a) place ∙ value_of-constant t b a sound
constant-value (Err e) t b sound place = tt
