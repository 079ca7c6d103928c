-- How many rows there are, when one is put or set.
use Rattle.std.proofs.Common.{◌≡◌, ℕ, Bool, true, false, ◌+◌, ◌<◌, ◌≤◌, cond, List, [], ◌∷◌, ◌++◌, length, Option, Some, None, is_some, get_or, zero, suc, nat_eq, refl, ap, arith}
use Rattle.std.proofs.Math.ListN.{set}
use Rattle.std.proofs.lemmas.Bool.{true≢false}
use Rattle.dd_store.specs.declared.row.Row.{Row}
use Rattle.dd_store.specs.Table.{rows_in}
use Rattle.dd_store.specs.Slots.{rows_testing}

-- what one row adds to the nodes of a variable
abbrev pub one_testing : ℕ → Row → ℕ
one_testing v r = cond (nat_eq r.var.0 v) 1 0

one-more : (b : Bool) (k : ℕ) → cond b (suc k) k ≡ k + cond b 1 0
one-more true k = omega arith
one-more false k = omega arith

moves-on : (b c : Bool) (k j : ℕ) → k ≡ j + cond b 1 0 → cond c (suc k) k ≡ cond c (suc j) j + cond b 1 0
moves-on b true k j is = omega arith
moves-on b false k j is = is

-- a row more at the end
pub rows_in-some : (xs : List (Option Row)) (r : Row) → rows_in (xs ++ Some r ∷ []) ≡ rows_in xs + 1
rows_in-some [] r = refl
rows_in-some (None ∷ xs) r = rows_in-some xs r
rows_in-some (Some s ∷ xs) r = let rest = rows_in-some xs r in omega arith

pub testing-some : (v : ℕ) (xs : List (Option Row)) (r : Row) → rows_testing v (xs ++ Some r ∷ []) ≡ rows_testing v xs + one_testing v r
testing-some v [] r = one-more (nat_eq r.var.0 v) 0
testing-some v (None ∷ xs) r = testing-some v xs r
testing-some v (Some s ∷ xs) r = moves-on (nat_eq r.var.0 v) (nat_eq s.var.0 v) _ _ (testing-some v xs r)

-- none more
pub rows_in-none : (xs : List (Option Row)) → rows_in (xs ++ None ∷ []) ≡ rows_in xs
rows_in-none [] = refl
rows_in-none (None ∷ xs) = rows_in-none xs
rows_in-none (Some s ∷ xs) = ap suc (rows_in-none xs)

pub testing-none : (v : ℕ) (xs : List (Option Row)) → rows_testing v (xs ++ None ∷ []) ≡ rows_testing v xs
testing-none v [] = refl
testing-none v (None ∷ xs) = testing-none v xs
testing-none v (Some s ∷ xs) = ap (λ k. cond (nat_eq s.var.0 v) (suc k) k) (testing-none v xs)

-- a row in a place where none was
some-none : (r : Row) → Some r ≡ None → ⊥
some-none r is = true≢false (ap is_some is)

pub rows_in-set : (xs : List (Option Row)) (n : ℕ) (r : Row) → n < length xs → get_or xs n None ≡ None → rows_in (set xs n (Some r)) ≡ rows_in xs + 1
rows_in-set [] n r within free = absurd (omega arith)
rows_in-set (None ∷ xs) zero r within free = omega arith
rows_in-set (Some s ∷ xs) zero r within free = absurd (some-none s free)
rows_in-set (None ∷ xs) (suc n) r within free = rows_in-set xs n r (omega arith) free
rows_in-set (Some s ∷ xs) (suc n) r within free = let rest = rows_in-set xs n r (omega arith) free in omega arith

pub testing-set : (v : ℕ) (xs : List (Option Row)) (n : ℕ) (r : Row) → n < length xs → get_or xs n None ≡ None → rows_testing v (set xs n (Some r)) ≡ rows_testing v xs + one_testing v r
testing-set v [] n r within free = absurd (omega arith)
testing-set v (None ∷ xs) zero r within free = one-more (nat_eq r.var.0 v) _
testing-set v (Some s ∷ xs) zero r within free = absurd (some-none s free)
testing-set v (None ∷ xs) (suc n) r within free = testing-set v xs n r (omega arith) free
testing-set v (Some s ∷ xs) (suc n) r within free = moves-on (nat_eq r.var.0 v) (nat_eq s.var.0 v) _ _ (testing-set v xs n r (omega arith) free)

-- bounds
pub testing-le : (v : ℕ) (xs : List (Option Row)) → rows_testing v xs ≤ rows_in xs
testing-le v [] = omega arith
testing-le v (None ∷ xs) = testing-le v xs
testing-le v (Some s ∷ xs) = by (nat_eq s.var.0 v) (testing-le v xs)
  where
    by : (b : Bool) → rows_testing v xs ≤ rows_in xs → cond b (suc (rows_testing v xs)) (rows_testing v xs) ≤ suc (rows_in xs)
    by true rest = omega arith
    by false rest = omega arith

pub rows_in-le : (xs : List (Option Row)) → rows_in xs ≤ length xs
rows_in-le [] = omega arith
rows_in-le (None ∷ xs) = let rest = rows_in-le xs in omega arith
rows_in-le (Some s ∷ xs) = let rest = rows_in-le xs in omega arith

pub two-less : (xs : List (Option Row)) → 2 ≤ length xs → get_or xs 0 None ≡ None → get_or xs 1 None ≡ None → rows_in xs + 2 ≤ length xs
two-less [] two a b = absurd (omega arith)
two-less (x ∷ []) two a b = absurd (omega arith)
two-less (None ∷ None ∷ xs) two a b = let rest = rows_in-le xs in omega arith
two-less (None ∷ Some s ∷ xs) two a b = absurd (some-none s b)
two-less (Some s ∷ y ∷ xs) two a b = absurd (some-none s a)

-- where there are fewer rows than places, one is free
free-place : (xs : List (Option Row)) → rows_in xs < length xs → (n : ℕ) × (n < length xs) × (get_or xs n None ≡ None)
free-place [] less = absurd (omega arith)
free-place (None ∷ xs) less = (0, omega arith, refl)
free-place (Some s ∷ xs) less = let rest = free-place xs (omega arith) in (suc rest.0, omega (arith, rest.1), rest.2)

pub free-there : (xs : List (Option Row)) → 2 ≤ length xs → get_or xs 0 None ≡ None → get_or xs 1 None ≡ None → rows_in xs + 2 < length xs
    → (n : ℕ) × (2 ≤ n) × (n < length xs) × (get_or xs n None ≡ None)
free-there [] two a b less = absurd (omega arith)
free-there (x ∷ []) two a b less = absurd (omega arith)
free-there (None ∷ None ∷ xs) two a b less = let rest = free-place xs (omega arith) in (suc (suc rest.0), omega arith, omega (arith, rest.1), rest.2)
free-there (None ∷ Some s ∷ xs) two a b less = absurd (some-none s b)
free-there (Some s ∷ y ∷ xs) two a b less = absurd (some-none s a)
