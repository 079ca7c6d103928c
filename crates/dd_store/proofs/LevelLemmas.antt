-- How many nodes functions need at one level: more functions, and how many at most.
use Rattle.std.proofs.Common.{ℕ, suc, zero, ◌*◌, ◌^◌, ◌≤◌, Bool, true, false, cond, List, [], ◌∷◌, length, filter, slice_get, Option, Some, None, arith, length-append, suc-mul}
use native.Mathlib.Nat.{pow-suc}
use Rattle.std.specs.List.{flat_map}
use Rattle.std.specs.Set.{distinct_count}
use Rattle.std.proofs.lemmas.Map.Made.{distinct_count-le}
use Rattle.dd_store.specs.declared.row.Var.{Var}
use Rattle.dd_store.specs.Size.{Function, fixed, cofactors_at, alike, depends_on, dependent}
use Rattle.dd_store.specs.SizeLaws.{MoreIsNotSmallerAtLevels, LevelsAreBounded}
use Rattle.dd_store.proofs.AlikeLemmas.{alike-equivalence}
use Rattle.dd_store.proofs.SizeLemmas.{in_from, contains_from, count_more, filter_more}

-- more functions
pub more-at-levels : MoreIsNotSmallerAtLevels
more-at-levels order few more i has = by (slice_get order i)
  where
    by : (o : Option Var) → distinct_count (alike order) (dependent order o (flat_map (cofactors_at i order) few)) ≤ distinct_count (alike order) (dependent order o (flat_map (cofactors_at i order) more))
    by None = omega arith
    by (Some v) =
        count_more (alike-equivalence order) (dependent order (Some v) (flat_map (cofactors_at i order) few)) (dependent order (Some v) (flat_map (cofactors_at i order) more))
        (filter_more (depends_on order v.0) (cofactors_at i order) few more (λ f is. in_from f more (has f (contains_from f few is))))

-- by fixing so many variables there are no more than choices of them
few-at : (i : ℕ) (order : List Var) (f : Function) → length (cofactors_at i order f) ≤ 2 ^ i
few-at zero order f = omega arith
few-at (suc i) [] f = omega arith
few-at (suc i) (v ∷ vs) f =
    let low = few-at i vs (fixed f v.0 false) in
    let high = few-at i vs (fixed f v.0 true) in
    let both = length-append (cofactors_at i vs (fixed f v.0 false)) (cofactors_at i vs (fixed f v.0 true)) in
    let power = pow-suc 2 i in
    omega arith

few-all-at : (i : ℕ) (order : List Var) (fs : List Function) → length (flat_map (cofactors_at i order) fs) ≤ length fs * 2 ^ i
few-all-at i order [] = omega arith
few-all-at i order (f ∷ fs) =
    let one = few-at i order f in
    let rest = few-all-at i order fs in
    let both = length-append (cofactors_at i order f) (flat_map (cofactors_at i order) fs) in
    let more = suc-mul (length fs) (2 ^ i) in
    omega arith

fewer : (p : Function → Bool) (fs : List Function) → length (filter p fs) ≤ length fs
fewer p [] = omega arith
fewer p (f ∷ fs) = by (p f) (fewer p fs)
  where
    by : (b : Bool) → length (filter p fs) ≤ length fs → length (cond b (f ∷ filter p fs) (filter p fs)) ≤ suc (length fs)
    by true rest = omega arith
    by false rest = omega arith

pub levels-bounded : LevelsAreBounded
levels-bounded order fs i =
    let few = few-all-at i order fs in
    let different = distinct_count-le (alike order) (dependent order (slice_get order i) (flat_map (cofactors_at i order) fs)) in
    let some = depending (slice_get order i) in
    omega arith
  where
    depending : (o : Option Var) → length (dependent order o (flat_map (cofactors_at i order) fs)) ≤ length (flat_map (cofactors_at i order) fs)
    depending None = omega arith
    depending (Some v) = fewer (depends_on order v.0) (flat_map (cofactors_at i order) fs)
