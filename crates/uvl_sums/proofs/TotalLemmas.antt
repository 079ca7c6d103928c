-- Totals of terms: where a variable has no say, what fixing one makes of them, and between which bounds they lie.
use Rattle.std.proofs.Common.{◌≡◌, ◌==◌, ℕ, suc, ◌+◌, ◌^◌, ◌<◌, ◌≤◌, ℤ, pos, negsuc, ◌+ℤ◌, ◌-ℤ◌, ◌≤ℤ◌, Bool, true, false, if◌then◌else◌, List, [], ◌∷◌, refl, ap, sym, ◌∙◌, subst, arith}
use Rattle.std.specs.Prelude.{◌-◌, unsigned_abs, FitsSigned}
use mir.Syntax.{w128}
use Rattle.std.specs.Int.{int_min, int_max}
use Rattle.std.specs.List.{Contains}
use Rattle.std.proofs.lemmas.Bool.{eq-eqb, ne_eqb}
use Rattle.std.proofs.lemmas.Int.{ints, clamps, fits_signed_from_abs}
use Rattle.std.proofs.lemmas.List.Sums.{sum_by-cons}
use Rattle.dd_store.specs.declared.row.Var.{Var}
use Rattle.dd_store.specs.Follow.{with_value}
use Rattle.dd_store.specs.Order.{level_in, IsIn}
use Rattle.dd_store.specs.Size.{Function, fixed, cofactors}
use Rattle.dd_store.specs.SizeLaws.{IsFreeOf}
use Rattle.dd_store.proofs.CofactorLemmas.{fixed-cofactor}
use Rattle.dd_apply.specs.Split.{fork}
use Rattle.dd_count.specs.Levels.{IsFallingFrom}
use Rattle.uvl_sums.specs.Settled.{IsBetween, AreSmall}
use Rattle.uvl_sums.specs.Steps.{levels_of, least_total, greatest_total, meets, remaining, IsSmall}
use Rattle.uvl_sums.specs.Sums.{Term, total, size_of}

-- what a term adds
abbrev added : Bool → ℤ → ℤ
added b w = if b then w else pos 0

-- a variable above all terms has no say
total-above : (order : List Var) (first : ℕ) (terms : List Term) → IsFallingFrom first (levels_of order terms) → (w : ℕ) → level_in order w < first
    → (a : ℕ → Bool) (b : Bool) → total terms (with_value a w b) ≡ total terms a
total-above order first [] falling w above a b = refl
total-above order first (t ∷ ts) falling w above a b =
    let lower = falling.0 in
    let none : (t.0.0 == w) ≡ false = ne_eqb t.0.0 w (λ same. let both = ap (level_in order) same in omega arith) in
    ap (λ (p : Bool). added (if p then b else a t.0.0) t.1 +ℤ total ts (with_value a w b)) none
    ∙ ap (λ (z : ℤ). added (a t.0.0) t.1 +ℤ z) (total-above order (suc (level_in order t.0.0)) ts falling.1 w (omega arith) a b)

pub remaining-free : (order : List Var) (first : ℕ) (exact : Bool) (terms : List Term) (s : ℤ) → IsFallingFrom first (levels_of order terms)
    → (w : ℕ) → level_in order w < first → IsFreeOf w (remaining exact terms s)
remaining-free order first exact terms s falling w above a b = ap (λ (z : ℤ). meets exact (s +ℤ z)) (total-above order first terms falling w above a b)

move-one : (s w t : ℤ) → (s +ℤ (w +ℤ t)) ≡ ((s +ℤ w) +ℤ t)
move-one s w t = omega (arith, ints)

move-none : (s t : ℤ) → (s +ℤ (pos 0 +ℤ t)) ≡ (s +ℤ t)
move-none s t = omega (arith, ints)

module _ (order : List Var) (first : ℕ) (exact : Bool) (t : Term) (ts : List Term) (s : ℤ) (falling : IsFallingFrom first (levels_of order (t ∷ ts))) where
  total-fixed : (a : ℕ → Bool) (b : Bool) → total (t ∷ ts) (with_value a t.0.0 b) ≡ (added b t.1 +ℤ total ts a)
  total-fixed a b =
      ap (λ (p : Bool). added (if p then b else a t.0.0) t.1 +ℤ total ts (with_value a t.0.0 b)) (eq-eqb t.0.0 t.0.0 refl)
      ∙ ap (λ (z : ℤ). added b t.1 +ℤ z) (total-above order (suc (level_in order t.0.0)) ts falling.1 t.0.0 (omega arith) a b)

  -- with the first variable false the sum so far stays, and with it true its weight is added
  fixed-false : fixed (remaining exact (t ∷ ts) s) t.0.0 false ≡ remaining exact ts s
  fixed-false = λ j a. (ap (λ (z : ℤ). meets exact (s +ℤ z)) (total-fixed a false) ∙ ap (meets exact) (move-none s (total ts a))) j

  fixed-true : fixed (remaining exact (t ∷ ts) s) t.0.0 true ≡ remaining exact ts (s +ℤ t.1)
  fixed-true = λ j a. (ap (λ (z : ℤ). meets exact (s +ℤ z)) (total-fixed a true) ∙ ap (meets exact) (move-one s t.1 (total ts a))) j

  cofactor : (b : Bool) → IsIn order t.0.0 → Contains (cofactors order (remaining exact (t ∷ ts) s)) (fixed (remaining exact (t ∷ ts) s) t.0.0 b)
  cofactor b inside =
      fixed-cofactor order (remaining exact (t ∷ ts) s) t.0.0 b inside
      (λ w above. remaining-free order (level_in order t.0.0) exact (t ∷ ts) s ((omega arith), falling.1) w above)

  -- so both are partial results
  pub low-cofactor : IsIn order t.0.0 → Contains (cofactors order (remaining exact (t ∷ ts) s)) (remaining exact ts s)
  low-cofactor inside = subst (λ (f : Function). Contains (cofactors order (remaining exact (t ∷ ts) s)) f) fixed-false (cofactor false inside)

  pub high-cofactor : IsIn order t.0.0 → Contains (cofactors order (remaining exact (t ∷ ts) s)) (remaining exact ts (s +ℤ t.1))
  high-cofactor inside = subst (λ (f : Function). Contains (cofactors order (remaining exact (t ∷ ts) s)) f) fixed-true (cofactor true inside)

-- and their fork is the whole
pub remaining-fork : (exact : Bool) (t : Term) (ts : List Term) (s : ℤ)
    → fork t.0.0 (remaining exact ts s) (remaining exact ts (s +ℤ t.1)) ≡ remaining exact (t ∷ ts) s
remaining-fork exact t ts s = λ j a. by (a t.0.0) (total ts a) j
  where
    by : (b : Bool) (z : ℤ) → (if b then meets exact ((s +ℤ t.1) +ℤ z) else meets exact (s +ℤ z)) ≡ meets exact (s +ℤ (added b t.1 +ℤ z))
    by true z = ap (meets exact) (sym (move-one s t.1 z))
    by false z = ap (meets exact) (sym (move-none s z))

-- a total lies between the least and the greatest
added-between : (b : Bool) (w z l g : ℤ) → IsBetween l z g → IsBetween (l +ℤ int_min w (pos 0)) (added b w +ℤ z) (g +ℤ int_max w (pos 0))
added-between true w z l g between = record { from = omega (arith, ints, clamps); upto = omega (arith, ints, clamps) }
added-between false w z l g between = record { from = omega (arith, ints, clamps); upto = omega (arith, ints, clamps) }

pub total-between : (terms : List Term) (a : ℕ → Bool) → IsBetween (least_total terms) (total terms a) (greatest_total terms)
total-between [] a = record { from = omega (arith, ints); upto = omega (arith, ints) }
total-between (t ∷ ts) a = added-between (a t.0.0) t.1 (total ts a) (least_total ts) (greatest_total ts) (total-between ts a)

-- a number lies between its size and the opposite
pub record IsOfSize (z : ℤ) (n : ℕ) : Type 0 where
  pub from : (pos 0 -ℤ pos n) ≤ℤ z
  pub upto : z ≤ℤ pos n

pub own-size : (z : ℤ) → IsOfSize z (unsigned_abs z)
own-size (pos n) = record { from = omega (arith, ints); upto = omega (arith, ints) }
own-size (negsuc n) = record { from = omega (arith, ints); upto = omega (arith, ints) }

pub size-most : (z : ℤ) (n : ℕ) → IsOfSize z n → unsigned_abs z ≤ n
size-most (pos m) n is = let top = is.upto in omega (arith, ints)
size-most (negsuc m) n is = let bottom = is.from in omega (arith, ints)

pub sum-size : (y z : ℤ) → unsigned_abs (y +ℤ z) ≤ unsigned_abs y + unsigned_abs z
sum-size y z =
    let one = own-size y in
    let two = own-size z in
    size-most (y +ℤ z) (unsigned_abs y + unsigned_abs z) (record { from = omega (arith, ints); upto = omega (arith, ints) })

-- the bounds are no further away than the sizes
pub record AreBounds (least greatest : ℤ) (size : ℕ) : Type 0 where
  pub from : (pos 0 -ℤ pos size) ≤ℤ least
  pub least_is : least ≤ℤ pos 0
  pub greatest_is : pos 0 ≤ℤ greatest
  pub upto : greatest ≤ℤ pos size

more-bounds : (w l g : ℤ) (n m : ℕ) → m ≡ unsigned_abs w + n → AreBounds l g n → AreBounds (l +ℤ int_min w (pos 0)) (g +ℤ int_max w (pos 0)) m
more-bounds w l g n m is rest =
    let one = own-size w in
    record {
      from = omega (arith, ints, clamps);
      least_is = omega (arith, ints, clamps);
      greatest_is = omega (arith, ints, clamps);
      upto = omega (arith, ints, clamps);
    }

pub size-cons : (t : Term) (ts : List Term) → size_of (t ∷ ts) ≡ unsigned_abs t.1 + size_of ts
size-cons t ts = sum_by-cons (λ (u : Term). unsigned_abs u.1) t ts

pub bounds-are : (terms : List Term) → AreBounds (least_total terms) (greatest_total terms) (size_of terms)
bounds-are [] = record { from = omega (arith, ints); least_is = omega (arith, ints); greatest_is = omega (arith, ints); upto = omega (arith, ints) }
bounds-are (t ∷ ts) = more-bounds t.1 (least_total ts) (greatest_total ts) (size_of ts) (size_of (t ∷ ts)) (size-cons t ts) (bounds-are ts)

-- small sums and bounds
small-sums : (s l g : ℤ) (n : ℕ) → AreBounds l g n → unsigned_abs s + n ≤ 2 ^ 126 → n < 2 ^ 126 → AreSmall s l g
small-sums s l g n bounds small size =
    let one = own-size s in
    record {
      least_small = omega (arith, ints);
      least_is = bounds.least_is;
      greatest_is = bounds.greatest_is;
      greatest_small = omega (arith, ints);
      from = omega (arith, ints);
      upto = omega (arith, ints);
    }

pub are-small : (terms : List Term) (s : ℤ) → IsSmall terms s → size_of terms < 2 ^ 126 → AreSmall s (least_total terms) (greatest_total terms)
are-small terms s small size = small-sums s (least_total terms) (greatest_total terms) (size_of terms) (bounds-are terms) small size

-- and so are those behind the first term
pub small-low : (t : Term) (ts : List Term) (s : ℤ) → IsSmall (t ∷ ts) s → IsSmall ts s
small-low t ts s small = let size = size-cons t ts in omega arith

pub small-high : (t : Term) (ts : List Term) (s : ℤ) → IsSmall (t ∷ ts) s → IsSmall ts (s +ℤ t.1)
small-high t ts s small = let size = size-cons t ts in let both = sum-size s t.1 in omega arith

-- what is no further from 0 fits
pub fits-small : (z : ℤ) → (pos 0 -ℤ pos (2 ^ 126)) ≤ℤ z → z ≤ℤ pos (2 ^ 126) → FitsSigned w128 z
fits-small z from upto = fits_signed_from_abs w128 z (let size = size-most z (2 ^ 126) (record { from = from; upto = upto }) in omega arith)

pub fits-wide : (z : ℤ) → (pos 0 -ℤ pos (2 ^ 127 - 1)) ≤ℤ z → z ≤ℤ pos (2 ^ 127 - 1) → FitsSigned w128 z
fits-wide z from upto = fits_signed_from_abs w128 z (let size = size-most z (2 ^ 127 - 1) (record { from = from; upto = upto }) in omega arith)
