-- The three ways in which a comparison is constant.
use Rattle.std.proofs.Common.{◌≡◌, ◌^◌, ℤ, pos, ◌+ℤ◌, ◌-ℤ◌, ◌≤ℤ◌, ◌<ℤ◌, Bool, true, false, arith}
use Rattle.std.specs.Prelude.{int_le}
use Rattle.std.proofs.lemmas.Bool.{and_from, and_left, and_right}
use Rattle.std.proofs.lemmas.Int.{ints}
use Rattle.uvl_sums.specs.Settled.{AreSmall, Settles}
use Rattle.uvl_sums.specs.Steps.{meets}

at-most : (s t g : ℤ) → (s +ℤ g) ≤ℤ pos 0 → t ≤ℤ g → int_le (s +ℤ t) (pos 0) ≡ true
at-most s t g sum less = grind (arith, ints)

above : (s t l : ℤ) → pos 0 <ℤ (s +ℤ l) → l ≤ℤ t → int_le (s +ℤ t) (pos 0) ≡ false
above s t l sum more = grind (arith, ints)

at-least : (s t l : ℤ) → pos 0 ≤ℤ (s +ℤ l) → l ≤ℤ t → int_le (pos 0) (s +ℤ t) ≡ true
at-least s t l sum more = grind (arith, ints)

below : (s t g : ℤ) → (s +ℤ g) <ℤ pos 0 → t ≤ℤ g → int_le (pos 0) (s +ℤ t) ≡ false
below s t g sum less = grind (arith, ints)

-- the sum can't get above 0
pub never-above : (so_far least greatest low high : ℤ) → AreSmall so_far least greatest → (so_far +ℤ greatest) ≤ℤ pos 0
    → low ≡ pos 0 -ℤ pos (2 ^ 126) → high ≡ pos 0 -ℤ greatest
    → Settles false so_far least greatest (record { value = true; least = low; greatest = high })
never-above so_far least greatest low high small sum low_is high_is = record {
  now = record { from = omega (arith, ints); upto = omega (arith, ints) };
  interval = record { from = omega (arith, ints); upto = omega (arith, ints) };
  same = λ s t i j. at-most s t greatest (let top = i.upto in omega (arith, ints)) j.upto;
}

-- it can't get down to 0
pub always-above : (so_far least greatest low high : ℤ) (exact : Bool) → AreSmall so_far least greatest → pos 0 <ℤ (so_far +ℤ least)
    → low ≡ pos 1 -ℤ least → high ≡ pos (2 ^ 126)
    → Settles exact so_far least greatest (record { value = false; least = low; greatest = high })
always-above so_far least greatest low high exact small sum low_is high_is = record {
  now = record { from = omega (arith, ints); upto = omega (arith, ints) };
  interval = record { from = omega (arith, ints); upto = omega (arith, ints) };
  same = λ s t i j. by exact s t (above s t least (let bottom = i.from in omega (arith, ints)) j.from);
}
  where
    by : (e : Bool) (s t : ℤ) → int_le (s +ℤ t) (pos 0) ≡ false → meets e (s +ℤ t) ≡ false
    by true s t is = and_left (int_le (s +ℤ t) (pos 0)) (int_le (pos 0) (s +ℤ t)) is
    by false s t is = is

-- it can't get up to 0
pub always-below : (so_far least greatest low high : ℤ) → AreSmall so_far least greatest → (so_far +ℤ greatest) <ℤ pos 0
    → low ≡ pos 0 -ℤ pos (2 ^ 126) → (high +ℤ greatest) <ℤ pos 0 → so_far ≤ℤ high → high ≤ℤ pos (2 ^ 126)
    → Settles true so_far least greatest (record { value = false; least = low; greatest = high })
always-below so_far least greatest low high small sum low_is high_is here top = record {
  now = record { from = omega (arith, ints); upto = here };
  interval = record { from = omega (arith, ints); upto = top };
  same = λ s t i j. and_right (int_le (s +ℤ t) (pos 0)) (int_le (pos 0) (s +ℤ t)) (below s t greatest (let upper = i.upto in omega (arith, ints)) j.upto);
}

-- nothing is left to bring, and the sum is 0
pub is-zero : (so_far least greatest low : ℤ) → AreSmall so_far least greatest → least ≡ greatest → pos 0 ≤ℤ (so_far +ℤ greatest) → (so_far +ℤ least) ≤ℤ pos 0
    → low ≡ pos 0 -ℤ least
    → Settles true so_far least greatest (record { value = true; least = low; greatest = low })
is-zero so_far least greatest low small one from upto low_is = record {
  now = record { from = omega (arith, ints); upto = omega (arith, ints) };
  interval = record { from = omega (arith, ints); upto = omega (arith, ints) };
  same = λ s t i j.
      and_from (int_le (s +ℤ t) (pos 0)) (int_le (pos 0) (s +ℤ t))
      (at-most s t greatest (let top = i.upto in omega (arith, ints)) j.upto)
      (at-least s t least (let bottom = i.from in omega (arith, ints)) j.from);
}
