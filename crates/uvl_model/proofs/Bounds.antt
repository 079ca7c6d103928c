-- How large numbers are by what they are made of.
use Rattle.std.proofs.Common.{◌≡◌, ℕ, ◌+◌, ◌*◌, ◌^◌, ◌<◌, ◌≤◌, sym, ap, ◌∙◌, subst, arith, lit<, lit≤}
use Rattle.std.specs.Prelude.{ℤ, pos, negsuc, ◌+ℤ◌, ◌-ℤ◌, ◌*ℤ◌}
use Rattle.std.specs.Int.RustNames.{FitsSigned, unsigned_abs}
use Rattle.uvl_base.specs.Number.{InRange}
use Rattle.std.proofs.Math.Nat.{mul-le-mul_left, mul-le-mul_right, mul_comm, mul_assoc}
use Rattle.std.proofs.lemmas.Int.{fits_signed_from_abs, ints, to_z-of_z, unsigned_abs-mul}
use mir.Val.{of_z, to_z}
use mir.Syntax.{w128}
use Rattle.uvl_model.specs.declared.numbers.Amount.{Amount}
use Rattle.uvl_model.specs.Amounts.{IsMadeOf, IsWithin, added, most_terms, multiplied, simple_amount, subtracted}

pub within_zero : (m : ℕ) → IsWithin m (pos 0)
within_zero m = record { low = omega (arith, ints); high = omega (arith, ints) }

pub within_more : (m n : ℕ) (z : ℤ) → m ≤ n → IsWithin m z → IsWithin n z
within_more m n z h is = record { low = omega (arith, ints, is.low, h); high = omega (arith, ints, is.high, h) }

pub within_add : (m n : ℕ) (a b : ℤ) → IsWithin m a → IsWithin n b → IsWithin (m + n) (a +ℤ b)
within_add m n a b h k = record { low = omega (arith, ints, h.low, k.low); high = omega (arith, ints, h.high, k.high) }

within_subtract : (m n : ℕ) (a b : ℤ) → IsWithin m a → IsWithin n b → IsWithin (m + n) (a -ℤ b)
within_subtract m n a b h k = record { low = omega (arith, ints, h.low, k.high); high = omega (arith, ints, h.high, k.low) }

abs_within : (m : ℕ) (z : ℤ) → IsWithin m z → unsigned_abs z ≤ m
abs_within m (pos n) is = omega (arith, ints, is.high)
abs_within m (negsuc n) is = omega (arith, ints, is.low)

pub within_abs : (m : ℕ) (z : ℤ) → unsigned_abs z ≤ m → IsWithin m z
within_abs m (pos n) h = record { low = omega (arith, ints, h); high = omega (arith, ints, h) }
within_abs m (negsuc n) h = record { low = omega (arith, ints, h); high = omega (arith, ints, h) }

both_at_most : (a b m n : ℕ) → a ≤ m → b ≤ n → a * b ≤ m * n
both_at_most a b m n h k = le_trans (a * b) (a * n) (m * n) (mul-le-mul_left a k) (mul-le-mul_right n h)
  where
    le_trans : (x y z : ℕ) → x ≤ y → y ≤ z → x ≤ z
    le_trans x y z p q = omega arith

within_product : (m n : ℕ) (a b : ℤ) → IsWithin m a → IsWithin n b → IsWithin (m * n) (a *ℤ b)
within_product m n a b h k =
    within_abs (m * n) (a *ℤ b)
    (subst (λ (x : ℕ). x ≤ m * n) (sym (unsigned_abs-mul a b)) (both_at_most (unsigned_abs a) (unsigned_abs b) m n (abs_within m a h) (abs_within n b k)))

-- of more terms
pub scaled : (unit a b : ℕ) (z : ℤ) → a ≤ b → IsWithin (a * unit) z → IsWithin (b * unit) z
scaled unit a b z h is = within_more (a * unit) (b * unit) z (mul-le-mul_right unit h) is

share : (unit a b : ℕ) → a * unit + b * unit ≡ (a + b) * unit
share unit a b = omega arith

pub made_more : (a b : ℕ) (x : Amount) → a ≤ b → IsMadeOf a x → IsMadeOf b x
made_more a b x h is = record {
  plain = scaled (10 ^ 18) a b x.plain h is.plain;
  value = scaled (10 ^ 30) a b x.value h is.value;
}

pub made_added : (a b : ℕ) (x y : Amount) → IsMadeOf a x → IsMadeOf b y → IsMadeOf (a + b) (added x y)
made_added a b x y h k = record {
  plain = subst (λ (m : ℕ). IsWithin m (x.plain +ℤ y.plain)) (share (10 ^ 18) a b) (within_add (a * 10 ^ 18) (b * 10 ^ 18) x.plain y.plain h.plain k.plain);
  value = subst (λ (m : ℕ). IsWithin m (x.value +ℤ y.value)) (share (10 ^ 30) a b) (within_add (a * 10 ^ 30) (b * 10 ^ 30) x.value y.value h.value k.value);
}

pub made_subtracted : (a b : ℕ) (x y : Amount) → IsMadeOf a x → IsMadeOf b y → IsMadeOf (a + b) (subtracted x y)
made_subtracted a b x y h k = record {
  plain = subst (λ (m : ℕ). IsWithin m (x.plain -ℤ y.plain)) (share (10 ^ 18) a b) (within_subtract (a * 10 ^ 18) (b * 10 ^ 18) x.plain y.plain h.plain k.plain);
  value = subst (λ (m : ℕ). IsWithin m (x.value -ℤ y.value)) (share (10 ^ 30) a b) (within_subtract (a * 10 ^ 30) (b * 10 ^ 30) x.value y.value h.value k.value);
}

pub made_of_nothing : (x : Amount) → x.plain ≡ pos 0 → x.value ≡ pos 0 → IsMadeOf 0 x
made_of_nothing x e f = record {
  plain = subst (λ (z : ℤ). IsWithin (0 * 10 ^ 18) z) (sym e) (within_zero (0 * 10 ^ 18));
  value = subst (λ (z : ℤ). IsWithin (0 * 10 ^ 30) z) (sym f) (within_zero (0 * 10 ^ 30));
}

-- so many units of one size are fewer than of a larger one
smaller_unit : (a u v : ℕ) → u ≤ v → a * u ≤ a * v
smaller_unit a u v h = mul-le-mul_left a h

pub made_simple : (a : ℕ) (z : ℤ) → IsWithin (a * 10 ^ 18) z → IsMadeOf a (simple_amount z)
made_simple a z is = record {
  plain = is;
  value = within_more (a * 10 ^ 18 * 1000000) (a * 10 ^ 30) (z *ℤ pos 1000000)
      (subst (λ (m : ℕ). m ≤ a * 10 ^ 30) (sym (mul_assoc a (10 ^ 18) 1000000)) (smaller_unit a (10 ^ 24) (10 ^ 30) (lit≤ tt)))
      (within_product (a * 10 ^ 18) 1000000 z (pos 1000000) is (within_more 1000000 1000000 (pos 1000000) (lit≤ tt) (within_abs 1000000 (pos 1000000) (lit≤ tt))));
}

factor_out : (b : ℕ) → 10 ^ 12 * (b * 10 ^ 18) ≡ b * 10 ^ 30
factor_out b = mul_comm (10 ^ 12) (b * 10 ^ 18) ∙ mul_assoc b (10 ^ 18) (10 ^ 12)

-- a product of a small factor
pub product_left : (b : ℕ) (x y : ℤ) → IsWithin (10 ^ 12) x → IsWithin (b * 10 ^ 18) y → IsWithin (b * 10 ^ 30) (x *ℤ y)
product_left b x y h k = subst (λ (m : ℕ). IsWithin m (x *ℤ y)) (factor_out b) (within_product (10 ^ 12) (b * 10 ^ 18) x y h k)

pub product_right : (a : ℕ) (x y : ℤ) → IsWithin (a * 10 ^ 18) x → IsWithin (10 ^ 12) y → IsWithin (a * 10 ^ 30) (x *ℤ y)
product_right a x y h k = subst (λ (m : ℕ). IsWithin m (x *ℤ y)) (mul_assoc a (10 ^ 18) (10 ^ 12)) (within_product (a * 10 ^ 18) (10 ^ 12) x y h k)

pub made_multiplied : (a : ℕ) (x y : Amount) → IsWithin (a * 10 ^ 30) (x.plain *ℤ y.plain) → IsMadeOf a (multiplied x y)
made_multiplied a x y is = record { plain = within_zero (a * 10 ^ 18); value = is }

-- the numbers of a rule fit 128 bits
pub value_fits : (z : ℤ) → IsWithin (most_terms * 10 ^ 30) z → FitsSigned w128 z
value_fits z is = fits_signed_from_abs w128 z (below (unsigned_abs z) (most_terms * 10 ^ 30) (2 ^ 127) (abs_within (most_terms * 10 ^ 30) z is) (lit< tt))
  where
    below : (x y z : ℕ) → x ≤ y → y < z → x < z
    below x y z p q = omega arith

pub plain_fits : (z : ℤ) → IsWithin (most_terms * 10 ^ 18) z → FitsSigned w128 z
plain_fits z is = value_fits z (within_more (most_terms * 10 ^ 18) (most_terms * 10 ^ 30) z (lit≤ tt) is)

-- a sum and a difference that fit are exact
pub sum_exact : (a b : ℤ) → FitsSigned w128 a → FitsSigned w128 b → FitsSigned w128 (a +ℤ b)
    → to_z w128 (of_z w128 (to_z w128 (of_z w128 a) +ℤ to_z w128 (of_z w128 b))) ≡ a +ℤ b
sum_exact a b f g h =
    ap (λ (z : ℤ). to_z w128 (of_z w128 (z +ℤ to_z w128 (of_z w128 b)))) (to_z-of_z w128 a f)
    ∙ ap (λ (z : ℤ). to_z w128 (of_z w128 (a +ℤ z))) (to_z-of_z w128 b g)
    ∙ to_z-of_z w128 (a +ℤ b) h

pub difference_exact : (a b : ℤ) → FitsSigned w128 a → FitsSigned w128 b → FitsSigned w128 (a -ℤ b)
    → to_z w128 (of_z w128 (to_z w128 (of_z w128 a) -ℤ to_z w128 (of_z w128 b))) ≡ a -ℤ b
difference_exact a b f g h =
    ap (λ (z : ℤ). to_z w128 (of_z w128 (z -ℤ to_z w128 (of_z w128 b)))) (to_z-of_z w128 a f)
    ∙ ap (λ (z : ℤ). to_z w128 (of_z w128 (a -ℤ z))) (to_z-of_z w128 b g)
    ∙ to_z-of_z w128 (a -ℤ b) h

-- a number as it is written is below 10^18 millionths
pub range_within : (z : ℤ) → InRange z → IsWithin (10 ^ 18) z
range_within z h = record { low = omega (arith, ints, h.0); high = omega (arith, ints, h.1) }

-- a number of a call that fits is exact
pub exact : (z : ℤ) → FitsSigned w128 z → to_z w128 (of_z w128 z) ≡ z
exact z f = to_z-of_z w128 z f

pub simple_is : {x : ℤ} (a : Amount) (z : ℤ) → a ≡ simple_amount x → x ≡ z → a ≡ simple_amount z
simple_is a z e f = e ∙ ap simple_amount f
