-- Laws of products of numbers.
use Rattle.std.proofs.Common.{◌≡◌, zero, suc, refl, sym, ap, ◌∙◌, subst, arith}
use Rattle.std.specs.Prelude.{ℤ, pos, negsuc, ◌+ℤ◌, ◌-ℤ◌, ◌*ℤ◌}
use Rattle.std.proofs.lemmas.Int.{ints}
use Rattle.std.proofs.Math.IntN.{suc_ℤ, pred_ℤ, suc_ℤ-*ℤ, pred_ℤ-*ℤ, *ℤ_comm, zero-*ℤ}

suc_is : (z : ℤ) → z +ℤ pos 1 ≡ suc_ℤ z
suc_is (pos n) = omega (arith, ints)
suc_is (negsuc zero) = refl
suc_is (negsuc (suc n)) = omega (arith, ints)

pred_is : (z : ℤ) → z -ℤ pos 1 ≡ pred_ℤ z
pred_is (pos zero) = refl
pred_is (pos (suc n)) = omega (arith, ints)
pred_is (negsuc n) = omega (arith, ints)

one_more : (z k : ℤ) → (z +ℤ pos 1) *ℤ k ≡ z *ℤ k +ℤ k
one_more z k = ap (λ (x : ℤ). x *ℤ k) (suc_is z) ∙ suc_ℤ-*ℤ z k

one_less : (z k : ℤ) → (z -ℤ pos 1) *ℤ k ≡ z *ℤ k -ℤ k
one_less z k = ap (λ (x : ℤ). x *ℤ k) (pred_is z) ∙ pred_ℤ-*ℤ z k

-- a law of a number holds of each where it holds of 0 and goes from each to the next one and to the one before
pub each_number : (P : ℤ → Type 0) → P (pos 0) → ((z : ℤ) → P z → P (z +ℤ pos 1)) → ((z : ℤ) → P z → P (z -ℤ pos 1)) → (z : ℤ) → P z
each_number P here up down (pos zero) = here
each_number P here up down (pos (suc n)) =
    let is : pos n +ℤ pos 1 ≡ pos (suc n) = omega (arith, ints) in
    subst P is (up (pos n) (each_number P here up down (pos n)))
each_number P here up down (negsuc zero) = down (pos 0) here
each_number P here up down (negsuc (suc n)) =
    let is : negsuc n -ℤ pos 1 ≡ negsuc (suc n) = omega (arith, ints) in
    subst P is (down (negsuc n) (each_number P here up down (negsuc n)))

sum_begins : (b x y : ℤ) → x ≡ y → (o : ℤ) → o ≡ pos 0 → x ≡ o +ℤ y
sum_begins b x y e o f = omega (arith, ints, e, f)

sum_up : (p q r k x : ℤ) → p ≡ q +ℤ r → x ≡ p +ℤ k → x ≡ (q +ℤ k) +ℤ r
sum_up p q r k x e f = omega (arith, ints, e, f)

sum_down : (p q r k x : ℤ) → p ≡ q +ℤ r → x ≡ p -ℤ k → x ≡ (q -ℤ k) +ℤ r
sum_down p q r k x e f = omega (arith, ints, e, f)

-- a sum, times a number
pub sum_times : (a b k : ℤ) → (a +ℤ b) *ℤ k ≡ a *ℤ k +ℤ b *ℤ k
sum_times a b k =
    each_number (λ (z : ℤ). (z +ℤ b) *ℤ k ≡ z *ℤ k +ℤ b *ℤ k)
    (let is : pos 0 +ℤ b ≡ b = omega (arith, ints) in sum_begins b ((pos 0 +ℤ b) *ℤ k) (b *ℤ k) (ap (λ (x : ℤ). x *ℤ k) is) (pos 0 *ℤ k) (zero-*ℤ k))
    (λ z e.
    let is : (z +ℤ pos 1) +ℤ b ≡ (z +ℤ b) +ℤ pos 1 = omega (arith, ints) in
    sum_up ((z +ℤ b) *ℤ k) (z *ℤ k) (b *ℤ k) k (((z +ℤ pos 1) +ℤ b) *ℤ k) e (ap (λ (x : ℤ). x *ℤ k) is ∙ one_more (z +ℤ b) k)
    ∙ ap (λ (x : ℤ). x +ℤ b *ℤ k) (sym (one_more z k)))
    (λ z e.
    let is : (z -ℤ pos 1) +ℤ b ≡ (z +ℤ b) -ℤ pos 1 = omega (arith, ints) in
    sum_down ((z +ℤ b) *ℤ k) (z *ℤ k) (b *ℤ k) k (((z -ℤ pos 1) +ℤ b) *ℤ k) e (ap (λ (x : ℤ). x *ℤ k) is ∙ one_less (z +ℤ b) k)
    ∙ ap (λ (x : ℤ). x +ℤ b *ℤ k) (sym (one_less z k)))
    a

-- so many times a sum
pub times_sum : (k a b : ℤ) → k *ℤ (a +ℤ b) ≡ k *ℤ a +ℤ k *ℤ b
times_sum k a b =
    *ℤ_comm k (a +ℤ b) ∙ sum_times a b k ∙ ap (λ (x : ℤ). x +ℤ b *ℤ k) (*ℤ_comm a k) ∙ ap (λ (x : ℤ). k *ℤ a +ℤ x) (*ℤ_comm b k)

-- the opposite, as a difference
opposite_is : (x y : ℤ) → x +ℤ y ≡ pos 0 → y ≡ pos 0 -ℤ x
opposite_is x y e = omega (arith, ints, e)

pub opposite_times : (a k : ℤ) → (pos 0 -ℤ a) *ℤ k ≡ pos 0 -ℤ a *ℤ k
opposite_times a k =
    let is : a +ℤ (pos 0 -ℤ a) ≡ pos 0 = omega (arith, ints) in
    opposite_is (a *ℤ k) ((pos 0 -ℤ a) *ℤ k) (sym (sum_times a (pos 0 -ℤ a) k) ∙ ap (λ (x : ℤ). x *ℤ k) is ∙ zero-*ℤ k)

difference_is : (x y z w : ℤ) → x ≡ y +ℤ z → z ≡ pos 0 -ℤ w → x ≡ y -ℤ w
difference_is x y z w e f = omega (arith, ints, e, f)

-- so many times a difference
pub times_difference : (k a b : ℤ) → k *ℤ (a -ℤ b) ≡ k *ℤ a -ℤ k *ℤ b
times_difference k a b =
    let is : a -ℤ b ≡ a +ℤ (pos 0 -ℤ b) = omega (arith, ints) in
    difference_is (k *ℤ (a -ℤ b)) (k *ℤ a) (k *ℤ (pos 0 -ℤ b)) (k *ℤ b) (ap (λ (x : ℤ). k *ℤ x) is ∙ times_sum k a (pos 0 -ℤ b))
    (*ℤ_comm k (pos 0 -ℤ b) ∙ opposite_times b k ∙ ap (λ (x : ℤ). pos 0 -ℤ x) (*ℤ_comm b k))

-- products group in any way
pub times_times : (a b c : ℤ) → (a *ℤ b) *ℤ c ≡ a *ℤ (b *ℤ c)
times_times a b c =
    each_number (λ (z : ℤ). (z *ℤ b) *ℤ c ≡ z *ℤ (b *ℤ c))
    (ap (λ (x : ℤ). x *ℤ c) (zero-*ℤ b) ∙ zero-*ℤ c ∙ sym (zero-*ℤ (b *ℤ c)))
    (λ z e.
    ap (λ (x : ℤ). x *ℤ c) (one_more z b) ∙ sum_times (z *ℤ b) b c ∙ ap (λ (x : ℤ). x +ℤ b *ℤ c) e ∙ sym (one_more z (b *ℤ c)))
    (λ z e.
    ap (λ (x : ℤ). x *ℤ c) (one_less z b) ∙ difference_times (z *ℤ b) b c ∙ ap (λ (x : ℤ). x -ℤ b *ℤ c) e ∙ sym (one_less z (b *ℤ c)))
    a
  where
    difference_times : (x y k : ℤ) → (x -ℤ y) *ℤ k ≡ x *ℤ k -ℤ y *ℤ k
    difference_times x y k = *ℤ_comm (x -ℤ y) k ∙ times_difference k x y ∙ ap (λ (w : ℤ). w -ℤ k *ℤ y) (*ℤ_comm k x) ∙ ap (λ (w : ℤ). x *ℤ k -ℤ w) (*ℤ_comm k y)
