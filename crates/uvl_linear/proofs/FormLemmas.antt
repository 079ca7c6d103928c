-- What is added to a form, and that its numbers fit 128 bits.
use Rattle.std.proofs.Common.{◌≡◌, ℕ, zero, suc, ◌+◌, ◌*◌, ◌^◌, ◌<◌, ◌≤◌, Bool, true, false, List, [], ◌∷◌, length, set, get_or, replicate, refl, sym, ap, ◌∙◌, subst, arith, lit<}
use Rattle.std.specs.Prelude.{ℤ, pos, negsuc, ◌+ℤ◌, ◌-ℤ◌, ◌≤ℤ◌, unsigned_abs, FitsSigned}
use Rattle.std.specs.List.{sum_by}
use Rattle.std.proofs.Math.Nat.{mul-le-mul_right}
use Rattle.std.proofs.lemmas.Int.{fits_signed_from_abs, ints}
use Rattle.std.proofs.lemmas.List.{length-set}
use Rattle.std.proofs.lemmas.List.Sums.{sum_by-set, get_or-le-sum_by}
use mir.Syntax.{w128}
use mir.Val.{of_z, to_z}
use Rattle.uvl_linear.specs.declared.form.LinearForm.{LinearForm}
use Rattle.uvl_linear.specs.Forms.{Adds, HasRoom, form_value, largest_form, largest_term, marked_weight, size_of_form}
use Rattle.uvl_model.specs.Amounts.{counted}
use Rattle.uvl_model.specs.Check.{is_marked}
use Rattle.uvl_model.specs.Spelling.{numbered}
use Rattle.uvl_model.proofs.Bounds.{sum_exact}

-- ---- sizes

-- a number lies between its size and the opposite
pub record IsOfSize (z : ℤ) (n : ℕ) : Type 0 where
  pub from : (pos 0 -ℤ pos n) ≤ℤ z
  pub upto : z ≤ℤ pos n

own_size : (z : ℤ) → IsOfSize z (unsigned_abs z)
own_size (pos n) = record { from = omega (arith, ints); upto = omega (arith, ints) }
own_size (negsuc n) = record { from = omega (arith, ints); upto = omega (arith, ints) }

pub size_most : (z : ℤ) (n : ℕ) → IsOfSize z n → unsigned_abs z ≤ n
size_most (pos m) n is = let top = is.upto in omega (arith, ints)
size_most (negsuc m) n is = let bottom = is.from in omega (arith, ints)

pub sum_size : (y z : ℤ) → unsigned_abs (y +ℤ z) ≤ unsigned_abs y + unsigned_abs z
sum_size y z =
    let one = own_size y in
    let two = own_size z in
    size_most (y +ℤ z) (unsigned_abs y + unsigned_abs z) (record { from = omega (arith, ints); upto = omega (arith, ints) })

pub opposite_size : (z : ℤ) → unsigned_abs (pos 0 -ℤ z) ≤ unsigned_abs z
opposite_size z = let own = own_size z in size_most (pos 0 -ℤ z) (unsigned_abs z) (record { from = omega (arith, ints); upto = omega (arith, ints) })

-- so small a number fits 128 bits
pub fits : (z : ℤ) → unsigned_abs z ≤ largest_form → FitsSigned w128 z
fits z h = fits_signed_from_abs w128 z (below (unsigned_abs z) largest_form (2 ^ 127) h (lit< tt))
  where
    below : (x y z : ℕ) → x ≤ y → y < z → x < z
    below x y z p q = omega arith

-- ---- values

pub unmarked : (b : Bool) → counted b (pos 0) ≡ pos 0
unmarked true = refl
unmarked false = refl

pub counted_sum : (b : Bool) (x y : ℤ) → counted b (x +ℤ y) ≡ counted b x +ℤ counted b y
counted_sum true x y = refl
counted_sum false x y = omega (arith, ints)

moved : (w x y z : ℤ) → w ≡ x +ℤ y → w +ℤ z ≡ (x +ℤ z) +ℤ y
moved w x y z e = omega (arith, ints, e)

-- weights that are all 0 add nothing
pub none_weigh : (marks : List Bool) (n : ℕ) → marked_weight marks (replicate n (pos 0)) ≡ pos 0
none_weigh [] n = refl
none_weigh (mark ∷ marks) zero = refl
none_weigh (mark ∷ marks) (suc n) =
    ap (λ (z : ℤ). z +ℤ marked_weight marks (replicate n (pos 0))) (unmarked mark) ∙ ap (λ (z : ℤ). pos 0 +ℤ z) (none_weigh marks n)

-- what is added to a weight counts where its feature is marked
more_weight : (marks : List Bool) (weights : List ℤ) (k : ℕ) (w v x : ℤ) → k < length weights → w ≡ get_or weights k w → v ≡ w +ℤ x
    → marked_weight marks (set weights k v) ≡ marked_weight marks weights +ℤ counted (is_marked marks (numbered k)) x
more_weight [] weights k w v x inside is sum = omega (arith, ints)
more_weight (mark ∷ marks) [] k w v x inside is sum = absurd (omega arith)
more_weight (mark ∷ marks) (weight ∷ weights) zero w v x inside is sum =
    let more : counted mark v ≡ counted mark weight +ℤ counted mark x = ap (counted mark) (sum ∙ ap (λ (z : ℤ). z +ℤ x) is) ∙ counted_sum mark weight x in
    moved (counted mark v) (counted mark weight) (counted mark x) (marked_weight marks weights) more
more_weight (mark ∷ marks) (weight ∷ weights) (suc k) w v x inside is sum =
    let rest = more_weight marks weights k w v x (omega arith) is sum in
    ap (λ (z : ℤ). counted mark weight +ℤ z) rest
    ∙ grouped (counted mark weight) (marked_weight marks weights) (counted (is_marked marks (numbered k)) x)
  where
    grouped : (x y z : ℤ) → x +ℤ (y +ℤ z) ≡ (x +ℤ y) +ℤ z
    grouped x y z = omega (arith, ints)

-- a weight is no larger than the form
pub weight_size : (form : LinearForm) (k : ℕ) (w : ℤ) → k < length form.weights.items → w ≡ get_or form.weights.items k w → unsigned_abs w ≤ size_of_form form
weight_size form k w inside is =
    let one = get_or-le-sum_by (λ (z : ℤ). unsigned_abs z) form.weights.items k w inside in
    let same : unsigned_abs w ≡ unsigned_abs (get_or form.weights.items k w) = ap unsigned_abs is in
    omega arith

grouped : (c x y z : ℤ) → z ≡ x +ℤ y → c +ℤ z ≡ (c +ℤ x) +ℤ y
grouped c x y z e = omega (arith, ints, e)

pub adds_weight : (old new : LinearForm) (k : ℕ) (w v x : ℤ) → new.constant ≡ old.constant → new.weights.items ≡ set old.weights.items k v
    → k < length old.weights.items → w ≡ get_or old.weights.items k w → v ≡ w +ℤ x → unsigned_abs x ≤ largest_term
    → Adds old new 1 (λ marks. counted (is_marked marks (numbered k)) x)
adds_weight old new k w v x same is inside read sum small = record {
  value = λ marks. ap (λ (z : ℤ). z +ℤ marked_weight marks new.weights.items) same
      ∙ ap (λ (zs : List ℤ). old.constant +ℤ marked_weight marks zs) is
      ∙ grouped old.constant (marked_weight marks old.weights.items) (counted (is_marked marks (numbered k)) x) (marked_weight marks (set old.weights.items k v))
      (more_weight marks old.weights.items k w v x inside read sum);
  size = sized;
  count = ap length is ∙ length-set old.weights.items k v;
}
  where
    size : ℤ → ℕ
    size z = unsigned_abs z

    sized : size_of_form new ≤ size_of_form old + 1 * largest_term
    sized =
        let change = sum_by-set size old.weights.items k v w inside in
        let one : size w ≡ size (get_or old.weights.items k w) = ap size read in
        let two : size v ≤ size w + size x = subst (λ (z : ℤ). size z ≤ size w + size x) (sym sum) (sum_size w x) in
        let three : size_of_form new ≡ size old.constant + sum_by size (set old.weights.items k v) =
        ap (λ (z : ℤ). size z + sum_by size new.weights.items) same ∙ ap (λ (zs : List ℤ). size old.constant + sum_by size zs) is in
        omega (arith, change, one, two, three, small)

-- the sum that the code computes is exact
pub sum_is : (form : LinearForm) (k : ℕ) (w x : ℤ) → HasRoom form 1 → k < length form.weights.items → w ≡ get_or form.weights.items k w → unsigned_abs x ≤ largest_term
    → to_z w128 (of_z w128 (to_z w128 (of_z w128 w) +ℤ to_z w128 (of_z w128 x))) ≡ w +ℤ x
sum_is form k w x room inside read small =
    let one = weight_size form k w inside read in
    let both = sum_size w x in
    sum_exact w x (fits w (omega (arith, one, room))) (fits x (omega (arith, small, room))) (fits (w +ℤ x) (omega (arith, one, both, small, room)))

-- what is added may be said in another way
pub adds_same : (old new : LinearForm) (terms : ℕ) (more other : List Bool → ℤ) → ((marks : List Bool) → more marks ≡ other marks)
    → Adds old new terms more → Adds old new terms other
adds_same old new terms more other same is = record {
  value = λ marks. is.value marks ∙ ap (λ (z : ℤ). form_value marks old +ℤ z) (same marks);
  size = is.size;
  count = is.count;
}

pub adds_nothing : (form : LinearForm) (terms : ℕ) (more : List Bool → ℤ) → ((marks : List Bool) → more marks ≡ pos 0) → Adds form form terms more
adds_nothing form terms more none = record {
  value = λ marks. same (form_value marks form) (more marks) (none marks);
  size = omega arith;
  count = refl;
}
  where
    same : (x y : ℤ) → y ≡ pos 0 → x ≡ x +ℤ y
    same x y e = omega (arith, ints, e)

-- fewer terms are within more
pub adds_within : (old new : LinearForm) (few many : ℕ) (more : List Bool → ℤ) → few ≤ many → Adds old new few more → Adds old new many more
adds_within old new few many more less is = record {
  value = is.value;
  size = longer (size_of_form new) (size_of_form old) (few * largest_term) (many * largest_term) is.size (mul-le-mul_right largest_term less);
  count = is.count;
}
  where
    longer : (n o f m : ℕ) → n ≤ o + f → f ≤ m → n ≤ o + m
    longer n o f m h k = omega arith
