-- What at most twelve digits write.
use Rattle.std.proofs.Common.{◌≡◌, ℕ, zero, suc, ◌+◌, ◌-◌, ◌*◌, ◌^◌, ◌<◌, ◌≤◌, Bool, true, false, ◌&&◌, List, [], ◌∷◌, length, take, get_or, refl, sym, ap, ◌∙◌, arith, inl, inr}
use Rattle.std.specs.List.{list_all, list_any, position_or_len}
use Rattle.std.specs.Char.{is_ascii_digit, digit_value}
use Rattle.std.specs.Str.Parse.{digits_value, AllDigits}
use Rattle.std.proofs.lemmas.Grind.{common_steps}
use Rattle.std.proofs.lemmas.Bool.Decides.{nat_tests}
use Rattle.std.proofs.lemmas.Bool.{cases_Bool}
use Rattle.std.proofs.lemmas.Int.Digits.{digits_value-lt, digits_value_more}
use Rattle.std.proofs.Math.Nat.{pow-le-pow_right, one-le-pow, mul-lt-mul_of_pos_right}
use Rattle.std.proofs.lemmas.List.{length-take}
use Rattle.std.proofs.lemmas.Nat.{pow-add}

and_left : (a b : Bool) → (a && b) ≡ true → a ≡ true
and_left true b h = refl
and_left false b h = h

and_right : (a b : Bool) → (a && b) ≡ true → b ≡ true
and_right true b h = h
and_right false b h = cc

both : (a b : Bool) → a ≡ true → b ≡ true → (a && b) ≡ true
both true b ha hb = hb
both false b ha hb = ha

digit_below : (c : ℕ) → is_ascii_digit c ≡ true → digit_value c < 10
digit_below c h = grind (arith, nat_tests)

pub digit_is : (c : ℕ) → is_ascii_digit c ≡ true → (48 ≤ c) × (c ≤ 57) × (digit_value c ≡ c - 48)
digit_is c h = (grind (arith, nat_tests), grind (arith, nat_tests), grind (arith, nat_tests))

pub all_digits : (ds : List ℕ) → list_all is_ascii_digit ds ≡ true → AllDigits 10 ds
all_digits [] h = tt
all_digits (d ∷ ds) h = (digit_below d (and_left _ _ h), all_digits ds (and_right _ _ h))

digit_at : (ds : List ℕ) (i : ℕ) → list_all is_ascii_digit ds ≡ true → i < length ds → is_ascii_digit (get_or ds i 0) ≡ true
digit_at ds i h lt = grind (arith, common_steps)

-- digits write a number below a power of ten
pub value_below : (ds : List ℕ) → list_all is_ascii_digit ds ≡ true → digits_value 10 ds < 10 ^ length ds
value_below ds h = digits_value-lt 10 ds (all_digits ds h)

front_digits : (ds : List ℕ) (n : ℕ) → list_all is_ascii_digit ds ≡ true → list_all is_ascii_digit (take n ds) ≡ true
front_digits ds zero h = refl
front_digits [] (suc n) h = refl
front_digits (d ∷ ds) (suc n) h = both _ _ (and_left _ _ h) (front_digits ds n (and_right _ _ h))

-- the step over one digit, of which there are at most twelve
pub record DigitStep (ds : List ℕ) (i : ℕ) : Type 0 where
  pub least : 48 ≤ get_or ds i 0
  pub greatest : get_or ds i 0 ≤ 57
  pub value : digits_value 10 (take (i + 1) ds) ≡ digits_value 10 (take i ds) * 10 + (get_or ds i 0 - 48)
  pub small : digits_value 10 (take (i + 1) ds) < 10 ^ 12

pub digit_step : (ds : List ℕ) (i : ℕ) → list_all is_ascii_digit ds ≡ true → length ds ≤ 12 → i < length ds → DigitStep ds i
digit_step ds i h short lt =
    let c = get_or ds i 0 in
    let d : (48 ≤ c) × (c ≤ 57) × (digit_value c ≡ c - 48) = digit_is c (digit_at ds i h lt) in
    let below = value_below (take (i + 1) ds) (front_digits ds (i + 1) h) in
    let shorter : length (take (i + 1) ds) ≤ 12 = omega (arith, length-take {A = ℕ}) in
    let power = pow-le-pow_right {n = 10} (omega arith) shorter in
    record {
      least = d.0;
      greatest = d.1;
      value = digits_value_more 10 ds i lt ∙ ap (λ v. digits_value 10 (take i ds) * 10 + v) d.2;
      small = omega (arith, below, power);
    }

-- a point that is there stands in front of the end
pub list_any-position : (p : ℕ → Bool) (xs : List ℕ) → position_or_len p xs < length xs → list_any p xs ≡ true
list_any-position p [] h = absurd (omega arith)
list_any-position p (x ∷ xs) h =
    elim (cases_Bool (p x)) [
      | inl passes ↦ rw passes refl
      | inr fails ↦
          let e : position_or_len p (x ∷ xs) ≡ 1 + position_or_len p xs = rw fails refl in
          let rest = list_any-position p xs (omega (arith, e)) in
          rw fails rest
    ]

pub list_any-no_position : (p : ℕ → Bool) (xs : List ℕ) → length xs ≤ position_or_len p xs → list_any p xs ≡ false
list_any-no_position p [] h = refl
list_any-no_position p (x ∷ xs) h =
    elim (cases_Bool (p x)) [
      | inl passes ↦
          let e : position_or_len p (x ∷ xs) ≡ 0 = rw passes refl in
          absurd (omega (arith, e))
      | inr fails ↦
          let e : position_or_len p (x ∷ xs) ≡ 1 + position_or_len p xs = rw fails refl in
          let rest = list_any-no_position p xs (omega (arith, e)) in
          rw fails rest
    ]

-- six decimals at most, filled up to six, are below a million
pub scaled_below : (v n k : ℕ) → v < 10 ^ n → n + k ≡ 6 → v * 10 ^ k < 1000000
scaled_below v n k below e =
    let positive : 0 < 10 ^ k = one-le-pow k 10 (omega arith) in
    let less : v * 10 ^ k < 10 ^ n * 10 ^ k = mul-lt-mul_of_pos_right below positive in
    let whole : 10 ^ n * 10 ^ k ≡ 10 ^ 6 = sym (pow-add 10 n k) ∙ ap (λ m. 10 ^ m) e in
    omega (arith, less, whole)

-- twelve digits in front of the point at most are below 10^12
pub twelve_below : (ds : List ℕ) (v : ℕ) → v < 10 ^ length ds → length ds ≤ 12 → v < 1000000000000
twelve_below ds v below short = omega (arith, below, pow-le-pow_right {n = 10} (omega arith) short)
