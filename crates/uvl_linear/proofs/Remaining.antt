-- What is added to a form step by step.
use Rattle.std.proofs.Common.{◌≡◌, ℕ, ◌+◌, ◌*◌, ◌≤◌, Bool, List, length, refl, ◌∙◌, arith}
use Rattle.std.specs.Prelude.{ℤ, pos, ◌+ℤ◌}
use Rattle.std.proofs.lemmas.Int.{ints}
use Rattle.std.proofs.Math.Nat.{mul-le-mul_right}
use Rattle.uvl_linear.specs.declared.form.LinearForm.{LinearForm}
use Rattle.uvl_linear.specs.Forms.{Adds, HasRoom, form_value, largest_form, largest_term, size_of_form}

-- what was added so far and the part that is left make the whole
pub record Remains (old new : LinearForm) (all left : ℕ) (whole part : List Bool → ℤ) : Type 0 where
  pub value : (marks : List Bool) → form_value marks new +ℤ part marks ≡ form_value marks old +ℤ whole marks
  pub size : size_of_form new + left * largest_term ≤ size_of_form old + all * largest_term
  pub count : length new.weights.items ≡ length old.weights.items

share : (u a b c : ℕ) → a + b ≤ c → a * u + b * u ≤ c * u
share u a b c h = let all = mul-le-mul_right u h in omega arith

pub begins : (form : LinearForm) (all : ℕ) (whole : List Bool → ℤ) → Remains form form all all whole whole
begins form all whole = record { value = λ marks. refl; size = omega arith; count = refl }

step : (m p o w n x q : ℤ) → m +ℤ p ≡ o +ℤ w → n ≡ m +ℤ x → p ≡ x +ℤ q → n +ℤ q ≡ o +ℤ w
step m p o w n x q e f g = omega (arith, ints, e, f, g)

last : (m p o w n x : ℤ) → m +ℤ p ≡ o +ℤ w → n ≡ m +ℤ x → p ≡ x → n ≡ o +ℤ w
last m p o w n x e f g = omega (arith, ints, e, f, g)

none : (m p o w : ℤ) → m +ℤ p ≡ o +ℤ w → p ≡ pos 0 → m ≡ o +ℤ w
none m p o w e f = omega (arith, ints, e, f)

chain : (n m o a b c d : ℕ) → n ≤ m + b → m + c ≤ o + d → a + b ≤ c → n + a ≤ o + d
chain n m o a b c d h k l = omega arith

module _ (old mid : LinearForm) (all left : ℕ) (whole part : List Bool → ℤ) (is : Remains old mid all left whole part) where
  -- so many terms are added
  pub goes_on : (new : LinearForm) (used rest : ℕ) (more behind : List Bool → ℤ) → Adds mid new used more → rest + used ≤ left
      → ((marks : List Bool) → part marks ≡ more marks +ℤ behind marks) → Remains old new all rest whole behind
  goes_on new used rest more behind adds few parts = record {
    value = λ marks. step (form_value marks mid) (part marks) (form_value marks old) (whole marks) (form_value marks new) (more marks) (behind marks)
        (is.value marks) (adds.value marks) (parts marks);
    size = chain (size_of_form new) (size_of_form mid) (size_of_form old) (rest * largest_term) (used * largest_term) (left * largest_term) (all * largest_term)
        adds.size is.size (share largest_term rest used left few);
    count = adds.count ∙ is.count;
  }

  -- the last ones are
  pub ends : (new : LinearForm) (used : ℕ) (more : List Bool → ℤ) → Adds mid new used more → used ≤ left
      → ((marks : List Bool) → part marks ≡ more marks) → Adds old new all whole
  ends new used more adds few parts = record {
    value = λ marks. last (form_value marks mid) (part marks) (form_value marks old) (whole marks) (form_value marks new) (more marks)
        (is.value marks) (adds.value marks) (parts marks);
    size = shorter (chain (size_of_form new) (size_of_form mid) (size_of_form old) (0 * largest_term) (used * largest_term) (left * largest_term) (all * largest_term)
        adds.size is.size (share largest_term 0 used left (omega (arith, few))));
    count = adds.count ∙ is.count;
  }
    where
      shorter : size_of_form new + 0 ≤ size_of_form old + all * largest_term → size_of_form new ≤ size_of_form old + all * largest_term
      shorter h = omega (arith, h)

  -- nothing is left
  pub ends_here : ((marks : List Bool) → part marks ≡ pos 0) → Adds old mid all whole
  ends_here parts = record {
    value = λ marks. none (form_value marks mid) (part marks) (form_value marks old) (whole marks) (is.value marks) (parts marks);
    size = fewer (size_of_form mid) (size_of_form old) (left * largest_term) (all * largest_term) is.size;
    count = is.count;
  }
    where
      fewer : (m o l a : ℕ) → m + l ≤ o + a → m ≤ o + a
      fewer m o l a h = omega arith

  -- what is left has room
  pub room_left : (used : ℕ) → used ≤ left → HasRoom old all → HasRoom mid used
  room_left used few room = within (size_of_form mid) (size_of_form old) (used * largest_term) (left * largest_term) (all * largest_term) largest_form
      is.size (mul-le-mul_right largest_term few) room
    where
      within : (m o u l a f : ℕ) → m + l ≤ o + a → u ≤ l → o + a ≤ f → m + u ≤ f
      within m o u l a f h k r = omega arith
