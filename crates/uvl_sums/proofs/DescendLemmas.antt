-- Down both halves of what is left, and back: what is added on the way, and why a refusal there is one of the whole.
use Rattle.std.proofs.Common.{◌≡◌, ℕ, suc, ◌+◌, ◌-◌, ◌*◌, ◌^◌, ◌<◌, ◌≤◌, ℤ, ◌+ℤ◌, Bool, List, length, get_or, ap, sym, ◌∙◌, subst, arith}
use Rattle.std.proofs.Math.Nat.{pow-suc}
use Rattle.std.proofs.lemmas.Nat.{pow_pos}
use Rattle.std.specs.List.{Contains}
use Rattle.dd_store.specs.declared.refusal.Refusal.{Refusal}
use Rattle.dd_store.specs.Size.{Function, cofactors}
use Rattle.dd_store.specs.Table.{Table}
use Rattle.dd_store.proofs.CofactorLemmas.{own-cofactor}
use Rattle.dd_apply.specs.Held.{IsCauseWithin}
use Rattle.dd_count.specs.States.{AreHeld}
use Rattle.uvl_sums.specs.declared.memo.Part.{Part}
use Rattle.uvl_sums.specs.declared.steps.Step.{Step}
use Rattle.uvl_sums.specs.Parts.{Adds, IsPartFor, AreHalves}
use Rattle.uvl_sums.specs.Steps.{terms_from, remaining, ArePlanned}
use Rattle.uvl_sums.specs.Sums.{Term}
use Rattle.uvl_sums.proofs.AddsLemmas.{adds-then, cause-then, held-stays}
use Rattle.uvl_sums.proofs.PartLemmas.{length-more, low-is-part, read-high-part, read-weight, part-for-stays}

double : (m n : ℕ) → m ≡ suc n → 2 ^ (m + 1) ≡ 2 ^ (n + 1) + 2 ^ (n + 1)
double m n is = ap (λ (k : ℕ). 2 ^ k) (let one : m + 1 ≡ suc (n + 1) = omega arith in one) ∙ pow-suc 2 (n + 1) ∙ twice (2 ^ (n + 1))
  where
    twice : (x : ℕ) → x * 2 ≡ x + x
    twice x = omega arith

-- the sizes of lists of partial results
first-few : (x : ℕ) → 1 + x ≤ x + 1
first-few x = omega arith

both-few : (x : ℕ) → 0 < x → x + x ≤ x + x - 1 + 1
both-few x some = omega arith

whole-few : (x y : ℕ) → 0 < x → y ≡ x + x → x + x - 1 + 2 ≤ y + 1
whole-few x y some is = omega arith

some-power : (n : ℕ) → 0 < 2 ^ n
some-power n = pow_pos n

-- there is always room for one
pub two-fit : (n : ℕ) → 2 ≤ 2 ^ (n + 1)
two-fit n = let double' : 2 ^ (n + 1) ≡ 2 ^ n * 2 = ap (λ (k : ℕ). 2 ^ k) (let one : n + 1 ≡ suc n = omega arith in one) ∙ pow-suc 2 n in let some = some-power n in omega arith

module _ (t k l g : Table) (H HK HL HG : List ℕ) (steps : List Step) (at : ℕ) (read : Step) (inside : at < length steps) (planned : ArePlanned t.order steps) (is : read ≡ get_or steps at read)
    (exact : Bool) (s s' : ℤ) (s_is : s' ≡ s +ℤ read.weight) where
  abbrev whole : Function
  whole = remaining exact (terms_from steps at) s

  abbrev rest : List Term
  rest = terms_from steps (at + 1)

  abbrev most : ℕ
  most = 2 ^ (length rest + 1)

  own : Contains (cofactors t.order whole) whole
  own = own-cofactor t.order whole

  low-of : Contains (cofactors t.order whole) (remaining exact rest s)
  low-of = low-is-part t.order steps at read inside planned exact s

  high-of : Contains (cofactors t.order whole) (remaining exact rest s')
  high-of = subst (λ (z : ℤ). Contains (cofactors t.order whole) (remaining exact rest z)) (sym s_is) (read-high-part t.order steps at read inside planned is exact s)

  power : 2 ^ (length (terms_from steps at) + 1) ≡ most + most
  power = double (length (terms_from steps at)) (length rest) (length-more t.order steps at read inside planned)

  module _ (first : Adds t H k HK whole 1) where
    pub low-cause : (r : Refusal) → IsCauseWithin k l (remaining exact rest s) most r → IsCauseWithin t l whole (2 ^ (length (terms_from steps at) + 1)) r
    low-cause r cause =
        cause-then t k H HK whole 1 first whole own l (remaining exact rest s) most (2 ^ (length (terms_from steps at) + 1)) r low-of
        (let all = power in let some = some-power (length rest + 1) in omega arith) cause

    module _ (two : Adds k HK l HL (remaining exact rest s) most) where
      to-low : Adds t H l HL whole most
      to-low = adds-then t k H HK whole 1 first whole own l HL (remaining exact rest s) most two low-of most (first-few most)

      pub low-adds : Adds t H l HL whole (2 ^ (length (terms_from steps at) + 1))
      low-adds = adds-then t k H HK whole 1 first whole own l HL (remaining exact rest s) most two low-of (2 ^ (length (terms_from steps at) + 1)) (let all = power in omega arith)

      pub low-held : AreHeld t H → AreHeld l HL
      low-held held = held-stays t l H HL whole most to-low held

      pub high-cause : (r : Refusal) → IsCauseWithin l g (remaining exact rest s') most r → IsCauseWithin t g whole (2 ^ (length (terms_from steps at) + 1)) r
      high-cause r cause =
          cause-then t l H HL whole most to-low whole own g (remaining exact rest s') most (2 ^ (length (terms_from steps at) + 1)) r high-of (let all = power in omega arith) cause

      module _ (three : Adds l HL g HG (remaining exact rest s') most) where
        to-high : Adds t H g HG whole (most + most - 1)
        to-high =
            adds-then t l H HL whole most to-low whole own g HG (remaining exact rest s') most three high-of (most + most - 1) (both-few most (some-power (length rest + 1)))

        pub high-adds : Adds t H g HG whole (2 ^ (length (terms_from steps at) + 1))
        high-adds =
            adds-then t l H HL whole most to-low whole own g HG (remaining exact rest s') most three high-of (2 ^ (length (terms_from steps at) + 1)) (let all = power in omega arith)

        pub high-held : AreHeld t H → AreHeld g HG
        high-held held = held-stays t g H HG whole (most + most - 1) to-high held

        -- both halves are there
        pub are-halves : (low high : Part) → AreHeld l HL → IsPartFor l HL exact rest s low → IsPartFor g HG exact rest s' high → AreHalves g HG exact steps at low high s
        are-halves low high held one other = record {
          low_is = part-for-stays l g HL HG (remaining exact rest s') most three held exact rest s low one;
          high_is = subst (λ (z : ℤ). IsPartFor g HG exact rest z high) (s_is ∙ ap (λ (w : ℤ). s +ℤ w) (sym (read-weight t.order steps at read inside planned is))) other;
        }

        pub whole-cause : (j : Table) (r : Refusal) → IsCauseWithin g j whole 0 r → IsCauseWithin t j whole (2 ^ (length (terms_from steps at) + 1)) r
        whole-cause j r cause =
            cause-then t g H HG whole (most + most - 1) to-high whole own j whole 0 (2 ^ (length (terms_from steps at) + 1)) r own (let all = power in omega arith) cause

        pub whole-adds : (j : Table) (HJ : List ℕ) → Adds g HG j HJ whole 2 → Adds t H j HJ whole (2 ^ (length (terms_from steps at) + 1))
        whole-adds j HJ four =
            adds-then t g H HG whole (most + most - 1) to-high whole own j HJ whole 2 four own (2 ^ (length (terms_from steps at) + 1)) (whole-few most _ (some-power (length rest + 1)) power)
