-- One function implies another: where that is plain, and by the halves past a variable.
use Rattle.std.proofs.Common.{◌≡◌, ◌==◌, ◌≢◌, ◌⊎◌, ◌↔◌, ℕ, ◌<◌, ◌≤◌, Bool, true, false, if◌then◌else◌, min, refl, ap, sym, ◌∙◌, subst, inl, inr, arith}
use Rattle.std.proofs.lemmas.Bool.{eqb-true, true≢false}
use Rattle.std.proofs.Math.Nat.{min-le_left, min-le_right}
use Rattle.dd_store.specs.Exhausted.{value_at}
use Rattle.dd_store.specs.Follow.{IsThere, step, with_value}
use Rattle.dd_store.specs.Size.{Function, fixed}
use Rattle.dd_store.specs.Table.{Table, row_of, value_of, level_of, top_of, IsSound, IsVariable}
use Rattle.dd_store.proofs.Canonical.{canonical}
use Rattle.dd_store.proofs.HandleLemmas.{value_of-constant}
use Rattle.dd_apply.specs.Held.{IsHeld}
use Rattle.dd_apply.specs.Right.{DoesImply}
use Rattle.dd_apply.specs.Settled.{SettlesImplication}
use Rattle.dd_apply.proofs.HeldLemmas.{held-there}
use Rattle.dd_apply.proofs.StepLemmas.{IsHalf, half}

-- a constant is there
small-there : (t : Table) (n : ℕ) → n < 2 → IsThere (row_of t) n
small-there t n small = λ large. absurd (omega arith)

-- what is true for every assignment is the constant yes
always : (t : Table) (n : ℕ) → IsSound t → IsThere (row_of t) n → ((x : ℕ → Bool) → value_of t n x ≡ true) → n ≡ 1
always t n sound there all =
    canonical t.order (row_of t) sound.reduced.rows n 1 there (small-there t 1 (omega arith)) (λ x. all x ∙ sym (value_of-constant t true x sound))

-- and what is true for none is the constant no
never : (t : Table) (n : ℕ) → IsSound t → IsThere (row_of t) n → ((x : ℕ → Bool) → value_of t n x ≡ false) → n ≡ 0
never t n sound there all =
    canonical t.order (row_of t) sound.reduced.rows n 0 there (small-there t 0 (omega arith)) (λ x. all x ∙ sym (value_of-constant t false x sound))

pub implied : (t : Table) (a b : ℕ) (answer : Bool) → IsSound t → IsHeld t a → IsHeld t b → SettlesImplication a b answer → (answer ≡ true) ↔ DoesImply t a b
implied t a b true sound held_a held_b settled = ((λ _. yes' settled), (λ _. refl))
  where
    yes' : (a ≡ b) ⊎ (a ≡ 0) ⊎ (b ≡ 1) → DoesImply t a b
    yes' (inl same) = λ x is. subst (λ (n : ℕ). value_of t n x ≡ true) same is
    yes' (inr (inl none)) = λ x is. absurd (true≢false (sym is ∙ ap (λ (n : ℕ). value_of t n x) none ∙ value_of-constant t false x sound))
    yes' (inr (inr all)) = λ x is. ap (λ (n : ℕ). value_of t n x) all ∙ value_of-constant t true x sound
implied t a b false sound held_a held_b settled = ((λ is. absurd (true≢false (sym is))), (λ all. absurd (no' settled all)))
  where
    no' : ((a ≡ 1) × (b ≢ 1)) ⊎ ((b ≡ 0) × (a ≢ 0)) → DoesImply t a b → ⊥
    no' (inl (one, other)) all = other (always t b sound (held-there t sound b held_b)
        (λ x. all x (ap (λ (n : ℕ). value_of t n x) one ∙ value_of-constant t true x sound)))
    no' (inr (zero', other)) all = other (never t a sound (held-there t sound a held_a) (λ x. by x (value_of t a x) refl))
      where
        by : (x : ℕ → Bool) (p : Bool) → value_of t a x ≡ p → value_of t a x ≡ false
        by x true is = absurd (true≢false (sym (all x is) ∙ ap (λ (n : ℕ). value_of t n x) zero' ∙ value_of-constant t false x sound))
        by x false is = is

-- an assignment is the one with its own value for a variable
itself : (x : ℕ → Bool) (v : ℕ) → with_value x v (x v) ≡ x
itself x v = λ j w. at w (w == v) refl j
  where
    at : (w : ℕ) (c : Bool) → (w == v) ≡ c → (if c then x v else x w) ≡ x w
    at w true e = ap x (sym (eqb-true w v e))
    at w false e = refl

module _ (t : Table) (sound : IsSound t) (a b v : ℕ) (held_a : IsHeld t a) (held_b : IsHeld t b) (inside : IsVariable t v)
    (above_a : level_of t v ≤ top_of t a) (above_b : level_of t v ≤ top_of t b) where
  module _ (d : Bool) (m k : ℕ) (is_m : m ≡ step (row_of t a) v a d) (is_k : k ≡ step (row_of t b) v b d) where
    value_a : fixed (value_at t a) v d ≡ value_at t m
    value_a = let h : IsHalf t v a m d = half t sound v inside a m d held_a above_a is_m in h.value

    value_b : fixed (value_at t b) v d ≡ value_at t k
    value_b = let h : IsHalf t v b k d = half t sound v inside b k d held_b above_b is_k in h.value

    -- where one implies the other, so do the halves
    pub halves-imply : DoesImply t a b → DoesImply t m k
    halves-imply all x is = sym (ap (λ (f : Function). f x) value_b) ∙ all (with_value x v d) (ap (λ (f : Function). f x) value_a ∙ is)

    -- and back, for the assignments that give the variable this value
    back : DoesImply t m k → (x : ℕ → Bool) → x v ≡ d → value_of t a x ≡ true → value_of t b x ≡ true
    back all x here is =
        let same : with_value x v d ≡ x = ap (λ (c : Bool). with_value x v c) (sym here) ∙ itself x v in
        sym (ap (λ (y : ℕ → Bool). value_of t b y) same) ∙ ap (λ (f : Function). f x) value_b
        ∙ all x (sym (ap (λ (f : Function). f x) value_a) ∙ ap (λ (y : ℕ → Bool). value_of t a y) same ∙ is)

  pub both-imply : (m k p q : ℕ) → m ≡ step (row_of t a) v a false → k ≡ step (row_of t b) v b false → p ≡ step (row_of t a) v a true → q ≡ step (row_of t b) v b true
      → DoesImply t m k → DoesImply t p q → DoesImply t a b
  both-imply m k p q is_m is_k is_p is_q low high x is = by (x v) refl
    where
      by : (c : Bool) → x v ≡ c → value_of t b x ≡ true
      by false here = back false m k is_m is_k low x here is
      by true here = back true p q is_p is_q high x here is

pub below-left : (l m n : ℕ) → l ≡ min m n → l ≤ m
below-left l m n is = let less = min-le_left m n in omega arith

pub below-right : (l m n : ℕ) → l ≡ min m n → l ≤ n
below-right l m n is = let less = min-le_right m n in omega arith

-- no implication where the first halves have none
pub first-refused : (p : Bool) (A B : Type 0) → p ≡ false → (p ≡ true) ↔ B → (A → B) → (false ≡ true) ↔ A
first-refused true A B is value part = absurd (true≢false is)
first-refused false A B is value part = ((λ bad. absurd (true≢false (sym bad))), (λ all. value.1 (part all)))

-- where they have it, it is that of the second ones
pub second-decides : (p q : Bool) (A B C : Type 0) → p ≡ true → (p ≡ true) ↔ B → (q ≡ true) ↔ C → (A → C) → (B → C → A) → (q ≡ true) ↔ A
second-decides p q A B C is one two part whole = ((λ second. whole (one.0 is) (two.0 second)), (λ all. two.1 (part all)))

-- an answer as a constant's number
pub as-number : (p : Bool) (r : ℕ) (A : Type 0) → r ≡ (if p then 1 else 0) → (p ≡ true) ↔ A → (r ≡ 1) ↔ A
as-number true r A is value = ((λ _. value.0 refl), (λ _. is))
as-number false r A is value = ((λ one. absurd (let none : r ≡ 0 = is in omega arith)), (λ all. absurd (true≢false (sym (value.1 all)))))
