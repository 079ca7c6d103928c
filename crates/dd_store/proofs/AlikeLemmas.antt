-- Functions that are alike over an order.
use Rattle.std.proofs.Common.{◌≡◌, ℕ, Bool, true, false, ◌&&◌, List, [], ◌∷◌, refl, ap, sym, ◌∙◌}
use Rattle.std.specs.Bool.{beq}
use Rattle.std.specs.Cmp.{IsEquivalence}
use Rattle.std.proofs.lemmas.Bool.{and_parts, and_from}
use Rattle.dd_store.specs.declared.row.Var.{Var}
use Rattle.dd_store.specs.Follow.{with_value}
use Rattle.dd_store.specs.Size.{Function, fixed, alike}

beq-refl : (b : Bool) → beq b b ≡ true
beq-refl true = refl
beq-refl false = refl

beq-symm : (b c : Bool) → beq b c ≡ beq c b
beq-symm true true = refl
beq-symm true false = refl
beq-symm false true = refl
beq-symm false false = refl

beq-same : (b c : Bool) → beq b c ≡ true → b ≡ c
beq-same true true e = refl
beq-same true false e = sym e
beq-same false true e = e
beq-same false false e = refl

-- functions of one value are alike
pub alike-same : (vs : List Var) (f g : Function) → ((a : ℕ → Bool) → f a ≡ g a) → alike vs f g ≡ true
alike-same [] f g same = ap (λ b. beq b (g (λ _. false))) (same (λ _. false)) ∙ beq-refl (g (λ _. false))
alike-same (v ∷ vs) f g same =
    and_from (alike vs (fixed f v.0 false) (fixed g v.0 false)) _
    (alike-same vs (fixed f v.0 false) (fixed g v.0 false) (λ a. same (with_value a v.0 false)))
    (alike-same vs (fixed f v.0 true) (fixed g v.0 true) (λ a. same (with_value a v.0 true)))

alike-symm : (vs : List Var) (f g : Function) → alike vs f g ≡ alike vs g f
alike-symm [] f g = beq-symm (f (λ _. false)) (g (λ _. false))
alike-symm (v ∷ vs) f g =
    ap (λ b. b && alike vs (fixed f v.0 true) (fixed g v.0 true)) (alike-symm vs (fixed f v.0 false) (fixed g v.0 false))
    ∙ ap (λ b. alike vs (fixed g v.0 false) (fixed f v.0 false) && b) (alike-symm vs (fixed f v.0 true) (fixed g v.0 true))

alike-congr : (vs : List Var) (f g h : Function) → alike vs f g ≡ true → alike vs f h ≡ alike vs g h
alike-congr [] f g h same = ap (λ b. beq b (h (λ _. false))) (beq-same (f (λ _. false)) (g (λ _. false)) same)
alike-congr (v ∷ vs) f g h same =
    let parts = and_parts (alike vs (fixed f v.0 false) (fixed g v.0 false)) (alike vs (fixed f v.0 true) (fixed g v.0 true)) same in
    ap (λ b. b && alike vs (fixed f v.0 true) (fixed h v.0 true)) (alike-congr vs (fixed f v.0 false) (fixed g v.0 false) (fixed h v.0 false) parts.0)
    ∙ ap (λ b. alike vs (fixed g v.0 false) (fixed h v.0 false) && b) (alike-congr vs (fixed f v.0 true) (fixed g v.0 true) (fixed h v.0 true) parts.1)

pub alike-equivalence : (vs : List Var) → IsEquivalence (alike vs)
alike-equivalence vs = record {
  refl = λ f. alike-same vs f f (λ a. refl);
  symm = alike-symm vs;
  congr = alike-congr vs;
}

-- the assignment in which the variables that aren't in the order are no
abbrev pub within : List Var → (ℕ → Bool) → ℕ → Bool
within [] a = λ _. false
within (v ∷ vs) a = with_value (within vs a) v.0 (a v.0)

-- functions that are alike have one value under it
pub alike-tells : (vs : List Var) (f g : Function) → alike vs f g ≡ true → (a : ℕ → Bool) → f (within vs a) ≡ g (within vs a)
alike-tells [] f g same a = beq-same (f (λ _. false)) (g (λ _. false)) same
alike-tells (v ∷ vs) f g same a =
    let parts = and_parts (alike vs (fixed f v.0 false) (fixed g v.0 false)) (alike vs (fixed f v.0 true) (fixed g v.0 true)) same in
    by (a v.0) (alike-tells vs (fixed f v.0 false) (fixed g v.0 false) parts.0 a) (alike-tells vs (fixed f v.0 true) (fixed g v.0 true) parts.1 a)
  where
    by : (b : Bool) → fixed f v.0 false (within vs a) ≡ fixed g v.0 false (within vs a) → fixed f v.0 true (within vs a) ≡ fixed g v.0 true (within vs a)
        → fixed f v.0 b (within vs a) ≡ fixed g v.0 b (within vs a)
    by true first second = second
    by false first second = first
