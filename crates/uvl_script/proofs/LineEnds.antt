-- The CR at the end of a line.
use Rattle.std.proofs.Common.{◌≡◌, ℕ, ◌==◌, cond, List, [], ◌∷◌, ◌++◌, ap}
use Rattle.std.proofs.lemmas.Bool.{cond-false, ne_eqb}
use Rattle.uvl_script.specs.Lines.{without_cr}

pub without_cr-cr : (xs : List ℕ) (b : ℕ) → b ≡ 13 → without_cr (xs ++ b ∷ []) ≡ xs
without_cr-cr [] b is = ap (λ n. cond (n == 13) [] (n ∷ [])) is
without_cr-cr (x ∷ []) b is = ap (λ tail. x ∷ tail) (without_cr-cr [] b is)
without_cr-cr (x ∷ y ∷ xs) b is = ap (λ tail. x ∷ tail) (without_cr-cr (y ∷ xs) b is)

pub without_cr-other : (xs : List ℕ) (b : ℕ) → (b ≡ 13 → ⊥) → without_cr (xs ++ b ∷ []) ≡ xs ++ b ∷ []
without_cr-other [] b other = cond-false (b == 13) _ _ (ne_eqb b 13 other)
without_cr-other (x ∷ []) b other = ap (λ tail. x ∷ tail) (without_cr-other [] b other)
without_cr-other (x ∷ y ∷ xs) b other = ap (λ tail. x ∷ tail) (without_cr-other (y ∷ xs) b other)
