-- Texts that differ.
use Rattle.std.proofs.Common.{◌≡◌, ℕ, true, false, List, [], ◌∷◌, ◌++◌, ◌||◌, refl, sym, ap, ◌∙◌, subst}
use Rattle.std.specs.Str.{bytes_eq}
use Rattle.std.proofs.lemmas.Bool.{false≢true, false_from_ne_true, or_left, or_right, or_parts, or_from}
use Rattle.std.proofs.Math.Bool.{or-false}
use Rattle.std.proofs.lemmas.List.Folds.{list_any-append}
use Rattle.std.proofs.lemmas.Slice.Eq.{bytes_eq-Decides}
use Rattle.uvl_imports.specs.Texts.{has, AreDistinct}

pub equal : (x y : List ℕ) → bytes_eq x y ≡ true → x ≡ y
equal x y e = (bytes_eq-Decides x y).0 e

pub bytes_eq-same : (x : List ℕ) → bytes_eq x x ≡ true
bytes_eq-same x = (bytes_eq-Decides x x).1 refl

bytes_eq-flip : (x y : List ℕ) → bytes_eq x y ≡ false → bytes_eq y x ≡ false
bytes_eq-flip x y out = false_from_ne_true _ (λ e. false≢true (sym out ∙ (bytes_eq-Decides x y).1 (sym (equal y x e))))

-- the test of a text behind others
pub has-push : (xs : List (List ℕ)) (x q : List ℕ) → has (xs ++ x ∷ []) q ≡ (has xs q || bytes_eq q x)
has-push xs x q = list_any-append (bytes_eq q) xs (x ∷ []) ∙ ap (λ b. has xs q || b) (or-false (bytes_eq q x))

pub has-last : (xs : List (List ℕ)) (x : List ℕ) → has (xs ++ x ∷ []) x ≡ true
has-last xs x = has-push xs x x ∙ or_right (has xs x) _ (bytes_eq-same x)

pub has-front : (xs : List (List ℕ)) (x q : List ℕ) → has xs q ≡ true → has (xs ++ x ∷ []) q ≡ true
has-front xs x q there = has-push xs x q ∙ or_left (has xs q) _ there

pub has-neither : (xs : List (List ℕ)) (x q : List ℕ) → has xs q ≡ false → bytes_eq q x ≡ false → has (xs ++ x ∷ []) q ≡ false
has-neither xs x q out other = has-push xs x q ∙ or_from (has xs q) _ out other

-- a text of a list differs from one that is not in it
pub other_text : (xs : List (List ℕ)) (x q : List ℕ) → has xs x ≡ false → has xs q ≡ true → bytes_eq q x ≡ false
other_text xs x q out there =
    let P : List ℕ → Type 0 = λ t. has xs t ≡ true in
    false_from_ne_true _ (λ e. false≢true (sym out ∙ subst P (equal q x e) there))

pub AreDistinct-push : (xs : List (List ℕ)) (x : List ℕ) → AreDistinct xs → has xs x ≡ false → AreDistinct (xs ++ x ∷ [])
AreDistinct-push [] x d out = (refl, tt)
AreDistinct-push (y ∷ ys) x d out =
    let parts = or_parts (bytes_eq x y) (has ys x) out in
    (has-neither ys x y d.0 (bytes_eq-flip x y parts.0), AreDistinct-push ys x d.1 parts.1)

pub AreDistinct-front : (xs : List (List ℕ)) (x : List ℕ) → AreDistinct (xs ++ x ∷ []) → AreDistinct xs
AreDistinct-front [] x d = tt
AreDistinct-front (y ∷ ys) x d =
    let parts = or_parts (has ys y) (bytes_eq y x) (sym (has-push ys x y) ∙ d.0) in
    (parts.0, AreDistinct-front ys x d.1)

pub AreDistinct-last : (xs : List (List ℕ)) (x : List ℕ) → AreDistinct (xs ++ x ∷ []) → has xs x ≡ false
AreDistinct-last [] x d = refl
AreDistinct-last (y ∷ ys) x d =
    let parts = or_parts (has ys y) (bytes_eq y x) (sym (has-push ys x y) ∙ d.0) in
    or_from (bytes_eq x y) (has ys x) (bytes_eq-flip y x parts.1) (AreDistinct-last ys x d.1)
