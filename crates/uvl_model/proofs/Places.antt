-- Where a name stands among distinct names.
use Rattle.std.proofs.Common.{◌≡◌, ◌↔◌, ℕ, zero, suc, List, [], ◌∷◌, ◌++◌, slice_get, position, Option, None, Some, is_some, Contains, refl, sym, ap, ◌∙◌, subst, inl, inr, arith}
use Rattle.std.specs.Option.{option_map}
use Rattle.std.specs.Str.{bytes_eq}
use Rattle.std.proofs.lemmas.Bool.{false≢true}
use Rattle.std.proofs.lemmas.List.Elements.{Contains-append_right, Contains-get_or, Contains-push_cases}
use Rattle.std.proofs.lemmas.List.Quantifiers.{position-Some}
use Rattle.std.proofs.lemmas.Option.{none-some, same_Some, slice_get_within, get_or_from_slice_get, slice_get-get_or}
use Rattle.std.proofs.lemmas.Slice.Eq.{bytes_eq-Decides}
use Rattle.uvl_model.specs.declared.rows.FeatureNo.{FeatureNo}
use Rattle.uvl_semantics.specs.Product.{has}
use Rattle.uvl_model.specs.Sound.{AreDistinct}
use Rattle.uvl_model.specs.Spelling.{numbered}
use Rattle.uvl_semantics.proofs.Membership.{has-from_Contains}

pub Contains-at : (names : List (List ℕ)) (n : ℕ) (x : List ℕ) → slice_get names n ≡ Some x → Contains names x
Contains-at names n x e = (n, slice_get_within names n x e, get_or_from_slice_get names n x x e)

-- a name that is not there may go last
pub AreDistinct-push : (names : List (List ℕ)) (x : List ℕ) → AreDistinct names → (Contains names x → ⊥) → AreDistinct (names ++ x ∷ [])
AreDistinct-push [] x d out = (λ c. absurd (omega (arith, c.1)), tt)
AreDistinct-push (y ∷ ys) x d out = (
  (λ c. elim (Contains-push_cases ys x y c) [
    | inl there ↦ d.0 there
    | inr same ↦ out (subst (λ (z : List ℕ). Contains (y ∷ ys) z) (sym same) (Contains-get_or (y ∷ ys) 0 y (omega arith)))
  ]),
  AreDistinct-push ys x d.1 (λ c. out (Contains-append_right (y ∷ []) ys x c)),
)

-- each name stands at one place
only_place : (names : List (List ℕ)) → AreDistinct names → (x : List ℕ) (m n : ℕ) → slice_get names m ≡ Some x → slice_get names n ≡ Some x → m ≡ n
only_place [] d x m n a b = absurd (none-some x a)
only_place (y ∷ ys) d x zero zero a b = refl
only_place (y ∷ ys) d x zero (suc n) a b = absurd (d.0 (Contains-at ys n y (b ∙ sym a)))
only_place (y ∷ ys) d x (suc m) zero a b = absurd (d.0 (Contains-at ys m y (a ∙ sym b)))
only_place (y ∷ ys) d x (suc m) (suc n) a b = ap suc (only_place ys d.1 x m n a b)

-- the place of the first equal name is the one at which the name stands
place_is : (names : List (List ℕ)) (x : List ℕ) (r : Option ℕ) → AreDistinct names → r ≡ position (bytes_eq x) names → is_some r ≡ has names x
    → (n : ℕ) → (r ≡ Some n) ↔ (slice_get names n ≡ Some x)
place_is names x r d q found n = (stands r q, λ e. by r q found e)
  where
    stands : (s : Option ℕ) → s ≡ position (bytes_eq x) names → s ≡ Some n → slice_get names n ≡ Some x
    stands s p e =
        let parts = position-Some (bytes_eq x) names n x (sym p ∙ e) in
        slice_get-get_or names n x parts.0 ∙ ap Some (sym ((bytes_eq-Decides x _).0 parts.1))

    by : (s : Option ℕ) → s ≡ position (bytes_eq x) names → is_some s ≡ has names x → slice_get names n ≡ Some x → s ≡ Some n
    by None p f e = absurd (false≢true (f ∙ has-from_Contains names x (Contains-at names n x e)))
    by (Some m) p f e =
        let parts = position-Some (bytes_eq x) names m x (sym p) in
        let here = slice_get-get_or names m x parts.0 ∙ ap Some (sym ((bytes_eq-Decides x _).0 parts.1)) in
        ap Some (only_place names d x m n here e)

-- the same of the number that is answered
pub number_is : (names : List (List ℕ)) (x : List ℕ) (r : Option ℕ) → AreDistinct names → r ≡ position (bytes_eq x) names → is_some r ≡ has names x
    → (result : Option FeatureNo) → result ≡ option_map numbered r → (n : ℕ) → (result ≡ Some (numbered n)) ↔ (slice_get names n ≡ Some x)
number_is names x r d q found result e n = by r e (place_is names x r d q found n)
  where
    by : (s : Option ℕ) → result ≡ option_map numbered s → ((s ≡ Some n) ↔ (slice_get names n ≡ Some x)) → (result ≡ Some (numbered n)) ↔ (slice_get names n ≡ Some x)
    by None a h = ((λ b. absurd (none-some _ (sym a ∙ b))), (λ b. absurd (none-some n (h.1 b))))
    by (Some m) a h =
        ((λ b. h.0 (ap Some (ap (λ (f : FeatureNo). f.0) (same_Some _ _ (sym a ∙ b))))), (λ b. a ∙ ap (λ m. Some (numbered m)) (same_Some _ _ (h.1 b))))
