-- Names that stand once.
use Rattle.std.proofs.Common.{◌≡◌, ℕ, false, List, [], ◌∷◌, ◌++◌, refl, sym, ◌∙◌}
use Rattle.std.specs.Str.{bytes_eq}
use Rattle.std.proofs.lemmas.Bool.{both_ways, or_from, or_parts}
use Rattle.std.proofs.lemmas.Bool.Decides.{same_from_decides, Decides-like}
use Rattle.std.proofs.lemmas.Slice.Eq.{bytes_eq-Decides}
use Rattle.uvl_imports.specs.Texts.{AreDistinct, has}
use Rattle.uvl_model.specs.Sound as sound
use Rattle.uvl_semantics.proofs.Membership.{has-from_Contains}

-- names are compared from either side
pub eq-sym : (a b : List ℕ) → bytes_eq a b ≡ bytes_eq b a
eq-sym a b = same_from_decides _ _ (bytes_eq-Decides a b) (Decides-like _ sym sym (bytes_eq-Decides b a))

has-append : (xs ys : List (List ℕ)) (name : List ℕ) → has xs name ≡ false → has ys name ≡ false → has (xs ++ ys) name ≡ false
has-append [] ys name h k = k
has-append (x ∷ xs) ys name h k =
    let parts = or_parts (bytes_eq name x) (has xs name) h in
    or_from (bytes_eq name x) (has (xs ++ ys) name) parts.0 (has-append xs ys name parts.1 k)

-- a new name goes last
pub distinct-push : (names : List (List ℕ)) (name : List ℕ) → AreDistinct names → has names name ≡ false → AreDistinct (names ++ name ∷ [])
distinct-push [] name h new = (refl, tt)
distinct-push (x ∷ names) name h new =
    let parts = or_parts (bytes_eq name x) (has names name) new in (
      has-append names (name ∷ []) x h.0 (or_from (bytes_eq x name) false (eq-sym x name ∙ parts.0) refl),
      distinct-push names name h.1 parts.1,
    )

-- the same, where a list is said to contain a name
pub none_contained : (names : List (List ℕ)) → AreDistinct names → sound.AreDistinct names
none_contained [] h = tt
none_contained (name ∷ names) h = ((λ there. both_ways (has names name) h.0 (has-from_Contains names name there)), none_contained names h.1)
