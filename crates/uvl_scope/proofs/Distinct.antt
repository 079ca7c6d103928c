-- Names that stand once.
use Rattle.std.proofs.Common.{◌≡◌, ℕ, zero, suc, ◌+◌, ◌<◌, Bool, true, false, List, [], ◌∷◌, ◌++◌, map, take, drop, length, get_or, refl, sym, ap, ◌∙◌, subst, arith, Some, slice_get}
use Rattle.std.specs.Prelude.{◌||◌, not, if◌then◌else◌}
use Rattle.std.specs.List.{list_any}
use Rattle.std.specs.Str.{bytes_eq}
use Rattle.std.proofs.lemmas.Bool.{false≢true}
use Rattle.std.proofs.lemmas.List.{drop_more}
use Rattle.std.proofs.lemmas.Option.{get_or_from_slice_get}
use Rattle.std.proofs.lemmas.Bool.Decides.{same_from_decides, Decides-like}
use Rattle.std.proofs.lemmas.Slice.Eq.{bytes_eq-Decides}
use Rattle.uvl_imports.specs.Texts.{AreDistinct}
use Rattle.uvl_semantics.specs.Prefix.{prefixed_name}
use Rattle.uvl_semantics.specs.Product.{has}

-- texts are compared from either side
pub eq-sym : (a b : List ℕ) → bytes_eq a b ≡ bytes_eq b a
eq-sym a b = same_from_decides _ _ (bytes_eq-Decides a b) (Decides-like _ sym sym (bytes_eq-Decides b a))

-- neither of two
neither : (a b : Bool) → (a || b) ≡ false → (a ≡ false) × (b ≡ false)
neither true b h = absurd (false≢true (sym h))
neither false b h = (refl, h)

or_none : (a b : Bool) → a ≡ false → b ≡ false → (a || b) ≡ false
or_none true b h k = absurd (false≢true (sym h))
or_none false b h k = k

pub has-append : (xs ys : List (List ℕ)) (name : List ℕ) → has xs name ≡ false → has ys name ≡ false → has (xs ++ ys) name ≡ false
has-append [] ys name h k = k
has-append (x ∷ xs) ys name h k =
    let parts = neither (bytes_eq name x) (has xs name) h in
    or_none (bytes_eq name x) (has (xs ++ ys) name) parts.0 (has-append xs ys name parts.1 k)

-- a new name goes last
pub distinct-push : (names : List (List ℕ)) (name : List ℕ) → AreDistinct names → has names name ≡ false → AreDistinct (names ++ name ∷ [])
distinct-push [] name h new = (refl, tt)
distinct-push (x ∷ names) name h new =
    let parts = neither (bytes_eq name x) (has names name) new in (
      has-append names (name ∷ []) x h.0 (or_none (bytes_eq x name) false (eq-sym x name ∙ parts.0) refl),
      distinct-push names name h.1 parts.1,
    )

-- names stay distinct where a new one goes last
pub distinct-added : (before after : List (List ℕ)) (name : List ℕ) (new : Bool) → AreDistinct before → new ≡ not (has before name)
    → after ≡ (if new then before ++ name ∷ [] else before) → AreDistinct after
distinct-added before after name true distinct known is =
    subst AreDistinct (sym is) (distinct-push before name distinct (is_new (has before name) (sym known)))
  where
    is_new : (b : Bool) → not b ≡ true → b ≡ false
    is_new true h = absurd (false≢true h)
    is_new false h = refl
distinct-added before after name false distinct known is = subst AreDistinct (sym is) distinct

-- a name at a place is none of another text
none_at : (names : List (List ℕ)) (text : List ℕ) (i : ℕ) → has names text ≡ false → i < length names → bytes_eq (get_or names i text) text ≡ false
none_at [] text i h lt = absurd (omega (arith, lt))
none_at (x ∷ names) text zero h lt = eq-sym x text ∙ (neither (bytes_eq text x) (has names text) h).0
none_at (x ∷ names) text (suc i) h lt = none_at names text i (neither (bytes_eq text x) (has names text) h).1 (omega (arith, lt))

-- a name isn't in front of itself
pub not_in_front : (names : List (List ℕ)) (i : ℕ) (d : List ℕ) → AreDistinct names → i < length names → has (take i names) (get_or names i d) ≡ false
not_in_front [] i d h lt = absurd (omega (arith, lt))
not_in_front (x ∷ names) zero d h lt = refl
not_in_front (x ∷ names) (suc i) d h lt =
    let lt' : i < length names = omega (arith, lt) in
    or_none (bytes_eq (get_or names i d) x) (has (take i names) (get_or names i d))
    (subst (λ (name : List ℕ). bytes_eq name x ≡ false) (get_or_same names i x d lt') (none_at names x i h.0 lt'))
    (not_in_front names i d h.1 lt')
  where
    get_or_same : (xs : List (List ℕ)) (k : ℕ) (a b : List ℕ) → k < length xs → get_or xs k a ≡ get_or xs k b
    get_or_same [] k a b l = absurd (omega (arith, l))
    get_or_same (y ∷ ys) zero a b l = refl
    get_or_same (y ∷ ys) (suc k) a b l = get_or_same ys k a b (omega (arith, l))

-- names under one qualifier are the same where they are without it
under-eq : (qualifier a b : List ℕ) → bytes_eq (prefixed_name qualifier a) (prefixed_name qualifier b) ≡ bytes_eq a b
under-eq [] a b = under-dot a b
  where
    under-dot : (a b : List ℕ) → bytes_eq (46 ∷ a) (46 ∷ b) ≡ bytes_eq a b
    under-dot a b = same_from_decides _ _ (bytes_eq-Decides (46 ∷ a) (46 ∷ b)) (Decides-like _ (ap (λ (t : List ℕ). 46 ∷ t)) (λ e. (cc e)) (bytes_eq-Decides a b))
under-eq (c ∷ qualifier) a b =
    same_from_decides _ _ (bytes_eq-Decides (c ∷ prefixed_name qualifier a) (c ∷ prefixed_name qualifier b))
    (Decides-like _ (ap (λ (t : List ℕ). c ∷ t)) (λ e. (cc e)) (bytes_eq-Decides (prefixed_name qualifier a) (prefixed_name qualifier b)))
    ∙ under-eq qualifier a b

pub has-under : (qualifier : List ℕ) (names : List (List ℕ)) (name : List ℕ) → has (map (prefixed_name qualifier) names) (prefixed_name qualifier name) ≡ has names name
has-under qualifier [] name = refl
has-under qualifier (x ∷ names) name =
    ap (λ (b : Bool). b || has (map (prefixed_name qualifier) names) (prefixed_name qualifier name)) (under-eq qualifier name x)
    ∙ ap (λ (b : Bool). bytes_eq name x || b) (has-under qualifier names name)

pub drop_at : (names : List (List ℕ)) (name : List ℕ) (i : ℕ) → i < length names → slice_get names i ≡ Some name → drop i names ≡ name ∷ drop (i + 1) names
drop_at names name i lt at = drop_more names i name lt ∙ ap (λ (n : List ℕ). n ∷ drop (i + 1) names) (get_or_from_slice_get names i name name at)

-- what is looked for from a place on
under_from : (known names : List (List ℕ)) (qualifier name : List ℕ) (i : ℕ) → i < length names → slice_get names i ≡ Some name
    → list_any (has known) (map (prefixed_name qualifier) (drop i names))
    ≡ (has known (prefixed_name qualifier name) || list_any (has known) (map (prefixed_name qualifier) (drop (i + 1) names)))
under_from known names qualifier name i lt at =
    ap (λ (ns : List (List ℕ)). list_any (has known) (map (prefixed_name qualifier) ns)) (drop_at names name i lt at)

pub under_found : (known names : List (List ℕ)) (qualifier name : List ℕ) (i : ℕ) (all : Bool) → i < length names → slice_get names i ≡ Some name
    → list_any (has known) (map (prefixed_name qualifier) (drop i names)) ≡ all → has known (prefixed_name qualifier name) ≡ true → true ≡ all
under_found known names qualifier name i all lt at h found =
    ap (λ (b : Bool). b || list_any (has known) (map (prefixed_name qualifier) (drop (i + 1) names))) (sym found)
    ∙ sym (under_from known names qualifier name i lt at) ∙ h

pub under_not : (known names : List (List ℕ)) (qualifier name : List ℕ) (i : ℕ) (all : Bool) → i < length names → slice_get names i ≡ Some name
    → list_any (has known) (map (prefixed_name qualifier) (drop i names)) ≡ all → has known (prefixed_name qualifier name) ≡ false
    → list_any (has known) (map (prefixed_name qualifier) (drop (i + 1) names)) ≡ all
under_not known names qualifier name i all lt at h absent =
    ap (λ (b : Bool). b || list_any (has known) (map (prefixed_name qualifier) (drop (i + 1) names))) (sym absent)
    ∙ sym (under_from known names qualifier name i lt at) ∙ h
