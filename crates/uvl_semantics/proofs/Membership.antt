-- Membership in a list of names, as a test and as a fact.
use Rattle.std.proofs.Common.{◌≡◌, ◌↔◌, ℕ, Bool, true, false, List, [], ◌∷◌, Option, is_some, Contains, refl, sym, subst, if◌then◌else◌, inl, inr, ◌∙◌, arith}
use Rattle.std.specs.Prelude.{IsSome}
use Rattle.std.specs.List.{list_all}
use Rattle.std.specs.Str.{bytes_eq}
use Rattle.std.proofs.lemmas.Bool.{and_from, and_parts, false_from_ne_true, false≢true, or_cases, or_from, or_left, or_parts, or_right}
use Rattle.std.proofs.lemmas.Bool.Decides.{same_from_decides}
use Rattle.std.proofs.lemmas.List.Folds.{list_any_at}
use Rattle.std.proofs.lemmas.Slice.Eq.{bytes_eq-Decides}
use Rattle.std.proofs.lemmas.List.Elements.{Contains-append_right, Contains-get_or}
use Rattle.uvl_semantics.specs.Family.{marked}
use Rattle.uvl_semantics.specs.Product.{has}

-- a name equals itself
pub bytes_eq-same : (x : List ℕ) → bytes_eq x x ≡ true
bytes_eq-same x = (bytes_eq-Decides x x).1 refl

-- the test finds what the list contains
pub has-from_Contains : (set : List (List ℕ)) (x : List ℕ) → Contains set x → has set x ≡ true
has-from_Contains set x c = list_any_at (bytes_eq x) set c.0 x c.1 ((bytes_eq-Decides _ _).1 (sym c.2))

pub Contains-from_has : (set : List (List ℕ)) (x : List ℕ) → has set x ≡ true → Contains set x
Contains-from_has [] x h = absurd (false≢true h)
Contains-from_has (y ∷ ys) x h =
    elim (or_cases (bytes_eq x y) (has ys x) h) [
      | inl same ↦ subst (λ (z : List ℕ). Contains (y ∷ ys) z) (sym ((bytes_eq-Decides x y).0 same)) (Contains-get_or (y ∷ ys) 0 y (omega arith))
      | inr there ↦ Contains-append_right (y ∷ []) ys x (Contains-from_has ys x there)
    ]

-- so a name is found where the test finds it
pub found_is_has : {A : Type 0} (names : List (List ℕ)) (name : List ℕ) (found : Option A) → (IsSome found ↔ Contains names name) → is_some found ≡ has names name
found_is_has names name found known =
    same_from_decides (is_some found) (has names name)
    ((λ some. has-from_Contains names name (known.0 some)), (λ h. known.1 (Contains-from_has names name h)))
    ((λ h. h), (λ h. h))

-- and no other
pub has-absent : (set : List (List ℕ)) (x : List ℕ) → (Contains set x → ⊥) → has set x ≡ false
has-absent set x out = false_from_ne_true _ (λ h. out (Contains-from_has set x h))

-- a name of the list differs from one that is not in it
pub bytes_eq-other : (set : List (List ℕ)) (x y : List ℕ) → (Contains set y → ⊥) → Contains set x → bytes_eq x y ≡ false
bytes_eq-other set x y out c = false_from_ne_true _ (λ h. out (subst (λ (z : List ℕ). Contains set z) ((bytes_eq-Decides x y).0 h) c))

-- the marked names are among the names
pub marked_absent : (names : List (List ℕ)) (marks : List Bool) (x : List ℕ) → has names x ≡ false → has (marked names marks) x ≡ false
marked_absent [] marks x h = refl
marked_absent (y ∷ ys) [] x h = refl
marked_absent (y ∷ ys) (b ∷ bs) x h =
    let parts = or_parts (bytes_eq x y) (has ys x) h in
    elim b as (λ v. has (if v then y ∷ marked ys bs else marked ys bs) x ≡ false)
    [ true ↦ or_from _ _ parts.0 (marked_absent ys bs x parts.1) | false ↦ marked_absent ys bs x parts.1 ]

-- what is among some names is among them and one more
all_have_more : (set names : List (List ℕ)) (y : List ℕ) → list_all (has names) set ≡ true → list_all (has (y ∷ names)) set ≡ true
all_have_more [] names y h = refl
all_have_more (x ∷ xs) names y h =
    let parts = and_parts (has names x) (list_all (has names) xs) h in
    and_from _ _ (or_right (bytes_eq x y) _ parts.0) (all_have_more xs names y parts.1)

pub marked_within : (names : List (List ℕ)) (marks : List Bool) → list_all (has names) (marked names marks) ≡ true
marked_within [] marks = refl
marked_within (y ∷ ys) [] = refl
marked_within (y ∷ ys) (b ∷ bs) =
    let others = all_have_more (marked ys bs) ys y (marked_within ys bs) in
    elim b as (λ v. list_all (has (y ∷ ys)) (if v then y ∷ marked ys bs else marked ys bs) ≡ true)
    [ true ↦ and_from _ _ (or_left _ _ (bytes_eq-same y)) others | false ↦ others ]

-- all of a set is among names where each of its members is
all_have-from_members : (names set : List (List ℕ)) → ((x : List ℕ) → has set x ≡ true → has names x ≡ true) → list_all (has names) set ≡ true
all_have-from_members names [] each = refl
all_have-from_members names (x ∷ xs) each =
    and_from _ _ (each x (or_left _ _ (bytes_eq-same x))) (all_have-from_members names xs (λ y h. each y (or_right (bytes_eq y x) _ h)))

-- and then each member is
pub member_of_all : (names set : List (List ℕ)) → list_all (has names) set ≡ true → (x : List ℕ) → has set x ≡ true → has names x ≡ true
member_of_all names [] all x h = absurd (false≢true h)
member_of_all names (y ∷ ys) all x h =
    let parts = and_parts (has names y) (list_all (has names) ys) all in
    elim (or_cases (bytes_eq x y) (has ys x) h) [
      | inl same ↦ subst (λ (z : List ℕ). has names z ≡ true) (sym ((bytes_eq-Decides x y).0 same)) parts.0
      | inr there ↦ member_of_all names ys parts.1 x there
    ]

-- so it is said alike of sets with the same members
pub all_have-same : (names first second : List (List ℕ)) → ((x : List ℕ) → has first x ≡ has second x) → list_all (has names) first ≡ list_all (has names) second
all_have-same names first second same =
    let to : list_all (has names) first ≡ true → list_all (has names) second ≡ true =
    λ h. all_have-from_members names second (λ x e. member_of_all names first h x (same x ∙ e)) in
    let back : list_all (has names) second ≡ true → list_all (has names) first ≡ true =
    λ h. all_have-from_members names first (λ x e. member_of_all names second h x (sym (same x) ∙ e)) in
    same_from_decides (list_all (has names) first) (list_all (has names) second) (to, back) ((λ h. h), (λ h. h))
