-- No set of a family passes a test where no list of marks gives one that does, and then no list of names is one.
use Rattle.std.proofs.Common.{◌≡◌, ◌↔◌, ℕ, Bool, true, false, not, ◌&&◌, ◌||◌, List, [], ◌∷◌, map, refl, sym, ap, ◌∙◌, subst, if◌then◌else◌, inl, inr}
use Rattle.std.specs.List.{list_any, list_all}
use Rattle.std.specs.Str.{bytes_eq}
use Rattle.std.proofs.lemmas.Bool.{and_parts, and_right, cases_Bool, false_from_ne_true, false≢true, not-true, or_from, or_parts}
use Rattle.std.proofs.lemmas.List.Folds.{list_any-append}
use Rattle.std.proofs.lemmas.Slice.Eq.{bytes_eq-Decides}
use Rattle.uvl_semantics.specs.Family.{marked}
use Rattle.uvl_semantics.specs.Family.{Family, IsTestOfSets, IsOfSets, sublists_of, some_set, is_void}
use Rattle.uvl_semantics.specs.Product.{has}
use Rattle.uvl_semantics.proofs.Membership.{member_of_all}

-- a test of what is behind one name
any-behind : (test : List (List ℕ) → Bool) (name : List ℕ) (sets : List (List (List ℕ)))
    → list_any test (map (λ set. name ∷ set) sets) ≡ list_any (λ set. test (name ∷ set)) sets
any-behind test name [] = refl
any-behind test name (set ∷ sets) = ap (λ b. test (name ∷ set) || b) (any-behind test name sets)

-- no sublist passes where no marked names do
pub no_sublist : (test : List (List ℕ) → Bool) (names : List (List ℕ)) → ((marks : List Bool) → test (marked names marks) ≡ false) → list_any test (sublists_of names) ≡ false
no_sublist test [] none = or_from _ _ (none []) refl
no_sublist test (name ∷ names) none =
    list_any-append test (map (λ set. name ∷ set) (sublists_of names)) (sublists_of names)
    ∙ or_from _ _
    (any-behind test name (sublists_of names) ∙ no_sublist (λ set. test (name ∷ set)) names (λ marks. none (true ∷ marks)))
    (no_sublist test names (λ marks. none (false ∷ marks)))

-- and then no marked names do where no sublist passes
pub no_marked : (test : List (List ℕ) → Bool) (names : List (List ℕ)) → list_any test (sublists_of names) ≡ false → (marks : List Bool) → test (marked names marks) ≡ false
no_marked test [] none marks = (or_parts _ _ none).0
no_marked test (name ∷ names) none marks =
    let parts = or_parts _ _ (sym (list_any-append test (map (λ set. name ∷ set) (sublists_of names)) (sublists_of names)) ∙ none) in
    by marks (no_marked (λ set. test (name ∷ set)) names (sym (any-behind test name (sublists_of names)) ∙ parts.0)) (no_marked test names parts.1)
  where
    by : (bs : List Bool) → ((cs : List Bool) → test (name ∷ marked names cs) ≡ false) → ((cs : List Bool) → test (marked names cs) ≡ false) → test (marked (name ∷ names) bs) ≡ false
    by [] with_name without = subst (λ (set : List (List ℕ)). test set ≡ false) (marked-nil names) (without [])
      where
        marked-nil : (ns : List (List ℕ)) → marked ns [] ≡ []
        marked-nil [] = refl
        marked-nil (n ∷ ns) = refl
    by (true ∷ cs) with_name without = with_name cs
    by (false ∷ cs) with_name without = without cs

-- equal names are in a set alike
alike : (set : List (List ℕ)) (x y : List ℕ) (b : Bool) → bytes_eq x y ≡ true → has set y ≡ b → has set x ≡ b
alike set x y b same is = ap (has set) ((bytes_eq-Decides x y).0 same) ∙ is

-- the names that a set marks are those that both have
both_have : (set names : List (List ℕ)) (x : List ℕ) → has (marked names (map (has set) names)) x ≡ (has names x && has set x)
both_have set [] x = refl
both_have set (y ∷ ys) x =
    let later = both_have set ys x in
    elim (cases_Bool (bytes_eq x y)) [
      | inl same ↦ here (marked ys (map (has set) ys)) (has set y) (alike set x y (has set y) same refl) same later
      | inr other ↦ there (marked ys (map (has set) ys)) (has set y) other later
    ]
  where
    here : (rest : List (List ℕ)) (b : Bool) → has set x ≡ b → bytes_eq x y ≡ true → has rest x ≡ (has ys x && has set x)
        → has (if b then y ∷ rest else rest) x ≡ ((bytes_eq x y || has ys x) && has set x)
    here rest true is same later = rw (same, is) refl
    here rest false is same later = rw (same, later, is) (and_right (has ys x) false refl)

    there : (rest : List (List ℕ)) (b : Bool) → bytes_eq x y ≡ false → has rest x ≡ (has ys x && has set x)
        → has (if b then y ∷ rest else rest) x ≡ ((bytes_eq x y || has ys x) && has set x)
    there rest true other later = rw (other, later) refl
    there rest false other later = rw (other, later) refl

-- a set of names and those of them that it marks have the same members
as_marked : (set names : List (List ℕ)) → list_all (has names) set ≡ true → (x : List ℕ) → has (marked names (map (has set) names)) x ≡ has set x
as_marked set names named x = both_have set names x ∙ within (has set x) refl
  where
    within : (b : Bool) → has set x ≡ b → (has names x && b) ≡ b
    within true is = rw (member_of_all names set named x is) refl
    within false is = and_right (has names x) false refl

-- where no marks give a set of the family that passes the test, there is none
pub some_set-none : (family : Family) (test : List (List ℕ) → Bool)
    → ((marks : List Bool) → (family.contains (marked family.names marks) && test (marked family.names marks)) ≡ false) → some_set family test ≡ false
some_set-none family test none = no_sublist (λ set. family.contains set && test set) family.names none

-- and then no list of names is one
none-some_set : (family : Family) (test : List (List ℕ) → Bool) → IsOfSets family → IsTestOfSets test → some_set family test ≡ false
    → (set : List (List ℕ)) → (family.contains set && test set) ≡ false
none-some_set family test sets alike_test none set = false_from_ne_true _ (λ both.
    let here = (and_parts (family.contains set) (test set) both).0 in
    let same = as_marked set family.names (sets.named set here) in
    let marks = map (has set) family.names in
    let no_set = no_marked (λ names. family.contains names && test names) family.names none marks in
    let passes : (family.contains (marked family.names marks) && test (marked family.names marks)) ≡ true =
    rw (sets.by_members (marked family.names marks) set same, alike_test (marked family.names marks) set same) both in
    false≢true (sym no_set ∙ passes))

-- some sublist passes exactly where some list of names does
pub some_set-exactly : (family : Family) (test : List (List ℕ) → Bool) → IsOfSets family → IsTestOfSets test
    → (some_set family test ≡ false) ↔ ((set : List (List ℕ)) → (family.contains set && test set) ≡ false)
some_set-exactly family test sets alike_test =
    (none-some_set family test sets alike_test, λ none. some_set-none family test (λ marks. none (marked family.names marks)))

-- a family is void where no marks give a set of it
pub is_void-none : (family : Family) → ((marks : List Bool) → family.contains (marked family.names marks) ≡ false) → is_void family ≡ true
is_void-none family none = ap not (some_set-none family (λ set. true) (λ marks. and_left (none marks)))
  where
    and_left : {b : Bool} → b ≡ false → (b && true) ≡ false
    and_left h = rw h refl

-- and exactly where no list of names is in it
pub is_void-exactly : (family : Family) → IsOfSets family → (is_void family ≡ true) ↔ ((set : List (List ℕ)) → family.contains set ≡ false)
is_void-exactly family sets = (
  λ void set. false_from_ne_true _ (λ here.
      let none = none-some_set family (λ set. true) sets (λ first second same. refl) (not-true _ void) set in
      false≢true (sym none ∙ rw here refl)),
  λ none. is_void-none family (λ marks. none (marked family.names marks)),
)
