-- Names under a qualifier among names.
use Rattle.std.proofs.Common.{◌≡◌, ℕ, ◌+◌, ◌<◌, ◌≤◌, Bool, true, false, not, List, [], ◌∷◌, ◌++◌, map, take, drop, length, get_or, Some, slice_get, refl, sym, ap, ◌∙◌, subst, if◌then◌else◌}
use Rattle.std.specs.Prelude.{◌||◌}
use Rattle.std.specs.List.{list_any}
use Rattle.std.specs.Str.{bytes_eq}
use Rattle.std.proofs.lemmas.Bool.{false≢true}
use Rattle.std.proofs.lemmas.Bool.Decides.{same_from_decides}
use Rattle.std.proofs.lemmas.List.{take_more, take_all, drop_all, map-append, append_assoc, append-nil}
use Rattle.std.proofs.lemmas.Option.{get_or_from_slice_get}
use Rattle.std.proofs.lemmas.Slice.Eq.{bytes_eq-Decides}
use Rattle.uvl_imports.specs.Texts.{AreDistinct}
use Rattle.uvl_semantics.specs.Prefix.{prefixed_name}
use Rattle.uvl_semantics.specs.Product.{has}
use Rattle.uvl_scope.proofs.Distinct.{eq-sym, has-under, not_in_front, under_found, under_not, drop_at}

no_is : (b : Bool) → not b ≡ false → b ≡ true
no_is true h = refl
no_is false h = absurd (false≢true (sym h))

yes_is : (b : Bool) → not b ≡ true → b ≡ false
yes_is false h = refl
yes_is true h = absurd (false≢true h)

or_right : (a b : Bool) → (a || b) ≡ true → b ≡ false → a ≡ true
or_right true b h none = refl
or_right false b h none = absurd (false≢true (sym none ∙ h))

or_left : (a b : Bool) → (a || b) ≡ false → a ≡ false
or_left false b h = refl
or_left true b h = absurd (false≢true (sym h))

assoc_or : (a b c : Bool) → ((a || b) || c) ≡ (a || (b || c))
assoc_or true b c = refl
assoc_or false b c = refl

has-both : (xs ys : List (List ℕ)) (name : List ℕ) → has (xs ++ ys) name ≡ (has xs name || has ys name)
has-both [] ys name = refl
has-both (x ∷ xs) ys name = ap (λ (b : Bool). bytes_eq name x || b) (has-both xs ys name) ∙ sym (assoc_or (bytes_eq name x) (has xs name) (has ys name))

-- the names in front are added, and none of them was there
pub record UnderGoOn (start here names : List (List ℕ)) (qualifier : List ℕ) (i : ℕ) : Type 0 where
  pub here_is : here ≡ start ++ map (prefixed_name qualifier) (take i names)
  pub left : list_any (has start) (map (prefixed_name qualifier) (drop i names)) ≡ list_any (has start) (map (prefixed_name qualifier) names)

pub under_begin : (start names : List (List ℕ)) (qualifier : List ℕ) → UnderGoOn start start names qualifier 0
under_begin start names qualifier = record { here_is = sym (append-nil start); left = refl }

module _ (start here names : List (List ℕ)) (qualifier name : List ℕ) (i : ℕ) (go : UnderGoOn start here names qualifier i)
    (distinct : AreDistinct names) (lt : i < length names) (at : slice_get names i ≡ Some name) where
  -- the name is none of those that are added
  not_added : has (map (prefixed_name qualifier) (take i names)) (prefixed_name qualifier name) ≡ false
  not_added =
      has-under qualifier (take i names) name
      ∙ subst (λ (n : List ℕ). has (take i names) n ≡ false) (get_or_from_slice_get names i name name at) (not_in_front names i name distinct lt)

  here_has : has here (prefixed_name qualifier name) ≡ (has start (prefixed_name qualifier name) || has (map (prefixed_name qualifier) (take i names)) (prefixed_name qualifier name))
  here_has = ap (λ (ns : List (List ℕ)). has ns (prefixed_name qualifier name)) go.here_is ∙ has-both start (map (prefixed_name qualifier) (take i names)) (prefixed_name qualifier name)

  -- it is there already
  pub under_there : (is_new : Bool) → is_new ≡ not (has here (prefixed_name qualifier name)) → is_new ≡ false
      → false ≡ not (list_any (has start) (map (prefixed_name qualifier) names))
  under_there is_new tells old =
      let found : has start (prefixed_name qualifier name) ≡ true =
      or_right (has start (prefixed_name qualifier name)) (has (map (prefixed_name qualifier) (take i names)) (prefixed_name qualifier name))
      (sym here_has ∙ no_is (has here (prefixed_name qualifier name)) (sym tells ∙ old)) not_added in
      ap not (under_found start names qualifier name i (list_any (has start) (map (prefixed_name qualifier) names)) lt at go.left found)

  -- it is new
  pub under_more : (is_new : Bool) (new : List (List ℕ)) → is_new ≡ not (has here (prefixed_name qualifier name)) → is_new ≡ true
      → new ≡ (if is_new then here ++ prefixed_name qualifier name ∷ [] else here) → UnderGoOn start new names qualifier (i + 1)
  under_more is_new new tells fresh becomes =
      let absent : has here (prefixed_name qualifier name) ≡ false = yes_is (has here (prefixed_name qualifier name)) (sym tells ∙ fresh) in
      let unknown : has start (prefixed_name qualifier name) ≡ false =
      or_left (has start (prefixed_name qualifier name)) (has (map (prefixed_name qualifier) (take i names)) (prefixed_name qualifier name)) (sym here_has ∙ absent) in
      let same : get_or names i name ≡ name = get_or_from_slice_get names i name name at in
      record {
        here_is = becomes ∙ ap (λ (b : Bool). if b then here ++ prefixed_name qualifier name ∷ [] else here) fresh
            ∙ ap (λ (front : List (List ℕ)). front ++ prefixed_name qualifier name ∷ []) go.here_is
            ∙ append_assoc start (map (prefixed_name qualifier) (take i names)) (prefixed_name qualifier name ∷ [])
            ∙ ap (λ (ns : List (List ℕ)). start ++ ns)
            (sym (map-append (prefixed_name qualifier) (take i names) (name ∷ []))
            ∙ ap (map (prefixed_name qualifier)) (ap (λ (n : List ℕ). take i names ++ n ∷ []) (sym same) ∙ sym (take_more names i name lt)));
        left = under_not start names qualifier name i (list_any (has start) (map (prefixed_name qualifier) names)) lt at go.left unknown;
      }

-- all names are added, and none was there
pub under_none : (start here names : List (List ℕ)) (qualifier : List ℕ) (i : ℕ) → UnderGoOn start here names qualifier i → length names ≤ i
    → true ≡ not (list_any (has start) (map (prefixed_name qualifier) names))
under_none start here names qualifier i go past =
    ap not (ap (λ (ns : List (List ℕ)). list_any (has start) (map (prefixed_name qualifier) ns)) (sym (drop_all i names past)) ∙ go.left)

pub under_all : (start here names : List (List ℕ)) (qualifier : List ℕ) (i : ℕ) → UnderGoOn start here names qualifier i → length names ≤ i
    → here ≡ start ++ map (prefixed_name qualifier) names
under_all start here names qualifier i go past =
    go.here_is ∙ ap (λ (ns : List (List ℕ)). start ++ map (prefixed_name qualifier) ns) (take_all i names past)

-- some of others is in the list where some of the list is in the others
any_of : (xs : List (List ℕ)) (y : List ℕ) (ys : List (List ℕ)) → list_any (has (y ∷ ys)) xs ≡ (has xs y || list_any (has ys) xs)
any_of [] y ys = refl
any_of (x ∷ xs) y ys =
    ap (λ (b : Bool). (bytes_eq x y || has ys x) || b) (any_of xs y ys) ∙ ap (λ (b : Bool). (b || has ys x) || (has xs y || list_any (has ys) xs)) (eq-sym x y)
    ∙ swap (bytes_eq y x) (has ys x) (has xs y) (list_any (has ys) xs)
  where
    swap : (a b c d : Bool) → ((a || b) || (c || d)) ≡ ((a || c) || (b || d))
    swap true b c d = refl
    swap false true true d = refl
    swap false true false d = refl
    swap false false c d = refl

pub any_either : (xs ys : List (List ℕ)) → list_any (has ys) xs ≡ list_any (has xs) ys
any_either xs [] = none xs
  where
    none : (zs : List (List ℕ)) → list_any (has []) zs ≡ false
    none [] = refl
    none (z ∷ zs) = none zs
any_either xs (y ∷ ys) = any_of xs y ys ∙ ap (λ (b : Bool). has xs y || b) (any_either xs ys)

-- a name that is no name under the qualifier is none of some
pub not_under : (qualifier name : List ℕ) (names : List (List ℕ)) → ((rest : List ℕ) → name ≡ prefixed_name qualifier rest → ⊥)
    → has (map (prefixed_name qualifier) names) name ≡ false
not_under qualifier name [] h = refl
not_under qualifier name (n ∷ names) h =
    ap (λ (b : Bool). b || has (map (prefixed_name qualifier) names) name) (same_from_decides _ false (bytes_eq-Decides name (prefixed_name qualifier n)) (λ e. absurd (false≢true e), λ e. absurd (h n e)))
    ∙ not_under qualifier name names h

pub under_same : (qualifier name rest : List ℕ) (names : List (List ℕ)) → name ≡ prefixed_name qualifier rest
    → has names rest ≡ has (map (prefixed_name qualifier) names) name
under_same qualifier name rest names is = sym (ap (has (map (prefixed_name qualifier) names)) is ∙ has-under qualifier names rest)

-- a search through names, at a place
module _ (test : List ℕ → Bool) (names : List (List ℕ)) (name : List ℕ) (i : ℕ) (all : Bool) (lt : i < length names) (at : slice_get names i ≡ Some name)
    (left : list_any test (drop i names) ≡ all) where
  pub found_here : test name ≡ true → true ≡ all
  found_here found = ap (λ (b : Bool). b || list_any test (drop (i + 1) names)) (sym found) ∙ sym (ap (list_any test) (drop_at names name i lt at)) ∙ left

  pub found_later : test name ≡ false → list_any test (drop (i + 1) names) ≡ all
  found_later none = ap (λ (b : Bool). b || list_any test (drop (i + 1) names)) (sym none) ∙ sym (ap (list_any test) (drop_at names name i lt at)) ∙ left
