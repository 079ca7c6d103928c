-- The first part of a list that passes a test: it passes, and no part with one member fewer does.
use Rattle.std.proofs.Common.{◌≡◌, Bool, true, false, ◌||◌, List, [], ◌∷◌, ◌++◌, map, Option, Some, None, refl, sym, ap, subst, ◌∙◌, if◌then◌else◌}
use Rattle.std.specs.List.{list_any, list_all}
use Rattle.std.specs.Option.{option_map}
use Rattle.std.proofs.lemmas.Bool.{and_from, and_parts, or_from}
use Rattle.std.proofs.lemmas.Option.{none-some, cond_some}
use Rattle.uvl_decisions.specs.Explanation.{parts_of, first_with, without_one}

pub same-some : {A : Type 0} (x y : A) → Some x ≡ Some y → x ≡ y
same-some x y h = (cond_some true x y h).1

module _ {A : Type 0} where
  -- what is found passes
  pub found-passes : (test : A → Bool) (items : List A) (found : A) → first_with test items ≡ Some found → test found ≡ true
  found-passes test [] found h = absurd (none-some found h)
  found-passes test (item ∷ items) found h = by (test item) refl (found-passes test items found) h
    where
      by : (b : Bool) → test item ≡ b → (first_with test items ≡ Some found → test found ≡ true)
          → (if b then Some item else first_with test items) ≡ Some found → test found ≡ true
      by true is later h = subst (λ (one : A). test one ≡ true) (same-some item found h) is
      by false is later h = later h

  -- what one test finds fails another that finds nothing
  found-fails : (test other : A → Bool) (items : List A) (found : A) → first_with test items ≡ None → first_with other items ≡ Some found
      → test found ≡ false
  found-fails test other [] found none h = absurd (none-some found h)
  found-fails test other (item ∷ items) found none h = by (test item) (other item) refl (found-fails test other items found) none h
    where
      by : (a b : Bool) → test item ≡ a → (first_with test items ≡ None → first_with other items ≡ Some found → test found ≡ false)
          → (if a then Some item else first_with test items) ≡ None
          → (if b then Some item else first_with other items) ≡ Some found → test found ≡ false
      by true b is later none h = absurd (none-some item (sym none))
      by false true is later none h = subst (λ (one : A). test one ≡ false) (same-some item found h) is
      by false false is later none h = later none h

  -- the first of two lists one behind the other
  behind-none : (test : A → Bool) (xs ys : List A) → first_with test xs ≡ None → first_with test (xs ++ ys) ≡ first_with test ys
  behind-none test [] ys h = refl
  behind-none test (x ∷ xs) ys h = by (test x) (behind-none test xs ys) h
    where
      by : (b : Bool) → (first_with test xs ≡ None → first_with test (xs ++ ys) ≡ first_with test ys)
          → (if b then Some x else first_with test xs) ≡ None → (if b then Some x else first_with test (xs ++ ys)) ≡ first_with test ys
      by true later h = absurd (none-some x (sym h))
      by false later h = later h

  in_front-some : (test : A → Bool) (xs ys : List A) (found : A) → first_with test xs ≡ Some found → first_with test (xs ++ ys) ≡ Some found
  in_front-some test [] ys found h = absurd (none-some found h)
  in_front-some test (x ∷ xs) ys found h = by (test x) (in_front-some test xs ys found) h
    where
      by : (b : Bool) → (first_with test xs ≡ Some found → first_with test (xs ++ ys) ≡ Some found)
          → (if b then Some x else first_with test xs) ≡ Some found → (if b then Some x else first_with test (xs ++ ys)) ≡ Some found
      by true later h = h
      by false later h = later h

module _ {A : Type 0} where
  -- with one item in front of each
  first-led : (test : List A → Bool) (x : A) (parts : List (List A))
      → first_with test (map (λ part. x ∷ part) parts) ≡ option_map (λ part. x ∷ part) (first_with (λ part. test (x ∷ part)) parts)
  first-led test x [] = refl
  first-led test x (part ∷ parts) = by (test (x ∷ part)) (first-led test x parts)
    where
      by : (b : Bool)
          → first_with test (map (λ part. x ∷ part) parts) ≡ option_map (λ part. x ∷ part) (first_with (λ part. test (x ∷ part)) parts)
          → (if b then Some (x ∷ part) else first_with test (map (λ part. x ∷ part) parts))
          ≡ option_map (λ part. x ∷ part) (if b then Some part else first_with (λ part. test (x ∷ part)) parts)
      by true later = refl
      by false later = later

  any-led : (test : List A → Bool) (x : A) (parts : List (List A))
      → list_any test (map (λ part. x ∷ part) parts) ≡ list_any (λ part. test (x ∷ part)) parts
  any-led test x [] = refl
  any-led test x (part ∷ parts) = ap (λ b. test (x ∷ part) || b) (any-led test x parts)

  -- where the first part is found: among those without the first item, or among those with it
  data Found (test : List A → Bool) (x : A) (xs found : List A) : Type 0 where
    dropped : first_with test (parts_of xs) ≡ Some found → Found test x xs found
    kept : first_with test (parts_of xs) ≡ None → (rest : List A) → first_with (λ part. test (x ∷ part)) (parts_of xs) ≡ Some rest
        → x ∷ rest ≡ found → Found test x xs found

  where_found : (test : List A → Bool) (x : A) (xs found : List A) → first_with test (parts_of (x ∷ xs)) ≡ Some found → Found test x xs found
  where_found test x xs found h = by (first_with test (parts_of xs)) refl
    where
      rest : (o : Option (List A)) → first_with (λ part. test (x ∷ part)) (parts_of xs) ≡ o → option_map (λ part. x ∷ part) o ≡ Some found
          → first_with test (parts_of xs) ≡ None → Found test x xs found
      rest None is led none = absurd (none-some found led)
      rest (Some part) is led none = kept none part is (same-some (x ∷ part) found led)

      by : (o : Option (List A)) → first_with test (parts_of xs) ≡ o → Found test x xs found
      by (Some part) is = dropped (is ∙ sym (in_front-some test (parts_of xs) (map (λ part. x ∷ part) (parts_of xs)) part is) ∙ h)
      by None is =
          rest (first_with (λ part. test (x ∷ part)) (parts_of xs)) refl
          (sym (first-led test x (parts_of xs)) ∙ sym (behind-none test (parts_of xs) (map (λ part. x ∷ part) (parts_of xs)) is) ∙ h) is

  -- no part with one member fewer passes
  pub least : (test : List A → Bool) (items found : List A) → first_with test (parts_of items) ≡ Some found → list_any test (without_one found) ≡ false
  least test [] found h = by (test []) h
    where
      by : (b : Bool) → (if b then Some [] else None) ≡ Some found → list_any test (without_one found) ≡ false
      by true h = subst (λ (one : List A). list_any test (without_one one) ≡ false) (same-some [] found h) refl
      by false h = absurd (none-some found h)
  least test (x ∷ xs) found h = by (where_found test x xs found h) (least test xs found) (least (λ part. test (x ∷ part)) xs)
    where
      by : Found test x xs found → (first_with test (parts_of xs) ≡ Some found → list_any test (without_one found) ≡ false)
          → ((rest : List A) → first_with (λ part. test (x ∷ part)) (parts_of xs) ≡ Some rest → list_any (λ part. test (x ∷ part)) (without_one rest) ≡ false)
          → list_any test (without_one found) ≡ false
      by (dropped there) later led = later there
      by (kept none rest there same) later led =
          subst (λ (one : List A). list_any test (without_one one) ≡ false) same
          (or_from _ _ (found-fails test (λ part. test (x ∷ part)) (parts_of xs) rest none there)
          (any-led test x (without_one rest) ∙ led rest there))

  -- the whole list fails where no part passes
  pub whole-fails : (test : List A → Bool) (items : List A) → first_with test (parts_of items) ≡ None → test items ≡ false
  whole-fails test [] h = by (test []) refl h
    where
      nothing : Option (List A)
      nothing = None

      by : (b : Bool) → test [] ≡ b → (if b then Some [] else nothing) ≡ nothing → test [] ≡ false
      by true is h = absurd (none-some [] (sym h))
      by false is h = is
  whole-fails test (x ∷ xs) h = by (first_with test (parts_of xs)) refl (whole-fails (λ part. test (x ∷ part)) xs)
    where
      led : (o : Option (List A)) → option_map (λ part. x ∷ part) o ≡ None → o ≡ None
      led None h = refl
      led (Some part) h = absurd (none-some (x ∷ part) (sym h))

      by : (o : Option (List A)) → first_with test (parts_of xs) ≡ o
          → (first_with (λ part. test (x ∷ part)) (parts_of xs) ≡ None → test (x ∷ xs) ≡ false) → test (x ∷ xs) ≡ false
      by (Some part) is later = absurd (none-some part (sym h ∙ in_front-some test (parts_of xs) (map (λ part. x ∷ part) (parts_of xs)) part is))
      by None is later =
          later (led (first_with (λ part. test (x ∷ part)) (parts_of xs))
          (sym (first-led test x (parts_of xs)) ∙ sym (behind-none test (parts_of xs) (map (λ part. x ∷ part) (parts_of xs)) is) ∙ h))

  -- what all of a list have, all of a part have
  pub part-all : (has : A → Bool) (test : List A → Bool) (items found : List A) → first_with test (parts_of items) ≡ Some found
      → list_all has items ≡ true → list_all has found ≡ true
  part-all has test [] found h each = by (test []) h
    where
      by : (b : Bool) → (if b then Some [] else None) ≡ Some found → list_all has found ≡ true
      by true h = subst (λ (one : List A). list_all has one ≡ true) (same-some [] found h) refl
      by false h = absurd (none-some found h)
  part-all has test (x ∷ xs) found h each =
      let parts = and_parts (has x) (list_all has xs) each in
      by (where_found test x xs found h) parts.0
      (λ there. part-all has test xs found there parts.1)
      (λ rest there. part-all has (λ part. test (x ∷ part)) xs rest there parts.1)
    where
      by : Found test x xs found → has x ≡ true → (first_with test (parts_of xs) ≡ Some found → list_all has found ≡ true)
          → ((rest : List A) → first_with (λ part. test (x ∷ part)) (parts_of xs) ≡ Some rest → list_all has rest ≡ true) → list_all has found ≡ true
      by (dropped there) first later led = later there
      by (kept none rest there same) first later led =
          subst (λ (one : List A). list_all has one ≡ true) same (and_from _ _ first (led rest there))
