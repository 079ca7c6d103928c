-- A name with a text in front is a name.
use Rattle.std.proofs.Common.{◌≡◌, ℕ, List, [], ◌∷◌, ◌++◌, length, Bool, true, refl, sym, ap, ◌∙◌, subst, arith, IsTrue}
use Rattle.std.specs.Prelude.{◌&&◌, not, ◌==◌, IsUtf8, chars}
use Rattle.std.specs.List.{list_all}
use Rattle.std.proofs.lemmas.Bool.{false≢true, and_from, and_parts}
use Rattle.std.proofs.lemmas.Bool.Decides.{nat_tests}
use Rattle.std.proofs.lemmas.List.Folds.{list_all-append}
use Rattle.std.proofs.lemmas.Str.{chars-append}
use Rattle.uvl_base.specs.Name.{is_name, may_stand_in_name, characters_of}

some_there : (x : ℕ) (xs : List ℕ) → not (length (x ∷ xs) == 0) ≡ true
some_there x xs = grind (arith, nat_tests)

-- a name with a text in front, each character of which may stand in a name
longer_name : (front name : List ℕ) → IsTrue (list_all may_stand_in_name front) → IsTrue (is_name name) → IsTrue (is_name (front ++ name))
longer_name [] name h is = is
longer_name (c ∷ cs) name h is =
    and_from (not (length ((c ∷ cs) ++ name) == 0)) (list_all may_stand_in_name ((c ∷ cs) ++ name)) (some_there c (cs ++ name))
    (list_all-append may_stand_in_name (c ∷ cs) name
    ∙ ap (λ (b : Bool). b && list_all may_stand_in_name name) h
    ∙ (and_parts (not (length name == 0)) (list_all may_stand_in_name name) is).1)

-- the characters of a name are not read as a blank name
name_is_itself : (name : List ℕ) → IsTrue (is_name name) → characters_of name ≡ name
name_is_itself [] is = absurd (false≢true is)
name_is_itself (c ∷ cs) is = refl

module _ (empty some all front name named : List ℕ) (utf8 : IsUtf8 front) (e1 : empty ≡ []) (e2 : some ≡ empty ++ front) (e3 : all ≡ some ++ name)
    (is : chars name ≡ named) where
  -- the characters of a text and a name behind it
  pub both_characters : chars all ≡ chars front ++ named
  both_characters =
      ap chars (e3 ∙ ap (λ (xs : List ℕ). xs ++ name) (e2 ∙ ap (λ (xs : List ℕ). xs ++ front) e1))
      ∙ chars-append front name utf8 ∙ ap (λ (xs : List ℕ). chars front ++ xs) is

  module _ (h : IsTrue (list_all may_stand_in_name (chars front))) (good : IsTrue (is_name named)) where
    whole_is_name : IsTrue (is_name (chars all))
    whole_is_name = subst (λ (xs : List ℕ). IsTrue (is_name xs)) (sym both_characters) (longer_name (chars front) named h good)

    pub reads_as_both : characters_of (chars all) ≡ chars front ++ named
    reads_as_both = name_is_itself (chars all) whole_is_name ∙ both_characters

    pub is_name_as_read : IsTrue (is_name (characters_of (chars all)))
    is_name_as_read = subst (λ (xs : List ℕ). IsTrue (is_name xs)) (sym (name_is_itself (chars all) whole_is_name)) whole_is_name
