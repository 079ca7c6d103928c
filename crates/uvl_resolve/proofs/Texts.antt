-- Texts to which names are put.
use Rattle.std.proofs.Common.{◌≡◌, ℕ, ◌+◌, ◌<◌, List, [], ◌∷◌, ◌++◌, length, drop, get_or, Bool, true, refl, sym, ap, ◌∙◌, arith, IsTrue}
use Rattle.std.specs.Prelude.{◌&&◌, not, ◌==◌, Result, Ok, Err, OnOk}
use Rattle.std.specs.Str.{IsUtf8, chars}
use Rattle.std.specs.List.{list_all}
use Rattle.std.proofs.lemmas.Bool.{and_from, and_parts}
use Rattle.std.proofs.lemmas.Bool.Decides.{nat_tests}
use Rattle.std.proofs.lemmas.List.{drop_more}
use Rattle.std.proofs.lemmas.List.Folds.{list_all-append}
use Rattle.std.proofs.lemmas.Str.{chars-append, chars-encodes}
use Rattle.uvl_base.specs.Name.{is_name, may_stand_in_name}
use Rattle.uvl_resolve.specs.Under.{MayStandInName}

-- the item at an index is the first of what is left there
pub next_item : {A : Type 0} (all : List A) (i : ℕ) (item : A) → i < length all → item ≡ get_or all i item → drop i all ≡ item ∷ drop (i + 1) all
next_item {A} all i item h is = drop_more all i item h ∙ ap (λ (x : A). x ∷ drop (i + 1) all) (sym is)

-- the characters of a text with more behind it
pub pushed : (old new more cs : List ℕ) → IsUtf8 old → new ≡ old ++ more → chars more ≡ cs → chars new ≡ chars old ++ cs
pushed old new more cs utf8 e f = ap chars e ∙ chars-append old more utf8 ∙ ap (λ (xs : List ℕ). chars old ++ xs) f

-- both texts may stand in a name
pub both_stand : (front behind : List ℕ) → MayStandInName front → MayStandInName behind → MayStandInName (front ++ behind)
both_stand front behind h k = list_all-append may_stand_in_name front behind ∙ ap (λ (b : Bool). b && list_all may_stand_in_name behind) h ∙ k

-- so may a name
pub name_stands : (name : List ℕ) → IsTrue (is_name name) → MayStandInName name
name_stands name is = (and_parts (not (length name == 0)) (list_all may_stand_in_name name) is).1

some_there : (x : ℕ) (xs : List ℕ) → not (length (x ∷ xs) == 0) ≡ true
some_there x xs = grind (arith, nat_tests)

-- a name with a text in front of it is a name
pub longer_name : (front name : List ℕ) → MayStandInName front → IsTrue (is_name name) → IsTrue (is_name (front ++ name))
longer_name [] name h is = is
longer_name (c ∷ cs) name h is =
    and_from (not (length ((c ∷ cs) ++ name) == 0)) (list_all may_stand_in_name ((c ∷ cs) ++ name)) (some_there c (cs ++ name)) (both_stand (c ∷ cs) name h (name_stands name is))

-- a dot
pub dot_is : chars (46 ∷ []) ≡ 46 ∷ []
unfolding lib.Utf8.encode
dot_is = chars-encodes (46 ∷ []) refl

-- what follows from a fact where a call succeeds
pub on_ok : {T E : Type 0} (r : Result T E) (P Q : Type 0) → (P → Q) → OnOk r P → OnOk r Q
on_ok (Ok x) P Q f h = f h
on_ok (Err e) P Q f h = h
