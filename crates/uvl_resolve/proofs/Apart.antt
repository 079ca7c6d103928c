-- Qualifiers that differ as bytes differ as characters.
use Rattle.std.proofs.Common.{◌≡◌, ◌↔◌, Contains, ℕ, zero, suc, ◌+◌, ◌<◌, ◌≤◌, List, [], ◌∷◌, ◌++◌, map, take, drop, get_or, length, Option, Some, None, Bool, true, false, not, cond, refl, sym, ap, ◌∙◌, subst, arith}
use Rattle.std.specs.Prelude.{encode_utf8_all}
use Rattle.std.specs.Str.{bytes_eq}
use Rattle.std.proofs.lemmas.Bool.{both_ways, false_from_ne_true, or_from, or_parts}
use Rattle.std.proofs.lemmas.List.{drop_more, take-append-drop, take_more}
use Rattle.std.proofs.lemmas.Slice.Eq.{bytes_eq-Decides}
use Rattle.std.proofs.lemmas.Str.{encode_ascii, encodes-append}
use Rattle.uvl_ast.specs.declared.file.Import.{Import}
use Rattle.uvl_ast.specs.declared.names.Ref.{Ref}
use Rattle.uvl_imports.specs.Paths as paths
use Rattle.uvl_imports.specs.Texts.{AreDistinct, has}
use Rattle.uvl_placing.specs.Names.{behind_dots, dotted, name_behind_as, qualifier_of}
use Rattle.uvl_resolve.proofs.Distinct.{eq-sym}
use Rattle.uvl_semantics.proofs.Membership.{has-absent, has-from_Contains}

dots : (names : List (List ℕ)) → paths.each_behind (46 ∷ []) names ≡ encode_utf8_all (behind_dots names)
dots [] = refl
dots (name ∷ names) =
    ap (λ (xs : List ℕ). ((46 ∷ []) ++ encode_utf8_all name) ++ xs) (dots names)
    ∙ ap (λ (ys : List ℕ). (ys ++ encode_utf8_all name) ++ encode_utf8_all (behind_dots names)) (sym (encode_ascii 46 (omega arith)))
    ∙ sym (encodes-append (46 ∷ name) (behind_dots names))

whole : (names : List (List ℕ)) → paths.joined (46 ∷ []) names ≡ encode_utf8_all (dotted names)
whole [] = refl
whole (name ∷ names) = ap (λ (xs : List ℕ). encode_utf8_all name ++ xs) (dots names) ∙ sym (encodes-append name (behind_dots names))

as_bytes : (line : Import) → paths.qualifier_of line ≡ encode_utf8_all (qualifier_of line)
as_bytes line = by line.path line.alias
  where
    by : (path : Ref) (alias : Option Ref) → paths.name_behind_as path alias ≡ encode_utf8_all (name_behind_as path alias)
    by path None = whole path.parts
    by path (Some alias) = whole alias.parts

has_none : (text : List ℕ) (lines : List Import) → has (map paths.qualifier_of lines) (encode_utf8_all text) ≡ false → has (map qualifier_of lines) text ≡ false
has_none text [] h = refl
has_none text (line ∷ lines) h =
    let parts = or_parts (bytes_eq (encode_utf8_all text) (paths.qualifier_of line)) (has (map paths.qualifier_of lines) (encode_utf8_all text)) h in
    or_from (bytes_eq text (qualifier_of line)) (has (map qualifier_of lines) text)
    (false_from_ne_true (bytes_eq text (qualifier_of line)) (λ same. both_ways _ parts.0
    ((bytes_eq-Decides (encode_utf8_all text) (paths.qualifier_of line)).1 (ap encode_utf8_all ((bytes_eq-Decides text (qualifier_of line)).0 same) ∙ sym (as_bytes line)))))
    (has_none text lines parts.1)

pub apart : (lines : List Import) → AreDistinct (map paths.qualifier_of lines) → AreDistinct (map qualifier_of lines)
apart [] h = tt
apart (line ∷ lines) h =
    (has_none (qualifier_of line) lines (subst (λ (q : List ℕ). has (map paths.qualifier_of lines) q ≡ false) (as_bytes line) h.0), apart lines h.1)

-- a name isn't in front of itself
not_beside : (front rest : List (List ℕ)) (x y : List ℕ) → has (front ++ x ∷ rest) y ≡ false → bytes_eq y x ≡ false
not_beside [] rest x y h = (or_parts (bytes_eq y x) (has rest y) h).0
not_beside (z ∷ front) rest x y h = not_beside front rest x y (or_parts (bytes_eq y z) (has (front ++ x ∷ rest) y) h).1

not_in_front : (front rest : List (List ℕ)) (x : List ℕ) → AreDistinct (front ++ x ∷ rest) → has front x ≡ false
not_in_front [] rest x h = refl
not_in_front (y ∷ front) rest x h = or_from (bytes_eq x y) (has front x) (eq-sym x y ∙ not_beside front rest x y h.0) (not_in_front front rest x h.1)

-- one name more
pub one_more_name : (all : List (List ℕ)) (i : ℕ) (d : List ℕ) (old new : List (List ℕ)) (added : Bool) (name : List ℕ) → AreDistinct all → i < length all → get_or all i d ≡ name
    → old ≡ take i all → added ≡ not (has old name) → new ≡ cond added (old ++ name ∷ []) old → new ≡ take (i + 1) all
one_more_name all i d old new added name distinct lt at is known becomes =
    let split : all ≡ take i all ++ name ∷ drop (i + 1) all = sym (take-append-drop i all) ∙ ap (λ (xs : List (List ℕ)). take i all ++ xs) (drop_more all i d lt ∙ ap (λ (n : List ℕ). n ∷ drop (i + 1) all) at) in
    let absent : has old name ≡ false = ap (λ (xs : List (List ℕ)). has xs name) is ∙ not_in_front (take i all) (drop (i + 1) all) name (subst AreDistinct split distinct) in
    becomes ∙ ap (λ (b : Bool). cond b (old ++ name ∷ []) old) (known ∙ ap not absent)
    ∙ ap (λ (xs : List (List ℕ)). xs ++ name ∷ []) is ∙ ap (λ (n : List ℕ). take i all ++ n ∷ []) (sym at) ∙ sym (take_more all i d lt)

-- the image of an item, and of those in front
pub mapped_at : {A B : Type 0} (f : A → B) (xs : List A) (i : ℕ) (d : B) (x : A) → i < length xs → x ≡ get_or xs i x → get_or (map f xs) i d ≡ f x
mapped_at f [] i d x lt is = absurd (omega (arith, lt))
mapped_at f (y ∷ xs) zero d x lt is = ap f (sym is)
mapped_at f (y ∷ xs) (suc i) d x lt is = mapped_at f xs i d x (omega (arith, lt)) is

pub mapped_take : {A B : Type 0} (f : A → B) (xs : List A) (n : ℕ) → map f (take n xs) ≡ take n (map f xs)
mapped_take f [] zero = refl
mapped_take f [] (suc n) = refl
mapped_take f (x ∷ xs) zero = refl
mapped_take {A} {B} f (x ∷ xs) (suc n) = ap (λ (ys : List B). f x ∷ ys) (mapped_take f xs n)

pub take_short : {A : Type 0} (n : ℕ) (xs : List A) → length (take n xs) ≤ length xs
take_short zero xs = omega arith
take_short (suc n) [] = omega arith
take_short (suc n) (x ∷ xs) = let rest = take_short n xs in omega (arith, rest)

-- whether a name is new, where it is told which are contained
pub known_is : (new : Bool) (old : List (List ℕ)) (name : List ℕ) → (new ≡ false ↔ Contains old name) → new ≡ not (has old name)
known_is false old name known = sym (ap not (has-from_Contains old name (known.0 refl)))
known_is true old name known = sym (ap not (has-absent old name (λ there. both_ways true (known.1 there) refl)))
