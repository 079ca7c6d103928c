-- Texts that grow by names and dots.
use Rattle.std.proofs.Common.{◌≡◌, ℕ, ◌+◌, ◌<◌, List, [], ◌∷◌, ◌++◌, length, drop, get_or, refl, sym, ap, ◌∙◌, string_bytes, String, Result, Ok, Err, OnOk}
use Rattle.std.specs.Prelude.{chars}
use Rattle.std.proofs.lemmas.List.{append_assoc}
use Rattle.std.proofs.lemmas.List.{drop_more}
use Rattle.std.proofs.lemmas.Str.{chars-append, chars-encodes, chars-nil, IsUtf8-string_bytes}
use Rattle.uvl_placing.specs.Names.{behind_dots}
use Rattle.uvl_semantics.specs.Prefix.{prefixed_name}

-- what follows from a fact where a call succeeds
pub on_ok : {T E : Type 0} (r : Result T E) (P Q : Type 0) → (P → Q) → OnOk r P → OnOk r Q
on_ok (Ok x) P Q f h = f h
on_ok (Err e) P Q f h = h

-- the item at an index is the first of what is left there
pub next_item : {A : Type 0} (all : List A) (i : ℕ) (item : A) → i < length all → item ≡ get_or all i item → drop i all ≡ item ∷ drop (i + 1) all
next_item {A} all i item h is = drop_more all i item h ∙ ap (λ (x : A). x ∷ drop (i + 1) all) (sym is)

-- a dot is one character
pub dot-is : chars (46 ∷ []) ≡ 46 ∷ []
unfolding lib.Utf8.encode
dot-is = chars-encodes (46 ∷ []) refl

-- behind an empty text
pub behind_nothing : (bytes cs : List ℕ) → bytes ≡ [] → chars bytes ++ cs ≡ cs
behind_nothing bytes cs empty = ap (λ (bs : List ℕ). chars bs ++ cs) empty ∙ ap (λ (t : List ℕ). t ++ cs) chars-nil

module _ {Z : Type 0} where
  -- the characters behind a text
  pub pushed : (text new : String Z) (bytes name : List ℕ) → string_bytes new ≡ string_bytes text ++ bytes → chars bytes ≡ name
      → chars (string_bytes new) ≡ chars (string_bytes text) ++ name
  pushed text new bytes name h k =
      ap chars h ∙ chars-append (string_bytes text) bytes (IsUtf8-string_bytes text) ∙ ap (λ (n : List ℕ). chars (string_bytes text) ++ n) k

  pub behind_dot : (text mid new : String Z) (bytes name : List ℕ) (names : List (List ℕ)) (i : ℕ)
      → string_bytes mid ≡ string_bytes text ++ 46 ∷ [] → string_bytes new ≡ string_bytes mid ++ bytes → chars bytes ≡ name
      → i < length names → name ≡ get_or names i name
      → chars (string_bytes new) ++ behind_dots (drop (i + 1) names) ≡ chars (string_bytes text) ++ behind_dots (drop i names)
  behind_dot text mid new bytes name names i dot push is lt item =
      ap (λ (cs : List ℕ). cs ++ behind_dots (drop (i + 1) names))
      (pushed mid new bytes name push is ∙ ap (λ (cs : List ℕ). cs ++ name) (pushed text mid (46 ∷ []) (46 ∷ []) dot dot-is)
      ∙ append_assoc (chars (string_bytes text)) (46 ∷ []) name)
      ∙ append_assoc (chars (string_bytes text)) (46 ∷ name) (behind_dots (drop (i + 1) names))
      ∙ ap (λ (rest : List (List ℕ)). chars (string_bytes text) ++ behind_dots rest) (sym (next_item names i name lt item))

  -- a name under a qualifier
  pub under_is : (empty first second new : String Z) (qualifier name : List ℕ) → string_bytes empty ≡ [] → string_bytes first ≡ string_bytes empty ++ qualifier
      → string_bytes second ≡ string_bytes first ++ 46 ∷ [] → string_bytes new ≡ string_bytes second ++ name
      → chars (string_bytes new) ≡ prefixed_name (chars qualifier) (chars name)
  under_is empty first second new qualifier name none q dot n =
      pushed second new name (chars name) n refl
      ∙ ap (λ (cs : List ℕ). cs ++ chars name)
      (pushed first second (46 ∷ []) (46 ∷ []) dot dot-is
      ∙ ap (λ (cs : List ℕ). cs ++ 46 ∷ []) (pushed empty first qualifier (chars qualifier) q refl ∙ behind_nothing (string_bytes empty) (chars qualifier) none))
      ∙ append_assoc (chars qualifier) (46 ∷ []) (chars name)
