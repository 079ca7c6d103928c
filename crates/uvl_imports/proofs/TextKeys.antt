-- The keys of an index of texts, read as their bytes.
use Rattle.std.proofs.Common.{◌≡◌, ℕ, false, List, [], ◌∷◌, ◌++◌, map, position, refl, sym, ap, ◌∙◌, if◌then◌else◌, string_bytes, String}
use Rattle.std.specs.List.{list_any, position_or_len}
use Rattle.std.specs.Str.{bytes_eq}
use Rattle.std.specs.String.{string_eq}
use Rattle.std.proofs.lemmas.List.{map-append, length-map}
use Rattle.indexmap.specs.IndexSet.{insert_key}
use Rattle.uvl_imports.specs.Texts.{has, place_of}

module _ {Z : Type 0} where
  abbrev pub texts_of : List (String Z) → List (List ℕ)
  texts_of keys = map (λ text. string_bytes text) keys

  -- a key is found where a text is
  pub has-texts_of : (text : List ℕ) (keys : List (String Z)) → list_any (λ key. bytes_eq text (string_bytes key)) keys ≡ has (texts_of keys) text
  has-texts_of text [] = refl
  has-texts_of text (key ∷ keys) = rw (has-texts_of text keys) refl

  first_place : (text : List ℕ) (keys : List (String Z)) → position_or_len (λ key. bytes_eq text (string_bytes key)) keys ≡ position_or_len (bytes_eq text) (texts_of keys)
  first_place text [] = refl
  first_place text (key ∷ keys) = rw (first_place text keys) refl

  -- and at the same place
  pub place-texts_of : (text : List ℕ) (keys : List (String Z)) → position (λ key. bytes_eq text (string_bytes key)) keys ≡ place_of text (texts_of keys)
  place-texts_of text keys = rw (first_place text keys, sym (length-map keys (λ key. string_bytes key))) refl

  -- a key that is not there goes last, and so does its text
  pub texts-insert_key : (keys next : List (String Z)) (key : String Z) → list_any (λ k. bytes_eq (string_bytes key) (string_bytes k)) keys ≡ false
      → next ≡ insert_key string_eq keys key → texts_of next ≡ texts_of keys ++ string_bytes key ∷ []
  texts-insert_key keys next key absent inserted =
      let none : list_any (string_eq key) keys ≡ false = absent in
      let last = inserted ∙ ap (λ b. if b then keys else keys ++ key ∷ []) none in
      ap texts_of last ∙ map-append (λ name. string_bytes name) keys (key ∷ [])
