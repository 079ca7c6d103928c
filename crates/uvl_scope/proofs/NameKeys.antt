-- The keys of an index of names, read as names: by their characters.
use Rattle.std.proofs.Common.{◌≡◌, ℕ, Bool, true, false, not, List, [], ◌∷◌, ◌++◌, map, position, Some, slice_get, refl, sym, ap, ◌∙◌, if◌then◌else◌, string_bytes, String}
use Rattle.std.specs.Prelude.{IsUtf8, chars, encode_utf8_all}
use Rattle.std.specs.List.{list_any, position_or_len}
use Rattle.std.specs.Str.{bytes_eq}
use Rattle.std.specs.String.{string_eq}
use Rattle.std.proofs.lemmas.Bool.Decides.{same_from_decides, Decides-like}
use Rattle.std.proofs.lemmas.List.{map-append, length-map}
use Rattle.std.proofs.lemmas.Option.{slice_get-map}
use Rattle.std.proofs.lemmas.Slice.Eq.{bytes_eq-Decides}
use Rattle.std.proofs.lemmas.Str.{encodes-chars, IsUtf8-string_bytes}
use Rattle.indexmap.specs.IndexSet.{insert_key}
use Rattle.std.specs.Option.{option_map}
use Rattle.uvl_semantics.specs.Product.{has}
use Rattle.uvl_scope.specs.Brought.{has_root}

-- two texts have equal bytes where they have equal characters
pub same_chars : (a b : List ℕ) → IsUtf8 a → IsUtf8 b → bytes_eq a b ≡ bytes_eq (chars a) (chars b)
same_chars a b utf8 utf8_b =
    let back : chars a ≡ chars b → a ≡ b = λ e. sym (encodes-chars a utf8) ∙ ap encode_utf8_all e ∙ encodes-chars b utf8_b in
    same_from_decides _ _ (bytes_eq-Decides a b) (Decides-like _ back (ap chars) (bytes_eq-Decides (chars a) (chars b)))

module _ {Z : Type 0} where
  abbrev pub names_of_keys : List (String Z) → List (List ℕ)
  names_of_keys keys = map (λ name. chars (string_bytes name)) keys

  module _ (text : List ℕ) (utf8 : IsUtf8 text) where
    -- two texts have equal bytes where they have equal characters
    same_text : (key : String Z) → bytes_eq text (string_bytes key) ≡ bytes_eq (chars text) (chars (string_bytes key))
    same_text key =
        let back : chars text ≡ chars (string_bytes key) → text ≡ string_bytes key =
        λ e. sym (encodes-chars text utf8) ∙ ap encode_utf8_all e ∙ encodes-chars (string_bytes key) (IsUtf8-string_bytes key) in
        same_from_decides _ _ (bytes_eq-Decides text (string_bytes key))
        (Decides-like _ back (ap chars) (bytes_eq-Decides (chars text) (chars (string_bytes key))))

    -- a key is found where a name is
    pub has-names_of_keys : (keys : List (String Z)) → list_any (λ key. bytes_eq text (string_bytes key)) keys ≡ has (names_of_keys keys) (chars text)
    has-names_of_keys [] = refl
    has-names_of_keys (key ∷ keys) = rw (same_text key, has-names_of_keys keys) refl

    first_place : (keys : List (String Z)) → position_or_len (λ key. bytes_eq text (string_bytes key)) keys ≡ position_or_len (bytes_eq (chars text)) (names_of_keys keys)
    first_place [] = refl
    first_place (key ∷ keys) = rw (same_text key, first_place keys) refl

    -- and at the same place
    pub position-names_of_keys : (keys : List (String Z)) → position (λ key. bytes_eq text (string_bytes key)) keys ≡ position (bytes_eq (chars text)) (names_of_keys keys)
    position-names_of_keys keys = rw (first_place keys, sym (length-map keys (λ key. chars (string_bytes key)))) refl

    -- a name goes last unless it is there
    pub names-added : (keys next : List (String Z)) (key : String Z) (new : Bool) → string_bytes key ≡ text → new ≡ not (list_any (string_eq key) keys)
        → next ≡ insert_key string_eq keys key
        → (new ≡ not (has (names_of_keys keys) (chars text)))
        × (names_of_keys next ≡ (if new then names_of_keys keys ++ chars text ∷ [] else names_of_keys keys))
    names-added keys next key new same is inserted =
        let tested : list_any (string_eq key) keys ≡ has (names_of_keys keys) (chars text) =
        ap (λ (t : List ℕ). list_any (λ k. bytes_eq t (string_bytes k)) keys) same ∙ has-names_of_keys keys in
        (is ∙ ap not tested, by (list_any (string_eq key) keys) refl)
      where
        by : (b : Bool) → list_any (string_eq key) keys ≡ b → names_of_keys next ≡ (if new then names_of_keys keys ++ chars text ∷ [] else names_of_keys keys)
        by true there =
            let no : new ≡ false = is ∙ ap not there in
            ap names_of_keys (inserted ∙ ap (λ b. if b then keys else keys ++ key ∷ []) there)
            ∙ ap (λ b. if b then names_of_keys keys ++ chars text ∷ [] else names_of_keys keys) (sym no)
        by false none =
            let yes : new ≡ true = is ∙ ap not none in
            ap names_of_keys (inserted ∙ ap (λ b. if b then keys else keys ++ key ∷ []) none)
            ∙ map-append (λ name. chars (string_bytes name)) keys (key ∷ [])
            ∙ ap (λ t. names_of_keys keys ++ chars t ∷ []) same
            ∙ ap (λ b. if b then names_of_keys keys ++ chars text ∷ [] else names_of_keys keys) (sym yes)

  -- the first key is the first name
  pub first_root : (keys : List (String Z)) (key : String Z) (name : List ℕ) → Some key ≡ slice_get keys 0
      → has_root name (names_of_keys keys) ≡ bytes_eq (chars (string_bytes key)) name
  first_root [] key name h = (cc h)
  first_root (first ∷ keys) key name h =
      let same : first ≡ key = (cc h) in
      ap (λ (k : String Z). bytes_eq (chars (string_bytes k)) name) same

  -- a key at a place is the name there
  pub name_at : (keys : List (String Z)) (n : ℕ) (key : String Z) → slice_get keys n ≡ Some key → slice_get (names_of_keys keys) n ≡ Some (chars (string_bytes key))
  name_at keys n key h = slice_get-map (λ name. chars (string_bytes name)) keys n ∙ ap (option_map (λ name. chars (string_bytes name))) h
