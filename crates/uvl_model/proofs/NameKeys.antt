-- The keys of an index of names, read as names: by their characters.
use Rattle.std.proofs.Common.{◌≡◌, ◌↔◌, ℕ, Option, Some, is_some, slice_get, Bool, false, List, [], ◌∷◌, ◌++◌, map, position, Contains, Decides, refl, sym, ap, ◌∙◌, subst, if◌then◌else◌, string_bytes, String}
use Rattle.std.specs.Prelude.{IsUtf8, chars, encode_utf8_all}
use Rattle.std.specs.List.{list_any, position_or_len}
use Rattle.std.specs.Option.{option_map}
use Rattle.std.specs.Str.{bytes_eq}
use Rattle.std.specs.String.{string_eq}
use Rattle.std.proofs.lemmas.Bool.Decides.{same_from_decides, Decides-like}
use Rattle.std.proofs.lemmas.List.{map-append, length-map}
use Rattle.std.proofs.lemmas.Slice.Eq.{bytes_eq-Decides}
use Rattle.std.proofs.lemmas.Str.{encodes-chars, IsUtf8-string_bytes}
use Rattle.indexmap.specs.IndexSet.{insert_key}
use Rattle.uvl_model.specs.declared.rows.FeatureNo.{FeatureNo}
use Rattle.uvl_semantics.specs.Product.{has}
use Rattle.uvl_model.specs.Sound.{AreDistinct}
use Rattle.uvl_model.specs.Spelling.{numbered}
use Rattle.uvl_semantics.proofs.Membership.{has-from_Contains, Contains-from_has}
use Rattle.uvl_model.proofs.Places.{number_is}

module _ {Z : Type 0} where
  abbrev pub names_of_keys : List (String Z) → List (List ℕ)
  names_of_keys keys = map (λ name. chars (string_bytes name)) keys

  module _ (text : List ℕ) (utf8 : IsUtf8 text) where
    -- two texts have equal bytes where they have equal characters
    same_text : (key : String Z) → bytes_eq text (string_bytes key) ≡ bytes_eq (chars text) (chars (string_bytes key))
    same_text key =
        let back : chars text ≡ chars (string_bytes key) → text ≡ string_bytes key =
        λ e. sym (encodes-chars text utf8) ∙ ap encode_utf8_all e ∙ encodes-chars (string_bytes key) (IsUtf8-string_bytes key) in
        same_from_decides _ _ (bytes_eq-Decides text (string_bytes key))
        (Decides-like _ back (ap chars) (bytes_eq-Decides (chars text) (chars (string_bytes key))))

    -- a key is found where a name is
    pub has-names_of_keys : (keys : List (String Z)) → list_any (λ key. bytes_eq text (string_bytes key)) keys ≡ has (names_of_keys keys) (chars text)
    has-names_of_keys [] = refl
    has-names_of_keys (key ∷ keys) = rw (same_text key, has-names_of_keys keys) refl

    first_place : (keys : List (String Z)) → position_or_len (λ key. bytes_eq text (string_bytes key)) keys ≡ position_or_len (bytes_eq (chars text)) (names_of_keys keys)
    first_place [] = refl
    first_place (key ∷ keys) = rw (same_text key, first_place keys) refl

    -- and at the same place
    pub position-names_of_keys : (keys : List (String Z)) → position (λ key. bytes_eq text (string_bytes key)) keys ≡ position (bytes_eq (chars text)) (names_of_keys keys)
    position-names_of_keys keys = rw (first_place keys, sym (length-map keys (λ key. chars (string_bytes key)))) refl

    -- what the test for a key says of the names
    pub known-Decides : (keys : List (String Z)) (b : Bool) → b ≡ list_any (λ key. bytes_eq text (string_bytes key)) keys → (names : List (List ℕ)) → names_of_keys keys ≡ names
        → Decides b (Contains names (chars text))
    known-Decides keys b e names view =
        let test = e ∙ has-names_of_keys keys ∙ ap (λ ns. has ns (chars text)) view in
        ((λ yes. Contains-from_has names (chars text) (sym test ∙ yes)), (λ c. test ∙ has-from_Contains names (chars text) c))

    -- a key that is not there goes last, and so does its name
    pub names-insert_key : (keys next : List (String Z)) (key : String Z) → string_bytes key ≡ text → list_any (λ k. bytes_eq text (string_bytes k)) keys ≡ false
        → next ≡ insert_key string_eq keys key → names_of_keys next ≡ names_of_keys keys ++ chars text ∷ []
    names-insert_key keys next key same absent inserted =
        let none : list_any (string_eq key) keys ≡ false = ap (λ (t : List ℕ). list_any (λ k. bytes_eq t (string_bytes k)) keys) same ∙ absent in
        let last = inserted ∙ ap (λ b. if b then keys else keys ++ key ∷ []) none in
        ap names_of_keys last ∙ map-append (λ name. chars (string_bytes name)) keys (key ∷ []) ∙ ap (λ t. names_of_keys keys ++ chars t ∷ []) same

    -- the number that is answered for the place of a key
    pub number-names_of_keys : (keys : List (String Z)) (names : List (List ℕ)) → names_of_keys keys ≡ names → AreDistinct (names_of_keys keys)
        → (r : Option ℕ) → r ≡ position (λ key. bytes_eq text (string_bytes key)) keys → is_some r ≡ list_any (λ key. bytes_eq text (string_bytes key)) keys
        → (result : Option FeatureNo) → result ≡ option_map numbered r → (n : ℕ) → (result ≡ Some (numbered n)) ↔ (slice_get names n ≡ Some (chars text))
    number-names_of_keys keys names view distinct r place found result e n =
        subst (λ (ns : List (List ℕ)). (result ≡ Some (numbered n)) ↔ (slice_get ns n ≡ Some (chars text))) view
        (number_is (names_of_keys keys) (chars text) r distinct (place ∙ position-names_of_keys keys) (found ∙ has-names_of_keys keys) result e n)
