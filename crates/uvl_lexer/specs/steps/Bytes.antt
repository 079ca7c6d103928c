-- The bytes of a text that are characters alone.
use Rattle.std.specs.Prelude.{◌≡◌, ℕ, Bool, ◌&&◌, ◌||◌, ◌==◌, nat_lt, List, ◌∷◌, ◌++◌, chars, encode_utf8}
use Rattle.uvl_lexer.specs.declared.characters.CharacterClass.{CharacterClass}
use Rattle.uvl_lexer.specs.Characters.{is_of_class}

-- the first byte that is no character of ASCII
abbrev pub first_beyond_ascii : ℕ
first_beyond_ascii = 128

-- whether a byte alone is a character of a class: those of ASCII are characters
abbrev pub is_byte_of_class : CharacterClass → ℕ → Bool
is_byte_of_class class b = nat_lt b first_beyond_ascii && is_of_class class b

-- the characters of ASCII that go on an identifier and are no letters or digits: `_`, `#`, `%` and `?`
abbrev pub is_identifier_sign : ℕ → Bool
is_identifier_sign c = c == 95 || c == 35 || c == 37 || c == 63

-- a text is a character in front of a rest, by its characters and by its bytes
abbrev pub IsSplit : List ℕ → ℕ → List ℕ → Type 0
IsSplit text first rest = (chars text ≡ first ∷ chars rest) × (text ≡ encode_utf8 first ++ rest)
