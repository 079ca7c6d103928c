-- The classes of characters that the tokens are made of.
use Rattle.std.specs.Prelude.{ℕ, Bool, false, not, ◌||◌, ◌==◌, List, [], ◌∷◌}
use Rattle.std.specs.Char.{is_ascii_digit}
use Rattle.uvl_base.specs.Identifier.{continues_identifier}
use Rattle.uvl_base.specs.Name.{may_stand_in_name}
use Rattle.uvl_lexer.specs.declared.characters.CharacterClass.{CharacterClass}
use Rattle.uvl_lexer.specs.declared.characters.CharacterClass.TheVariants.{InIdentifier, Digit, InQuotes, InText, InLine}

-- a text in single quotes holds no single quote (39), no LF (10) and no CR (13)
abbrev pub may_stand_in_text : ℕ → Bool
may_stand_in_text c = not (c == 39 || c == 10 || c == 13)

-- a character other than LF and CR is in front of its line's end
abbrev pub stays_in_line : ℕ → Bool
stays_in_line c = not (c == 10 || c == 13)

-- whether a character is of a class
abbrev pub is_of_class : CharacterClass → ℕ → Bool
is_of_class InIdentifier c = continues_identifier c
is_of_class Digit c = is_ascii_digit c
is_of_class InQuotes c = may_stand_in_name c
is_of_class InText c = may_stand_in_text c
is_of_class InLine c = stays_in_line c

-- whether the first of some characters is this one
abbrev pub begins_with : ℕ → List ℕ → Bool
begins_with c [] = false
begins_with c (d ∷ ds) = d == c
