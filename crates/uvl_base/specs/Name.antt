-- What a name is: the texts that UVL writes in double quotes, of which its identifiers are some. How a name is written.
use Rattle.std.specs.Prelude.{ℕ, Bool, not, ◌&&◌, ◌||◌, ◌==◌, if◌then◌else◌, List, [], ◌∷◌, ◌++◌, length, encode_utf8_all}
use Rattle.std.specs.List.{list_all}
use Rattle.uvl_base.specs.Identifier.{is_identifier}
use Rattle.uvl_base.specs.ReservedWords.{is_reserved}

-- a name holds no double quote (34), no LF (10) and no CR (13)
abbrev pub may_stand_in_name : ℕ → Bool
may_stand_in_name c = not (c == 34 || c == 10 || c == 13)

-- a name has at least one character, and each of them may stand in a name
abbrev pub is_name : List ℕ → Bool
is_name cs = not (length cs == 0) && list_all may_stand_in_name cs

-- an empty text stands for the blank name `_`, which is in no tree
abbrev pub characters_of : List ℕ → List ℕ
characters_of [] = 95 ∷ []
characters_of (c ∷ cs) = c ∷ cs

-- a name stands in double quotes where it is no identifier, and where it is a reserved word
abbrev pub needs_quotes : List ℕ → Bool
needs_quotes cs = not (is_identifier cs) || is_reserved (encode_utf8_all cs)

-- the characters of a text between double quotes
abbrev pub quoted : List ℕ → List ℕ
quoted cs = 34 ∷ cs ++ 34 ∷ []

-- the characters of a name as UVL writes it: in double quotes where it needs them
abbrev pub written_name : List ℕ → List ℕ
written_name cs = if needs_quotes cs then quoted cs else cs
