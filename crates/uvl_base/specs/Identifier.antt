-- The characters of identifiers, and the texts that are identifiers.
use Rattle.std.specs.Prelude.{ℕ, Bool, false, ◌&&◌, ◌||◌, ◌==◌, List, [], ◌∷◌}
use Rattle.std.specs.List.{list_all}
use Rattle.unicode_ident.specs.Ident.{is_xid_start, is_xid_continue}

-- an identifier begins with `_` (95) or a character of Unicode's XID_Start
abbrev pub begins_identifier : ℕ → Bool
begins_identifier c = is_xid_start c || c == 95

-- it goes on with characters of XID_Continue, `#` (35), `%` (37) and `?` (63)
abbrev pub continues_identifier : ℕ → Bool
continues_identifier c = is_xid_continue c || (c == 35 || c == 37 || c == 63)

-- an identifier is a character that begins one and characters that go on with it
abbrev pub is_identifier : List ℕ → Bool
is_identifier [] = false
is_identifier (c ∷ cs) = begins_identifier c && list_all continues_identifier cs
