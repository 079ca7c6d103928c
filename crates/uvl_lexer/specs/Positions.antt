-- Where the reading of a text stands.
use Rattle.std.specs.Prelude.{ℕ, ◌+◌, ◌*◌, ◌/◌, ◌≤◌}
use Rattle.uvl_base.specs.declared.place.Place.{Place}
use Rattle.uvl_lexer.specs.declared.position.Position.{Position}
use Rattle.uvl_lexer.specs.declared.piece.PieceKind.{PieceKind}
use Rattle.uvl_lexer.specs.declared.piece.PieceKind.TheVariants as piece

-- the front of a text
abbrev pub start : Position
start = record { byte = 0; line = 1; column = 1; reach = 0 }

-- the place, as it is told
abbrev pub place_of : Position → Place
place_of p = record { line = p.line; column = p.column }

-- Behind a piece of so many characters and bytes. A column counts characters, of which a tab is one; for the
-- indentation it reaches the next multiple of 8, and any other character one column more.
abbrev pub behind : PieceKind → Position → ℕ → ℕ → Position
behind piece.Break p count size = record { byte = p.byte + size; line = p.line + 1; column = 1; reach = 0 }
behind piece.Tab p count size =
    record { byte = p.byte + size; line = p.line; column = p.column + 1; reach = (p.reach / 8 + 1) * 8 }
behind piece.Space p count size =
    record { byte = p.byte + size; line = p.line; column = p.column + count; reach = p.reach + count }
behind piece.Comment p count size =
    record { byte = p.byte + size; line = p.line; column = p.column + count; reach = p.reach + count }
behind (piece.Lexeme l) p count size =
    record { byte = p.byte + size; line = p.line; column = p.column + count; reach = p.reach + count }

-- behind a byte order mark, which has three bytes and no column
abbrev pub behind_mark : Position → Position
behind_mark p = record { byte = p.byte + 3; line = p.line; column = p.column; reach = p.reach }

-- lines and columns are no more than the bytes allow
abbrev pub IsSound : Position → Type 0
IsSound p = (p.line ≤ p.byte + 1) × (p.column ≤ p.byte + 1) × (p.reach ≤ 8 * p.byte)
