-- What the reader of a text asks of the pieces that it takes.
use Rattle.std.specs.Prelude.{◌≡◌, ℕ, false, ⊤, List, encode_utf8_all}
use Rattle.uvl_base.specs.Number.{is_too_wide}
use Rattle.uvl_lexer.specs.declared.piece.PieceKind.{PieceKind}
use Rattle.uvl_lexer.specs.declared.piece.PieceKind.TheVariants as piece
use Rattle.uvl_lexer.specs.declared.piece.Lexeme.{Lexeme}
use Rattle.uvl_lexer.specs.declared.piece.Lexeme.TheVariants as spells

-- a number is read where it isn't too wide
abbrev pub IsReadable : Lexeme → List ℕ → Type 0
IsReadable spells.Number cs = is_too_wide (encode_utf8_all cs) ≡ false
IsReadable _ cs = ⊤

-- a piece that spells no token
abbrev pub IsBlank : PieceKind → Type 0
IsBlank (piece.Lexeme l) = ⊥
IsBlank _ = ⊤
