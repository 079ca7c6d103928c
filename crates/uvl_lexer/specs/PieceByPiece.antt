-- The cut of a text as a list of pieces, each the longest that begins at its place, and what it says of the tokens.
use Rattle.std.specs.Prelude.{◌≡◌, ℕ, ◌↔◌, List, [], ◌∷◌, ◌++◌, take, None, MatchOption, Ok, Err}
use Rattle.uvl_base.specs.declared.place.Place.{Place}
use Rattle.uvl_base.specs.declared.fault.FaultKind.{FaultKind}
use Rattle.uvl_lexer.specs.declared.token.Token.{Token}
use Rattle.uvl_lexer.specs.declared.piece.PieceKind.{PieceKind}
use Rattle.uvl_lexer.specs.Cut.{Cut, Whole, Unread, cut, piece_onto}
use Rattle.uvl_lexer.specs.Forms.{IsLongest, NoneBegins}
use Rattle.uvl_lexer.specs.Layout.{Lexed, Tokens, Stops, units_of, lines_from, laid_out, after_mark, front_of}
use Rattle.uvl_lexer.specs.Pieces.{piece_at}

-- a piece with its spelling
abbrev pub SpelledPiece : Type 0
SpelledPiece = PieceKind × List ℕ

-- Pieces are a cut of a text up to what is left of it: joined they give the text in front of it, and each is the
-- longest that begins at its place in the whole text.
abbrev pub IsCut : List SpelledPiece → List ℕ → List ℕ → Type 0
IsCut [] left text = text ≡ left
IsCut (p ∷ ps) left text = (after : List ℕ) × (text ≡ p.1 ++ after) × IsLongest p.0 p.1 text × IsCut ps left after

-- pieces, with what is left, as the layout reads them
abbrev pub read_as : List SpelledPiece → List ℕ → Cut
read_as [] [] = Whole
read_as [] (c ∷ cs) = Unread (c ∷ cs)
read_as (p ∷ ps) left = piece_onto p.0 p.1 (read_as ps left)

-- ---- the laws

-- the piece that is read at a place is the longest that begins there, and none is read where none begins
abbrev pub EachPieceIsTheLongest : Type 0
EachPieceIsTheLongest =
    (text : List ℕ) → MatchOption (piece_at text) (NoneBegins text) (λ p. IsLongest p.0 (take p.1 text) text)

-- a text is cut as far as pieces go, and so it is read; no other cut of it goes as far
pub record IsCutOnce (text : List ℕ) : Type 0 where
  pub pieces : List SpelledPiece
  pub left : List ℕ
  pub is_cut : IsCut pieces left text
  pub ends : NoneBegins left
  pub read : cut text ≡ read_as pieces left
  pub one : (others : List SpelledPiece) (rest : List ℕ) → IsCut others rest text → NoneBegins rest
      → (others ≡ pieces) × (rest ≡ left)

-- every text has one cut
abbrev pub EachTextIsCutOnce : Type 0
EachTextIsCutOnce = (text : List ℕ) → IsCutOnce text

-- what a text is read as by pieces of it and what they leave
abbrev pub laid_by : List ℕ → List SpelledPiece → List ℕ → Lexed
laid_by text pieces left = laid_out [] (lines_from None (units_of (front_of text) [] (read_as pieces left)))

-- the tokens of a text are those of a cut of the whole text
abbrev pub TokensAreOfACut : Type 0
TokensAreOfACut =
    (text : List ℕ) (tokens : List Token)
    → Tokens text tokens ↔ ((pieces : List SpelledPiece) × IsCut pieces [] (after_mark text)
    × (laid_by text pieces [] ≡ Ok tokens))

-- a text stops behind a cut that goes as far as pieces go, or within it
abbrev pub StopsAreOfACut : Type 0
StopsAreOfACut =
    (text : List ℕ) (place : Place) (kind : FaultKind)
    → Stops text place kind
    ↔ ((pieces : List SpelledPiece) × (left : List ℕ) × IsCut pieces left (after_mark text) × NoneBegins left
    × (laid_by text pieces left ≡ Err (place, kind)))
