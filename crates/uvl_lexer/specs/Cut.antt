-- The cut of a text into pieces.
use Rattle.std.specs.Prelude.{ℕ, zero, suc, ◌-◌, ◌&&◌, ◌==◌, if◌then◌else◌, List, [], ◌∷◌, take, Option, Some, None}
use Rattle.uvl_lexer.specs.declared.piece.PieceKind.{PieceKind}
use Rattle.uvl_lexer.specs.declared.piece.PieceKind.TheVariants as piece
use Rattle.uvl_lexer.specs.Pieces.{Piece, piece_at}

-- A text cut into pieces from its front on, each with its characters: to the end, or up to a place at
-- which no piece begins, with the characters from there on.
pub data Cut : Type 0 where
  Whole : Cut
  Unread : (characters : List ℕ) → Cut
  Begins : (kind : PieceKind) (characters : List ℕ) (rest : Cut) → Cut

-- Each character of a comment counts as one space, and a line break inside it stays a line break.
abbrev pub comment_onto : List ℕ → Cut → Cut
comment_onto [] rest = rest
comment_onto (c ∷ []) rest = if c == 10 then Begins piece.Break (c ∷ []) rest else Begins piece.Space (c ∷ []) rest
comment_onto (c ∷ d ∷ cs) rest =
    if c == 10 then Begins piece.Break (c ∷ []) (comment_onto (d ∷ cs) rest)
    else if c == 13 && d == 10 then Begins piece.Break (c ∷ d ∷ []) (comment_onto cs rest)
    else Begins piece.Space (c ∷ []) (comment_onto (d ∷ cs) rest)

-- a piece in front of a cut
abbrev pub piece_onto : PieceKind → List ℕ → Cut → Cut
piece_onto piece.Comment characters rest = comment_onto characters rest
piece_onto piece.Space characters rest = Begins piece.Space characters rest
piece_onto piece.Tab characters rest = Begins piece.Tab characters rest
piece_onto piece.Break characters rest = Begins piece.Break characters rest
piece_onto (piece.Lexeme l) characters rest = Begins (piece.Lexeme l) characters rest

-- the piece that begins with the first of some characters, in front of the cut of what follows it
abbrev pub first_onto : Option Piece → List ℕ → Cut → Cut
first_onto None characters rest = Unread characters
first_onto (Some p) characters rest = piece_onto p.0 (take p.1 characters) rest

-- how many characters of the first piece stand behind its first one
abbrev pub others_of : Option Piece → ℕ
others_of None = 0
others_of (Some p) = p.1 - 1

-- the cut of a text of which so many characters in front are part of a piece already
unfoldable pub cut_behind : ℕ → List ℕ → Cut
cut_behind n [] = Whole
cut_behind (suc n) (c ∷ cs) = cut_behind n cs
cut_behind zero (c ∷ cs) = first_onto (piece_at (c ∷ cs)) (c ∷ cs) (cut_behind (others_of (piece_at (c ∷ cs))) cs)

-- the cut of a text
abbrev pub cut : List ℕ → Cut
cut characters = cut_behind 0 characters
