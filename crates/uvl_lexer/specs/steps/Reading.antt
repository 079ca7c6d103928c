-- What is left to say of a text, from a reader on, and what each call does to the reader.
use Rattle.std.specs.Prelude.{◌≡◌, ℕ, Bool, true, false, ◌&&◌, ◌==◌, ◌⊎◌, if◌then◌else◌, List, [], ◌∷◌, ◌++◌, Option, Some, None, Err}
use Rattle.std.specs.List.{prefix_len}
use Rattle.uvl_base.specs.declared.place.Place.{Place}
use Rattle.uvl_base.specs.declared.fault.FaultKind.{FaultKind}
use Rattle.uvl_base.specs.declared.fault.FaultKind.TheVariants.{BadIndent}
use Rattle.uvl_lexer.specs.declared.fault.LexFault.{LexFault}
use Rattle.uvl_lexer.specs.declared.reader.Reader.{Reader}
use Rattle.uvl_lexer.specs.declared.characters.CharacterClass.TheVariants.{InLine}
use Rattle.uvl_lexer.specs.declared.piece.Lexeme.{Lexeme}
use Rattle.uvl_lexer.specs.declared.piece.PieceKind.{PieceKind}
use Rattle.uvl_lexer.specs.declared.piece.PieceKind.TheVariants as piece
use Rattle.uvl_lexer.specs.declared.position.Position.{Position}
use Rattle.uvl_lexer.specs.declared.token.Token.{Token}
use Rattle.uvl_lexer.specs.Characters.{is_of_class, begins_with}
use Rattle.uvl_lexer.specs.Cut.{Cut, Begins}
use Rattle.uvl_lexer.specs.Layout.{Lexed, tokens_onto, dedents, token_at, token_of, refusal_of, ends_line_at, units_of}
use Rattle.uvl_lexer.specs.Pieces.{Piece}
use Rattle.uvl_lexer.specs.Positions.{place_of}
use Rattle.uvl_lexer.specs.Reading.{OnFault}
use Rattle.uvl_lexer.specs.steps.Turns.{read_units, may_begin, layout_before, indentations_after, newline_at}

-- what a text is read as, where a reader has read what stands in front of a cut
abbrev pub read_on : Reader → Cut → Lexed
read_on r rest = tokens_onto r.tokens.items (read_units r.begun r.indentations (units_of r.position r.brackets rest))

-- ---- where a reader stands

-- whether a token may stand there by its indentation
abbrev pub may_begin_at : Reader → Bool
may_begin_at r = may_begin r.begun r.indentations r.position

-- the layout tokens in front of a token there
abbrev pub layout_at : Reader → List Token
layout_at r = layout_before r.begun r.indentations r.position

-- the Dedents there, where a line with an indentation begins
abbrev pub dedents_at : Reader → ℕ → List Token
dedents_at r indentation = dedents indentation r.indentations r.position

-- the indentations that are open behind a token there
abbrev pub indentations_at : Reader → List ℕ
indentations_at r = indentations_after r.begun r.indentations r.position

-- why a token can't stand there, whatever its indentation
abbrev pub refusal_at : Reader → Lexeme → List ℕ → Option FaultKind
refusal_at r lexeme cs = refusal_of lexeme cs r.brackets

-- a token that stands there, up to a position, behind its layout tokens
abbrev pub tokens_at : Reader → Lexeme → List ℕ → Position → List Token
tokens_at r lexeme cs after = layout_at r ++ token_at (token_of lexeme cs) r.position after ∷ []

-- the Newline of a line that has begun, where a piece ends it there
abbrev pub newline_behind : Reader → PieceKind → List Token
newline_behind r kind = newline_at (r.begun && ends_line_at kind r.brackets) r.position

-- ---- what a call does

-- it puts tokens behind those so far
abbrev pub Puts : Reader → Reader → List Token → Type 0
Puts old new tokens = new.tokens.items ≡ old.tokens.items ++ tokens

-- it changes the tokens, the open indentations, and whether the line has begun, and nothing else
abbrev pub BeginsLine : Reader → Reader → Type 0
BeginsLine old new = new ≡ record old { tokens = new.tokens; indentations = new.indentations; begun = new.begun }

-- it reads what stands in front of a cut: from the old reader on all is read as what is left from the new one on
abbrev pub Reads : Reader → Reader → (Cut → Cut) → Type 0
Reads old new front = (rest : Cut) → read_on old (front rest) ≡ read_on new rest

-- a token in front of a cut
abbrev pub lexeme_onto : Lexeme → List ℕ → Cut → Cut
lexeme_onto lexeme cs rest = Begins (piece.Lexeme lexeme) cs rest

-- ---- where a call stops

-- the fault is the one that a text is read as
abbrev pub StopsAs : Lexed → LexFault → Type 0
StopsAs lexed fault = OnFault fault (λ place why. lexed ≡ Err (place, why))

-- from the reader on, the reading stops at the fault in what stands in front of a cut
abbrev pub StopsIn : Reader → (Cut → Cut) → LexFault → Type 0
StopsIn r front fault = OnFault fault (λ place why. (rest : Cut) → read_on r (front rest) ≡ Err (place, why))

-- a token may stand where a reader stands
abbrev pub Stands : Reader → Option FaultKind → Type 0
Stands r refusal = (may_begin_at r ≡ true) × (refusal ≡ None)

-- a token is refused where it stands: its line is badly indented, or else the token can't stand there
abbrev pub IsRefused : Reader → Option FaultKind → Place → FaultKind → Type 0
IsRefused r refusal place kind =
    (place ≡ place_of r.position)
    × (((may_begin_at r ≡ false) × (kind ≡ BadIndent)) ⊎ ((may_begin_at r ≡ true) × (refusal ≡ Some kind)))

-- the fault is that refusal
abbrev pub Refuses : Reader → Option FaultKind → LexFault → Type 0
Refuses r refusal fault = OnFault fault (λ place kind. IsRefused r refusal place kind)

-- ---- comments

-- how a comment's characters are counted: as a line break where a line ends there, else as a space
abbrev pub comment_piece : ℕ → List ℕ → Piece
comment_piece c cs =
    if c == 10 then (piece.Break, 1) else if c == 13 && begins_with 10 cs then (piece.Break, 2) else (piece.Space, 1)

-- how the front of a comment is counted: as many spaces as there are characters in front of an LF or a CR, or that one
abbrev pub comment_piece_at : List ℕ → Option Piece
comment_piece_at [] = None
comment_piece_at (c ∷ cs) =
    let n = prefix_len (is_of_class InLine) (c ∷ cs) in
    if n == 0 then Some (comment_piece c cs) else Some (piece.Space, n)
