-- The tokens of a text, with the layout tokens, or the first place at which it can't be read on.
use Rattle.std.specs.Prelude.{◌≡◌, ℕ, ◌-◌, Bool, true, false, not, ◌&&◌, ◌||◌, ◌==◌, if◌then◌else◌, List, [], ◌∷◌, ◌++◌, length, take, drop, replicate, Result, Ok, Err, Option, Some, None, encode_utf8_all}
use Rattle.std.specs.List.{list_any}
use Rattle.uvl_base.specs.declared.place.Place.{Place}
use Rattle.uvl_base.specs.declared.fault.FaultKind.{FaultKind}
use Rattle.uvl_base.specs.declared.fault.FaultKind.TheVariants.{BadCharacter, BadIndent, Unclosed, NumberTooWide}
use Rattle.uvl_base.specs.Number.{millionths_of, is_too_wide, is_point}
use Rattle.uvl_lexer.specs.declared.token.Token.{Token}
use Rattle.uvl_lexer.specs.declared.token.TokenKind.{TokenKind}
use Rattle.uvl_lexer.specs.declared.token.TokenKind.TheVariants as token
use Rattle.uvl_base.specs.declared.word.Word.{Word}
use Rattle.uvl_lexer.specs.declared.token.Symbol.{Symbol}
use Rattle.uvl_lexer.specs.declared.brackets.Bracket.{Bracket}
use Rattle.uvl_lexer.specs.declared.position.Position.{Position}
use Rattle.uvl_lexer.specs.declared.piece.PieceKind.{PieceKind}
use Rattle.uvl_lexer.specs.declared.piece.PieceKind.TheVariants as piece
use Rattle.uvl_lexer.specs.declared.piece.Lexeme.{Lexeme}
use Rattle.uvl_lexer.specs.declared.piece.Lexeme.TheVariants as spells
use Rattle.uvl_lexer.specs.Brackets.{role_of, may_stand, open_behind}
use Rattle.uvl_lexer.specs.Characters.{begins_with}
use Rattle.uvl_lexer.specs.Cut.{Cut, Whole, Unread, Begins, cut}
use Rattle.uvl_lexer.specs.Indentations.{is_deeper, is_aligned, indentations_behind, closed_by}
use Rattle.uvl_lexer.specs.Positions.{start, place_of, behind, behind_mark}
use Rattle.uvl_base.specs.ReservedWords.{word_of}

-- ---- what a spelling says

-- what stands between the quotes
abbrev pub inner : List ℕ → List ℕ
inner cs = take (length cs - 2) (drop 1 cs)

-- an identifier is a name where it is no reserved word
abbrev pub word_or_name : Option Word → List ℕ → TokenKind
word_or_name (Some w) cs = token.Word w
word_or_name None cs = token.Name cs false

-- the token that a spelling is
abbrev pub token_of : Lexeme → List ℕ → TokenKind
token_of spells.Identifier cs = word_or_name (word_of (encode_utf8_all cs)) cs
token_of spells.Quoted cs = token.Name (inner cs) true
token_of spells.Number cs =
    token.Number (millionths_of (encode_utf8_all cs)) (not (list_any is_point (encode_utf8_all cs)))
token_of spells.Text cs = token.Text (inner cs)
token_of (spells.Symbol s) cs = token.Symbol s

-- a number is refused where it is too wide
abbrev pub refusal_of_number : List ℕ → Option FaultKind
refusal_of_number bytes = if is_too_wide bytes then Some NumberTooWide else None

-- a closing bracket is refused where it doesn't close the innermost open one
abbrev pub refusal_of_symbol : Symbol → List Bracket → Option FaultKind
refusal_of_symbol s brackets = if may_stand (role_of s) brackets then None else Some Unclosed

-- why a token is refused where it stands
abbrev pub refusal_of : Lexeme → List ℕ → List Bracket → Option FaultKind
refusal_of spells.Identifier cs brackets = None
refusal_of spells.Quoted cs brackets = None
refusal_of spells.Text cs brackets = None
refusal_of spells.Number cs brackets = refusal_of_number (encode_utf8_all cs)
refusal_of (spells.Symbol s) cs brackets = refusal_of_symbol s brackets

-- the brackets that stand open behind a token
abbrev pub brackets_behind_token : Lexeme → List Bracket → List Bracket
brackets_behind_token (spells.Symbol s) brackets = open_behind (role_of s) brackets
brackets_behind_token _ brackets = brackets

-- the brackets that stand open behind a piece
abbrev pub brackets_behind : PieceKind → List Bracket → List Bracket
brackets_behind (piece.Lexeme l) brackets = brackets_behind_token l brackets
brackets_behind _ brackets = brackets

-- whether a piece is a line break
abbrev pub is_break : PieceKind → Bool
is_break piece.Break = true
is_break _ = false

-- a line ends at a line break outside brackets
abbrev pub ends_line_at : PieceKind → List Bracket → Bool
ends_line_at kind brackets = is_break kind && length brackets == 0

-- A place at which no piece begins is a quote or comment that isn't closed, or a bad character, which two
-- double quotes are too.
abbrev pub fault_at : List ℕ → FaultKind
fault_at [] = BadCharacter
fault_at (c ∷ cs) =
    if c == 34 then (if begins_with 34 cs then BadCharacter else Unclosed)
    else if c == 39 || c == 47 then Unclosed else BadCharacter

-- ---- tokens and line breaks

-- What of a text its layout depends on: tokens, line breaks outside brackets, and how it ends. A token
-- stands with its position and the one behind it.
pub data Units : Type 0 where
  Finished : (position : Position) → Units
  Stopped : (position : Position) (kind : FaultKind) → Units
  Refused : (position : Position) (kind : FaultKind) → Units
  Ended : (position : Position) (rest : Units) → Units
  Spelled : (position : Position) (kind : TokenKind) (after : Position) (rest : Units) → Units

-- inside brackets a line break is a space
abbrev pub break_onto : List Bracket → Position → Units → Units
break_onto [] position rest = Ended position rest
break_onto (b ∷ bs) position rest = rest

-- a token, or its refusal
abbrev pub token_onto : Option FaultKind → Position → TokenKind → Position → Units → Units
token_onto (Some kind) position token after rest = Refused position kind
token_onto None position token after rest = Spelled position token after rest

-- a piece in front of the units that follow it
abbrev pub unit_onto : PieceKind → List ℕ → List Bracket → Position → Position → Units → Units
unit_onto piece.Space cs brackets position after rest = rest
unit_onto piece.Tab cs brackets position after rest = rest
unit_onto piece.Comment cs brackets position after rest = rest
unit_onto piece.Break cs brackets position after rest = break_onto brackets position rest
unit_onto (piece.Lexeme l) cs brackets position after rest =
    token_onto (refusal_of l cs brackets) position (token_of l cs) after rest

-- a bracket that is open at the end is not closed
abbrev pub end_of : List Bracket → Position → Units
end_of [] position = Finished position
end_of (b ∷ bs) position = Stopped position Unclosed

-- the units of a cut that begins at a position, inside brackets
abbrev pub units_of : Position → List Bracket → Cut → Units
units_of position brackets Whole = end_of brackets position
units_of position brackets (Unread cs) = Stopped position (fault_at cs)
units_of position brackets (Begins kind cs rest) =
    unit_onto kind cs brackets position (behind kind position (length cs) (length (encode_utf8_all cs)))
    (units_of (behind kind position (length cs) (length (encode_utf8_all cs))) (brackets_behind kind brackets) rest)

-- ---- tokens

-- the tokens of a text, or the place at which it can't be read on, and why
abbrev pub Lexed : Type 0
Lexed = Result (List Token) (Place × FaultKind)

-- tokens in front of others
abbrev pub tokens_onto : List Token → Lexed → Lexed
tokens_onto tokens (Ok others) = Ok (tokens ++ others)
tokens_onto tokens (Err fault) = Err fault

-- a layout token and the end of the text have no bytes
abbrev pub unspelled_at : TokenKind → Position → Token
unspelled_at kind p = record { kind = kind; place = place_of p; from = p.byte; to = p.byte }

-- a token has the bytes that spell it
abbrev pub token_at : TokenKind → Position → Position → Token
token_at kind p after = record { kind = kind; place = place_of p; from = p.byte; to = after.byte }

-- one Dedent for each indentation that a line closes
abbrev pub dedents : ℕ → List ℕ → Position → List Token
dedents indentation indentations p = replicate (closed_by indentation indentations) (unspelled_at token.Dedent p)

-- the layout tokens in front of the first token of a line: Indent where it opens an indentation, else a Dedent for each
-- that it closes
abbrev pub line_layout : List ℕ → Position → List Token
line_layout indentations p =
    if is_deeper p.reach indentations then unspelled_at token.Indent p ∷ [] else dedents p.reach indentations p

-- ---- lines

-- The lines of a text that have a token, and how it ends: at its end, or where it can't be read on. A line has the
-- position of its first token, its tokens, and the position of its end; the last may break off.
pub data Lines : Type 0 where
  NoMore : (end : Position) → Lines
  Unreadable : (position : Position) (kind : FaultKind) → Lines
  RefusedFirst : (position : Position) (kind : FaultKind) → Lines
  Line : (first : Position) (tokens : List Token) (end : Position) (rest : Lines) → Lines
  BrokenOff : (first : Position) (position : Position) (kind : FaultKind) → Lines

-- a line that has begun: the position of its first token, and its tokens so far
abbrev pub Begun : Type 0
Begun = Position × List Token

-- the end of a line, where one has begun
abbrev pub line_onto : Option Begun → Position → Lines → Lines
line_onto None end rest = rest
line_onto (Some line) end rest = Line line.0 line.1 end rest

-- a line that breaks off, where one has begun
abbrev pub broken_off : Option Begun → Position → FaultKind → Lines → Lines
broken_off None position kind other = other
broken_off (Some line) position kind other = BrokenOff line.0 position kind

-- a line with one more token
abbrev pub with_token : Option Begun → Position → Token → Option Begun
with_token None position token = Some (position, token ∷ [])
with_token (Some line) position token = Some (line.0, line.1 ++ token ∷ [])

-- the lines of units, of which the first has begun or not
abbrev pub lines_from : Option Begun → Units → Lines
lines_from begun (Finished p) = line_onto begun p (NoMore p)
lines_from begun (Stopped p kind) = broken_off begun p kind (Unreadable p kind)
lines_from begun (Refused p kind) = broken_off begun p kind (RefusedFirst p kind)
lines_from begun (Ended p rest) = line_onto begun p (lines_from None rest)
lines_from begun (Spelled p kind after rest) = lines_from (with_token begun p (token_at kind p after)) rest

-- ---- layout

-- The tokens of lines with their layout tokens, where these indentations are open. The first token of a line meets an
-- open indentation or opens one; each line ends with Newline; at the end stand a Dedent for each open indentation above
-- 0, and Finish.
abbrev pub laid_out : List ℕ → Lines → Lexed
laid_out indentations (NoMore p) = Ok (dedents 0 indentations p ++ unspelled_at token.Finish p ∷ [])
laid_out indentations (Unreadable p kind) = Err (place_of p, kind)
laid_out indentations (RefusedFirst p kind) =
    if is_aligned p.reach indentations then Err (place_of p, kind) else Err (place_of p, BadIndent)
laid_out indentations (Line first tokens end rest) =
    if is_aligned first.reach indentations
    then tokens_onto
    (line_layout indentations first ++ tokens ++ unspelled_at token.Newline end ∷ [])
    (laid_out (indentations_behind first.reach indentations) rest)
    else Err (place_of first, BadIndent)
laid_out indentations (BrokenOff first p kind) =
    if is_aligned first.reach indentations then Err (place_of p, kind) else Err (place_of first, BadIndent)

-- ---- the whole text

-- a byte order mark (65279) at the front is skipped
abbrev pub after_mark : List ℕ → List ℕ
after_mark [] = []
after_mark (c ∷ cs) = if c == 65279 then cs else c ∷ cs

-- where the reading begins
abbrev pub front_of : List ℕ → Position
front_of cs = if begins_with 65279 cs then behind_mark start else start

-- what a text is read as
abbrev pub lexed : List ℕ → Lexed
lexed text = laid_out [] (lines_from None (units_of (front_of text) [] (cut (after_mark text))))

-- the tokens of a text are these
abbrev pub Tokens : List ℕ → List Token → Type 0
Tokens text tokens = lexed text ≡ Ok tokens

-- the first place at which a text can't be read on is this one, and this is what is wrong there
abbrev pub Stops : List ℕ → Place → FaultKind → Type 0
Stops text place kind = lexed text ≡ Err (place, kind)
