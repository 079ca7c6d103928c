-- The pieces of a text: what begins at a place, and how many characters it has.
use Rattle.std.specs.Prelude.{ℕ, ◌+◌, Bool, ◌&&◌, ◌||◌, ◌==◌, if◌then◌else◌, List, [], ◌∷◌, drop, Option, Some, None}
use Rattle.std.specs.Option.{option_map}
use Rattle.std.specs.List.{prefix_len}
use Rattle.std.specs.Char.{is_ascii_digit}
use Rattle.uvl_base.specs.Identifier.{begins_identifier}
use Rattle.uvl_lexer.specs.Characters.{is_of_class, begins_with}
use Rattle.uvl_lexer.specs.declared.characters.CharacterClass.TheVariants.{InIdentifier, Digit, InQuotes, InText}
use Rattle.uvl_lexer.specs.declared.token.Symbol.{Symbol}
use Rattle.uvl_lexer.specs.declared.token.Symbol.TheVariants.{LeftParen, RightParen, LeftBracket, RightBracket, LeftBrace, RightBrace, Comma, Dot, Dots, Bang, Amp, Bar, Implies, Iff, Equal, Differs, Less, AtMost, Greater, AtLeast, Plus, Minus, Star, Slash}
use Rattle.uvl_lexer.specs.declared.piece.Opening.{Opening}
use Rattle.uvl_lexer.specs.declared.piece.Opening.TheVariants as opens
use Rattle.uvl_lexer.specs.declared.piece.Lexeme.TheVariants as spells
use Rattle.uvl_lexer.specs.declared.piece.PieceKind.{PieceKind}
use Rattle.uvl_lexer.specs.declared.piece.PieceKind.TheVariants as piece

-- a piece: its kind, and how many characters it has
abbrev pub Piece : Type 0
Piece = PieceKind × ℕ

-- ---- symbols

-- a symbol that begins no longer one
abbrev pub plain_symbol : ℕ → Option Symbol
plain_symbol c =
    if c == 40 then Some LeftParen else if c == 41 then Some RightParen
    else if c == 91 then Some LeftBracket else if c == 93 then Some RightBracket
    else if c == 123 then Some LeftBrace else if c == 125 then Some RightBrace
    else if c == 44 then Some Comma else if c == 38 then Some Amp else if c == 124 then Some Bar
    else if c == 43 then Some Plus else if c == 45 then Some Minus else if c == 42 then Some Star else None

-- behind `!`: `!=` or `!`
abbrev pub bang_at : List ℕ → Symbol × ℕ
bang_at cs = if begins_with 61 cs then (Differs, 2) else (Bang, 1)

-- behind `=`: `==` or `=>`; `=` alone is no symbol
abbrev pub equal_at : List ℕ → Option (Symbol × ℕ)
equal_at cs = if begins_with 61 cs then Some (Equal, 2) else if begins_with 62 cs then Some (Implies, 2) else None

-- behind `<`: `<=>`, `<=` or `<`
abbrev pub less_at : List ℕ → Symbol × ℕ
less_at [] = (Less, 1)
less_at (c ∷ cs) = if c == 61 then (if begins_with 62 cs then (Iff, 3) else (AtMost, 2)) else (Less, 1)

-- behind `>`: `>=` or `>`
abbrev pub greater_at : List ℕ → Symbol × ℕ
greater_at cs = if begins_with 61 cs then (AtLeast, 2) else (Greater, 1)

-- the longest of the symbols that begin with `!` (33), `=` (61), `<` (60) or `>` (62)
abbrev pub operator_at : ℕ → List ℕ → Option (Symbol × ℕ)
operator_at c cs =
    if c == 33 then Some (bang_at cs) else if c == 61 then equal_at cs
    else if c == 60 then Some (less_at cs) else if c == 62 then Some (greater_at cs) else None

-- the symbol of one character, where there is one, and else the longest of the others
abbrev pub or_operator : Option Symbol → ℕ → List ℕ → Option (Symbol × ℕ)
or_operator (Some s) c cs = Some (s, 1)
or_operator None c cs = operator_at c cs

-- the longest symbol that begins with a character, but for those that begin with `.` or `/`
abbrev pub symbol_at : ℕ → List ℕ → Option (Symbol × ℕ)
symbol_at c cs = or_operator (plain_symbol c) c cs

-- ---- comments

-- whether a line ends at a character: at LF (10), or at CR (13) and LF
abbrev pub ends_line : ℕ → List ℕ → Bool
ends_line c cs = c == 10 || (c == 13 && begins_with 10 cs)

-- how many characters stand in front of the end of the line
abbrev pub line_len : List ℕ → ℕ
line_len [] = 0
line_len (c ∷ cs) = if ends_line c cs then 0 else line_len cs + 1

-- how many characters there are up to and with the next `*/`
abbrev pub through_close : List ℕ → Option ℕ
through_close [] = None
through_close (c ∷ cs) = if c == 42 && begins_with 47 cs then Some 2 else option_map (λ n. n + 1) (through_close cs)

-- behind `/*`: a comment, where it is closed
abbrev pub block_at : List ℕ → Option Piece
block_at cs = option_map (λ n. (piece.Comment, n + 2)) (through_close cs)

-- behind `/`: a comment of two slashes to the end of its line, a comment in `/*` and `*/`, or the symbol
abbrev pub slash_at : List ℕ → Option Piece
slash_at [] = Some (piece.Lexeme (spells.Symbol Slash), 1)
slash_at (c ∷ cs) =
    if c == 47 then Some (piece.Comment, line_len cs + 2)
    else if c == 42 then block_at cs else Some (piece.Lexeme (spells.Symbol Slash), 1)

-- ---- names, texts and numbers

-- behind `"`: a quoted name of at least one character, where it is closed
abbrev pub quoted_at : List ℕ → Option Piece
quoted_at cs =
    let n = prefix_len (is_of_class InQuotes) cs in
    if begins_with 34 (drop n cs) then (if n == 0 then None else Some (piece.Lexeme spells.Quoted, n + 2)) else None

-- behind `'`: a text, where it is closed
abbrev pub text_at : List ℕ → Option Piece
text_at cs =
    let n = prefix_len (is_of_class InText) cs in
    if begins_with 39 (drop n cs) then Some (piece.Lexeme spells.Text, n + 2) else None

-- how many characters a point and the digits behind it have, or none where no digit follows a point
abbrev pub decimals_len : List ℕ → ℕ
decimals_len [] = 0
decimals_len (c ∷ cs) =
    if c == 46 then (if prefix_len (is_of_class Digit) cs == 0 then 0 else prefix_len (is_of_class Digit) cs + 1) else 0

-- behind a digit: the other digits, and a point with digits
abbrev pub number_at : List ℕ → Piece
number_at cs =
    let n = prefix_len (is_of_class Digit) cs in
    (piece.Lexeme spells.Number, decimals_len (drop n cs) + n + 1)

-- behind a point: `..`, a number that begins with a point, or the symbol
abbrev pub point_at : List ℕ → Piece
point_at cs =
    if begins_with 46 cs then (piece.Lexeme (spells.Symbol Dots), 2)
    else if prefix_len (is_of_class Digit) cs == 0 then (piece.Lexeme (spells.Symbol Dot), 1)
    else (piece.Lexeme spells.Number, prefix_len (is_of_class Digit) cs + 1)

-- behind the first character of an identifier: the others
abbrev pub identifier_at : List ℕ → Piece
identifier_at cs = (piece.Lexeme spells.Identifier, prefix_len (is_of_class InIdentifier) cs + 1)

-- ---- all pieces

-- what kind of piece a character may begin that isn't one of those named one by one
abbrev pub opening_of_other : ℕ → Opening
opening_of_other c = if is_ascii_digit c then opens.Digit else if begins_identifier c then opens.Letter else opens.Sign

-- what kind of piece a character may begin
abbrev pub opening_of : ℕ → Opening
opening_of c =
    if c == 32 then opens.Space else if c == 9 then opens.Tab else if c == 10 then opens.LineFeed
    else if c == 13 then opens.CarriageReturn else if c == 47 then opens.Slash else if c == 34 then opens.Quote
    else if c == 39 then opens.Apostrophe else if c == 46 then opens.Point else opening_of_other c

-- the longest piece that begins with a character, of the kind that it may begin
abbrev pub piece_behind : Opening → ℕ → List ℕ → Option Piece
piece_behind opens.Space c cs = Some (piece.Space, 1)
piece_behind opens.Tab c cs = Some (piece.Tab, 1)
piece_behind opens.LineFeed c cs = Some (piece.Break, 1)
piece_behind opens.CarriageReturn c cs = if begins_with 10 cs then Some (piece.Break, 2) else None
piece_behind opens.Slash c cs = slash_at cs
piece_behind opens.Quote c cs = quoted_at cs
piece_behind opens.Apostrophe c cs = text_at cs
piece_behind opens.Point c cs = Some (point_at cs)
piece_behind opens.Digit c cs = Some (number_at cs)
piece_behind opens.Letter c cs = Some (identifier_at cs)
piece_behind opens.Sign c cs = option_map (λ (s : Symbol × ℕ). (piece.Lexeme (spells.Symbol s.0), s.1)) (symbol_at c cs)

-- the longest piece that begins with the first of some characters, if there is one
abbrev pub piece_at : List ℕ → Option Piece
piece_at [] = None
piece_at (c ∷ cs) = piece_behind (opening_of c) c cs
