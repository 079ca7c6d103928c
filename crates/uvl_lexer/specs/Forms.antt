-- The pieces of a text by their forms, without regard to how they are read: which spelling is a piece of which kind,
-- and what it means that a piece is the longest at its place.
use Rattle.std.specs.Prelude.{◌≡◌, ℕ, ◌≤◌, Bool, false, not, ◌&&◌, ◌||◌, ◌==◌, IsTrue, IsFalse, ⊤, ◌⊎◌, List, [], ◌∷◌, ◌++◌, length, codes}
use Rattle.std.specs.Char.{is_ascii_digit}
use Rattle.std.specs.List.{list_all}
use Rattle.uvl_base.specs.Identifier.{begins_identifier, continues_identifier}
use Rattle.uvl_base.specs.Name.{is_name}
use Rattle.uvl_lexer.specs.Characters.{begins_with, may_stand_in_text}
use Rattle.uvl_lexer.specs.declared.token.Symbol.{Symbol}
use Rattle.uvl_lexer.specs.declared.token.Symbol.TheVariants.{LeftParen, RightParen, LeftBracket, RightBracket, LeftBrace, RightBrace, Comma, Dot, Dots, Bang, Amp, Bar, Implies, Iff, Equal, Differs, Less, AtMost, Greater, AtLeast, Plus, Minus, Star, Slash}
use Rattle.uvl_lexer.specs.declared.piece.Lexeme.{Lexeme}
use Rattle.uvl_lexer.specs.declared.piece.Lexeme.TheVariants as spells
use Rattle.uvl_lexer.specs.declared.piece.PieceKind.{PieceKind}
use Rattle.uvl_lexer.specs.declared.piece.PieceKind.TheVariants as piece

-- ---- tokens

-- an identifier: `_` or a character of XID_Start, then characters of XID_Continue, `#`, `%` and `?`
abbrev pub IsIdentifier : List ℕ → Type 0
IsIdentifier spelling =
    (first : ℕ) × (others : List ℕ) × (spelling ≡ first ∷ others)
    × IsTrue (begins_identifier first) × IsTrue (list_all continues_identifier others)

-- a quoted name: a name between two `"` (34)
abbrev pub IsQuotedName : List ℕ → Type 0
IsQuotedName spelling = (name : List ℕ) × (spelling ≡ 34 ∷ name ++ 34 ∷ []) × IsTrue (is_name name)

-- a text: characters but `'` (39), LF and CR, between two `'`
abbrev pub IsText : List ℕ → Type 0
IsText spelling = (text : List ℕ) × (spelling ≡ 39 ∷ text ++ 39 ∷ []) × IsTrue (list_all may_stand_in_text text)

-- digits, at least one
abbrev pub IsDigits : List ℕ → Type 0
IsDigits digits = (1 ≤ length digits) × IsTrue (list_all is_ascii_digit digits)

-- digits that may be missing, a point (46) and digits
abbrev pub IsDecimal : List ℕ → Type 0
IsDecimal spelling =
    (whole : List ℕ) × (decimals : List ℕ) × (spelling ≡ whole ++ 46 ∷ decimals)
    × IsTrue (list_all is_ascii_digit whole) × IsDigits decimals

-- a number: digits, or digits that may be missing, a point and digits
abbrev pub IsNumber : List ℕ → Type 0
IsNumber spelling = IsDigits spelling ⊎ IsDecimal spelling

-- the characters of a symbol
abbrev pub symbol_text : Symbol → List ℕ
symbol_text LeftParen = codes "("
symbol_text RightParen = codes ")"
symbol_text LeftBracket = codes "["
symbol_text RightBracket = codes "]"
symbol_text LeftBrace = codes "{"
symbol_text RightBrace = codes "}"
symbol_text Comma = codes ","
symbol_text Dot = codes "."
symbol_text Dots = codes ".."
symbol_text Bang = codes "!"
symbol_text Amp = codes "&"
symbol_text Bar = codes "|"
symbol_text Implies = codes "=>"
symbol_text Iff = codes "<=>"
symbol_text Equal = codes "=="
symbol_text Differs = codes "!="
symbol_text Less = codes "<"
symbol_text AtMost = codes "<="
symbol_text Greater = codes ">"
symbol_text AtLeast = codes ">="
symbol_text Plus = codes "+"
symbol_text Minus = codes "-"
symbol_text Star = codes "*"
symbol_text Slash = codes "/"

-- the spelling of a token, by its kind
abbrev pub HasTokenForm : Lexeme → List ℕ → Type 0
HasTokenForm spells.Identifier spelling = IsIdentifier spelling
HasTokenForm spells.Quoted spelling = IsQuotedName spelling
HasTokenForm spells.Number spelling = IsNumber spelling
HasTokenForm spells.Text spelling = IsText spelling
HasTokenForm (spells.Symbol s) spelling = spelling ≡ symbol_text s

-- ---- line breaks and comments

-- a line break: LF (10), or CR (13) and LF
abbrev pub IsLineBreak : List ℕ → Type 0
IsLineBreak spelling = (spelling ≡ 10 ∷ []) ⊎ (spelling ≡ 13 ∷ 10 ∷ [])

-- a comment on a line: `//` (47, 47) and characters but LF
abbrev pub IsLineComment : List ℕ → Type 0
IsLineComment spelling =
    (inside : List ℕ) × (spelling ≡ 47 ∷ 47 ∷ inside) × IsTrue (list_all (λ c. not (c == 10)) inside)

-- a comment in `/*` (47, 42) and the next `*/`
abbrev pub IsBlockComment : List ℕ → Type 0
IsBlockComment spelling =
    (inside : List ℕ) × (spelling ≡ 47 ∷ 42 ∷ inside ++ 42 ∷ 47 ∷ [])
    × ((front behind : List ℕ) → inside ≡ front ++ 42 ∷ 47 ∷ behind → ⊥)

-- ---- pieces

-- the spelling of a piece, by its kind
abbrev pub HasForm : PieceKind → List ℕ → Type 0
HasForm piece.Space spelling = spelling ≡ 32 ∷ []
HasForm piece.Tab spelling = spelling ≡ 9 ∷ []
HasForm piece.Break spelling = IsLineBreak spelling
HasForm piece.Comment spelling = IsLineComment spelling ⊎ IsBlockComment spelling
HasForm (piece.Lexeme l) spelling = HasTokenForm l spelling

-- whether a text begins with `//` or `/*`
abbrev pub opens_comment : List ℕ → Bool
opens_comment [] = false
opens_comment (c ∷ cs) = c == 47 && (begins_with 47 cs || begins_with 42 cs)

-- What follows a piece matters in two cases. `//` and `/*` always begin a comment, so no symbol is taken at their
-- front. A line may end with CR and LF, which belong together, so no comment ends between the two.
abbrev pub MayStandBefore : PieceKind → List ℕ → List ℕ → Type 0
MayStandBefore piece.Comment spelling rest =
    (front behind : List ℕ) → spelling ≡ front ++ 13 ∷ [] → rest ≡ 10 ∷ behind → ⊥
MayStandBefore (piece.Lexeme (spells.Symbol s)) spelling rest = IsFalse (opens_comment (spelling ++ rest))
MayStandBefore _ spelling rest = ⊤

-- a piece of this kind, which is spelled so, stands at the front of a text
pub record BeginsText (kind : PieceKind) (spelling text : List ℕ) : Type 0 where
  pub form : HasForm kind spelling
  pub rest : List ℕ
  pub joined : text ≡ spelling ++ rest
  pub stands : MayStandBefore kind spelling rest

-- no piece stands at the front of a text
abbrev pub NoneBegins : List ℕ → Type 0
NoneBegins text = (kind : PieceKind) (spelling : List ℕ) → BeginsText kind spelling text → ⊥

-- a piece stands at the front of a text, and no longer one does
pub record IsLongest (kind : PieceKind) (spelling text : List ℕ) : Type 0 where
  pub begins : BeginsText kind spelling text
  pub longest : (other : PieceKind) (characters : List ℕ) → BeginsText other characters text
      → length characters ≤ length spelling
