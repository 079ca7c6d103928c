-- What the grammar asks of a token, which is its kind alone, and what it takes from one.
use Rattle.std.specs.Prelude.{◌≡◌, ℕ, ◌/◌, Bool, true, false, List, ℤ, pos, negsuc, Option, Some, None}
use Rattle.uvl_lexer.specs.declared.token.Token.{Token}
use Rattle.uvl_lexer.specs.declared.token.TokenKind.{TokenKind}
use Rattle.uvl_lexer.specs.declared.token.TokenKind.TheVariants as token
use Rattle.uvl_base.specs.declared.word.Word.{Word}
use Rattle.uvl_lexer.specs.declared.token.Symbol.{Symbol}

-- the token is this reserved word
abbrev pub IsWord : Word → Token → Type 0
IsWord w t = t.kind ≡ token.Word w

-- the token is this symbol
abbrev pub IsSymbol : Symbol → Token → Type 0
IsSymbol s t = t.kind ≡ token.Symbol s

-- the token ends a line
abbrev pub IsNewline : Token → Type 0
IsNewline t = t.kind ≡ token.Newline

-- the token opens an indentation
abbrev pub IsIndent : Token → Type 0
IsIndent t = t.kind ≡ token.Indent

-- the token closes one
abbrev pub IsDedent : Token → Type 0
IsDedent t = t.kind ≡ token.Dedent

-- the token ends the file
abbrev pub IsFinish : Token → Type 0
IsFinish t = t.kind ≡ token.Finish

-- the name that a token is, an identifier or a quoted name
abbrev pub name_of : TokenKind → Option (List ℕ)
name_of (token.Name name quoted) = Some name
name_of _ = None

-- the number that a token is, in millionths
abbrev pub number_of : TokenKind → Option ℤ
number_of (token.Number value whole) = Some value
number_of _ = None

-- the number of a token without a point, of which a million millionths make one
abbrev pub whole_value : Bool → ℤ → Option ℕ
whole_value true (pos millionths) = Some (millionths / 1000000)
whole_value true (negsuc n) = None
whole_value false value = None

abbrev pub whole_of : TokenKind → Option ℕ
whole_of (token.Number value whole) = whole_value whole value
whole_of _ = None

-- the text that a token is
abbrev pub text_of : TokenKind → Option (List ℕ)
text_of (token.Text text) = Some text
text_of _ = None
