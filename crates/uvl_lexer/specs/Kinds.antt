-- Tests of a token's kind.
use Rattle.std.specs.Prelude.{ℕ, Bool, true, false, ◌==◌, List, [], ◌∷◌}
use Rattle.uvl_lexer.specs.declared.token.Token.{Token}
use Rattle.uvl_lexer.specs.declared.token.TokenKind.{TokenKind}
use Rattle.uvl_lexer.specs.declared.token.TokenKind.TheVariants as token
use Rattle.uvl_base.specs.declared.word.Word.{Word}
use Rattle.uvl_base.specs.declared.word.Word.TheVariants as word
use Rattle.uvl_lexer.specs.declared.token.Symbol.{Symbol}
use Rattle.uvl_lexer.specs.declared.token.Symbol.TheVariants as symbol

abbrev pub Test : Type 0
Test = TokenKind → Bool

-- the reserved words and the symbols by their places in their lists
abbrev pub number_of_word : Word → ℕ
number_of_word word.Namespace = 0
number_of_word word.Include = 1
number_of_word word.Imports = 2
number_of_word word.As = 3
number_of_word word.Features = 4
number_of_word word.Constraints = 5
number_of_word word.Constraint = 6
number_of_word word.Mandatory = 7
number_of_word word.Optional = 8
number_of_word word.Alternative = 9
number_of_word word.Or = 10
number_of_word word.Cardinality = 11
number_of_word word.Sum = 12
number_of_word word.Avg = 13
number_of_word word.Len = 14
number_of_word word.Floor = 15
number_of_word word.Ceil = 16
number_of_word word.True = 17
number_of_word word.False = 18
number_of_word word.Boolean = 19
number_of_word word.String = 20
number_of_word word.Integer = 21
number_of_word word.Real = 22

abbrev pub number_of_symbol : Symbol → ℕ
number_of_symbol symbol.LeftParen = 0
number_of_symbol symbol.RightParen = 1
number_of_symbol symbol.LeftBracket = 2
number_of_symbol symbol.RightBracket = 3
number_of_symbol symbol.LeftBrace = 4
number_of_symbol symbol.RightBrace = 5
number_of_symbol symbol.Comma = 6
number_of_symbol symbol.Dot = 7
number_of_symbol symbol.Dots = 8
number_of_symbol symbol.Bang = 9
number_of_symbol symbol.Amp = 10
number_of_symbol symbol.Bar = 11
number_of_symbol symbol.Implies = 12
number_of_symbol symbol.Iff = 13
number_of_symbol symbol.Equal = 14
number_of_symbol symbol.Differs = 15
number_of_symbol symbol.Less = 16
number_of_symbol symbol.AtMost = 17
number_of_symbol symbol.Greater = 18
number_of_symbol symbol.AtLeast = 19
number_of_symbol symbol.Plus = 20
number_of_symbol symbol.Minus = 21
number_of_symbol symbol.Star = 22
number_of_symbol symbol.Slash = 23

abbrev pub is_word : Word → Test
is_word w (token.Word v) = number_of_word v == number_of_word w
is_word w _ = false

abbrev pub is_symbol : Symbol → Test
is_symbol s (token.Symbol v) = number_of_symbol v == number_of_symbol s
is_symbol s _ = false

abbrev pub is_newline : Test
is_newline token.Newline = true
is_newline _ = false

abbrev pub is_indent : Test
is_indent token.Indent = true
is_indent _ = false

abbrev pub is_dedent : Test
is_dedent token.Dedent = true
is_dedent _ = false

abbrev pub is_finish : Test
is_finish token.Finish = true
is_finish _ = false

-- whether the first token passes a test
abbrev pub begins : Test → List Token → Bool
begins test [] = false
begins test (t ∷ ts) = test t.kind
