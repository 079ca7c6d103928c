-- Tests of tokens, as a reader makes them.
use Rattle.std.specs.Prelude.{Bool, true, false, not, Option, Some, None}
use Rattle.uvl_lexer.specs.declared.token.TokenKind.TheVariants as token
use Rattle.uvl_base.specs.declared.word.Word.TheVariants as word
use Rattle.uvl_lexer.specs.declared.token.Symbol.TheVariants as symbol
pub use Rattle.uvl_lexer.specs.Kinds.{Test, number_of_word, number_of_symbol, is_word, is_symbol, is_newline, is_indent, is_dedent, is_finish, begins}

-- whether an indentation goes on
abbrev pub stays : Test
stays kind = not (is_dedent kind)

-- whether there is something
abbrev pub is_there : {A : Type 0} → Option A → Bool
is_there (Some a) = true
is_there None = false

-- whether a value begins
abbrev pub begins_value : Test
begins_value (token.Symbol symbol.LeftBrace) = true
begins_value (token.Symbol symbol.LeftBracket) = true
begins_value (token.Symbol symbol.Minus) = true
begins_value (token.Word word.True) = true
begins_value (token.Word word.False) = true
begins_value (token.Number value whole) = true
begins_value (token.Text text) = true
begins_value _ = false
