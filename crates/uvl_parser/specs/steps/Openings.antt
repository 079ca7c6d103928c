-- What the first token of an operand of numbers says of it.
use Rattle.uvl_lexer.specs.declared.token.TokenKind.{TokenKind}
use Rattle.uvl_lexer.specs.declared.token.TokenKind.TheVariants as token
use Rattle.uvl_base.specs.declared.word.Word.{Word}
use Rattle.uvl_base.specs.declared.word.Word.TheVariants as word
use Rattle.uvl_lexer.specs.declared.token.Symbol.{Symbol}
use Rattle.uvl_lexer.specs.declared.token.Symbol.TheVariants as symbol
use Rattle.uvl_parser.specs.declared.expression.opening.Opening.{Opening}
use Rattle.uvl_parser.specs.declared.expression.opening.Opening.TheVariants as opens

abbrev pub opening_of_symbol : Symbol → Opening
opening_of_symbol symbol.LeftParen = opens.Parenthesis
opening_of_symbol symbol.Minus = opens.Minus
opening_of_symbol _ = opens.Other

abbrev pub opening_of_word : Word → Opening
opening_of_word word.Sum = opens.Sum
opening_of_word _ = opens.Other

abbrev pub opening_of : TokenKind → Opening
opening_of (token.Symbol s) = opening_of_symbol s
opening_of (token.Word w) = opening_of_word w
opening_of (token.Number value whole) = opens.Number value
opening_of _ = opens.Other
