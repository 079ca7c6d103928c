-- What a token does to the nesting of a line: it opens a bracket, closes one, ends the operand of a `!`, is a
-- `!` itself, or none of these.
use Rattle.std.specs.Prelude.{◌≡◌, true, false}
use Rattle.std.proofs.Common.{refl}
use Rattle.uvl_lexer.specs.declared.token.TokenKind.{TokenKind}
use Rattle.uvl_lexer.specs.declared.token.TokenKind.TheVariants as token
use Rattle.uvl_lexer.specs.declared.token.Symbol.TheVariants as symbol
use Rattle.uvl_lexer.specs.Kinds.{is_symbol}
use Rattle.uvl_profile.specs.Nesting.{opens_bracket, closes_bracket, ends_operand}

pub data Sort (kind : TokenKind) : Type 0 where
  Opening : opens_bracket kind ≡ true → closes_bracket kind ≡ false → ends_operand kind ≡ false → is_symbol symbol.Bang kind ≡ false → Sort kind
  Closing : opens_bracket kind ≡ false → closes_bracket kind ≡ true → ends_operand kind ≡ true → is_symbol symbol.Bang kind ≡ false → Sort kind
  Ending : opens_bracket kind ≡ false → closes_bracket kind ≡ false → ends_operand kind ≡ true → is_symbol symbol.Bang kind ≡ false → Sort kind
  Negating : opens_bracket kind ≡ false → closes_bracket kind ≡ false → ends_operand kind ≡ false → is_symbol symbol.Bang kind ≡ true → Sort kind
  Plain : opens_bracket kind ≡ false → closes_bracket kind ≡ false → ends_operand kind ≡ false → is_symbol symbol.Bang kind ≡ false → Sort kind

pub sort_of : (kind : TokenKind) → Sort kind
sort_of (token.Symbol symbol.LeftParen) = Opening refl refl refl refl
sort_of (token.Symbol symbol.LeftBracket) = Opening refl refl refl refl
sort_of (token.Symbol symbol.LeftBrace) = Opening refl refl refl refl
sort_of (token.Symbol symbol.RightParen) = Closing refl refl refl refl
sort_of (token.Symbol symbol.RightBracket) = Closing refl refl refl refl
sort_of (token.Symbol symbol.RightBrace) = Closing refl refl refl refl
sort_of (token.Symbol symbol.Comma) = Ending refl refl refl refl
sort_of (token.Symbol symbol.Amp) = Ending refl refl refl refl
sort_of (token.Symbol symbol.Bar) = Ending refl refl refl refl
sort_of (token.Symbol symbol.Implies) = Ending refl refl refl refl
sort_of (token.Symbol symbol.Iff) = Ending refl refl refl refl
sort_of (token.Symbol symbol.Bang) = Negating refl refl refl refl
sort_of _ = Plain refl refl refl refl
