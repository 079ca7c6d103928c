-- How deep brackets and `!` nest at a place in a line: how many brackets of any kind stand open there,
-- and how many `!` apply to what follows. A `!` applies to the whole comparison behind it.
use Rattle.std.specs.Prelude.{ℕ, zero, suc, ◌+◌, ◌-◌, Bool, true, false, not, ◌&&◌, ◌||◌, cond, List, [], ◌∷◌}
use Rattle.uvl_lexer.specs.declared.token.Token.{Token}
use Rattle.uvl_lexer.specs.declared.token.TokenKind.{TokenKind}
use Rattle.uvl_lexer.specs.declared.token.TokenKind.TheVariants as token
use Rattle.uvl_lexer.specs.declared.token.Symbol.TheVariants as symbol
use Rattle.uvl_lexer.specs.Kinds.{Test, is_symbol}

abbrev pub opens_bracket : Test
opens_bracket (token.Symbol symbol.LeftParen) = true
opens_bracket (token.Symbol symbol.LeftBracket) = true
opens_bracket (token.Symbol symbol.LeftBrace) = true
opens_bracket _ = false

-- whether what follows is nested deeper by a token
abbrev pub deepens : Test
deepens kind = opens_bracket kind || is_symbol symbol.Bang kind

abbrev pub closes_bracket : Test
closes_bracket (token.Symbol symbol.RightParen) = true
closes_bracket (token.Symbol symbol.RightBracket) = true
closes_bracket (token.Symbol symbol.RightBrace) = true
closes_bracket _ = false

-- what ends the operand of a `!`: a connective, a comma, or the end of the brackets around it
abbrev pub ends_operand : Test
ends_operand (token.Symbol symbol.Amp) = true
ends_operand (token.Symbol symbol.Bar) = true
ends_operand (token.Symbol symbol.Implies) = true
ends_operand (token.Symbol symbol.Iff) = true
ends_operand (token.Symbol symbol.Comma) = true
ends_operand kind = closes_bracket kind

-- how many brackets stand open behind a token, of so many in front of it
abbrev pub open_behind : ℕ → TokenKind → ℕ
open_behind inner kind = cond (opens_bracket kind) (suc inner) (cond (closes_bracket kind) (inner - 1) inner)

-- a token inside brackets ends nothing around them
abbrev pub ends_outside : Test → ℕ → TokenKind → Bool
ends_outside ends zero kind = ends kind
ends_outside ends (suc inner) kind = false

-- Whether something goes on behind these tokens, where so many brackets stand open inside it in front of
-- them: none of them ends it outside the brackets inside it.
abbrev pub goes_on : Test → ℕ → List Token → Bool
goes_on ends inner [] = true
goes_on ends inner (t ∷ ts) = not (ends_outside ends inner t.kind) && goes_on ends (open_behind inner t.kind) ts

abbrev pub one_if : Bool → ℕ
one_if true = 1
one_if false = 0

-- the brackets of a line that stand open behind it
abbrev pub open_brackets : List Token → ℕ
open_brackets [] = 0
open_brackets (t ∷ ts) = one_if (opens_bracket t.kind && goes_on closes_bracket 0 ts) + open_brackets ts

-- the `!` of a line that apply to what follows it
abbrev pub applying : List Token → ℕ
applying [] = 0
applying (t ∷ ts) = one_if (is_symbol symbol.Bang t.kind && goes_on ends_operand 0 ts) + applying ts

-- the nesting of what follows a line's tokens
abbrev pub nesting : List Token → ℕ
nesting line = open_brackets line + applying line
