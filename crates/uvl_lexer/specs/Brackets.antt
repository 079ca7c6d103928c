-- The brackets that stand open at a place, the innermost first.
use Rattle.std.specs.Prelude.{Bool, true, false, List, [], ◌∷◌, drop}
use Rattle.uvl_lexer.specs.declared.token.Symbol.{Symbol}
use Rattle.uvl_lexer.specs.declared.token.Symbol.TheVariants.{LeftParen, RightParen, LeftBracket, RightBracket, LeftBrace, RightBrace}
use Rattle.uvl_lexer.specs.declared.brackets.Bracket.{Bracket}
use Rattle.uvl_lexer.specs.declared.brackets.Bracket.TheVariants.{Paren, Square, Brace}
use Rattle.uvl_lexer.specs.declared.brackets.Role.{Role}
use Rattle.uvl_lexer.specs.declared.brackets.Role.TheVariants.{Opens, Closes, Neither}

-- what a symbol does to the open brackets
abbrev pub role_of : Symbol → Role
role_of LeftParen = Opens Paren
role_of LeftBracket = Opens Square
role_of LeftBrace = Opens Brace
role_of RightParen = Closes Paren
role_of RightBracket = Closes Square
role_of RightBrace = Closes Brace
role_of _ = Neither

-- whether two brackets are of one kind
abbrev pub same_bracket : Bracket → Bracket → Bool
same_bracket Paren Paren = true
same_bracket Square Square = true
same_bracket Brace Brace = true
same_bracket _ _ = false

-- whether a bracket is the innermost open one
abbrev pub is_innermost : Bracket → List Bracket → Bool
is_innermost b [] = false
is_innermost b (c ∷ cs) = same_bracket b c

-- whether a symbol may stand: a closing bracket closes the innermost open one
abbrev pub may_stand : Role → List Bracket → Bool
may_stand (Opens b) before = true
may_stand (Closes b) before = is_innermost b before
may_stand Neither before = true

-- the brackets that are open behind a symbol
abbrev pub open_behind : Role → List Bracket → List Bracket
open_behind (Opens b) before = b ∷ before
open_behind (Closes b) before = drop 1 before
open_behind Neither before = before
