-- Lines of tokens, seen from a place in them: a list of the tokens in front of it, the nearest first.
use Rattle.std.specs.Prelude.{Bool, true, ◌||◌, cond, List, [], ◌∷◌, reverse}
use Rattle.uvl_lexer.specs.declared.token.Token.{Token}
use Rattle.uvl_lexer.specs.Kinds.{Test, is_newline, is_indent, is_dedent}

-- what stands between lines
abbrev pub is_layout : Test
is_layout kind = is_newline kind || is_indent kind || is_dedent kind

-- whether what follows is first in its line
abbrev pub begins_line : List Token → Bool
begins_line [] = true
begins_line (t ∷ before) = is_layout t.kind

-- the tokens of its line in front of it, the nearest first
abbrev pub back_in_line : List Token → List Token
back_in_line [] = []
back_in_line (t ∷ before) = cond (is_layout t.kind) [] (t ∷ back_in_line before)

-- the same in the order of the text
abbrev pub line_of : List Token → List Token
line_of before = reverse (back_in_line before)
