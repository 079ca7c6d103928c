-- The nodes of a rule, by its tokens: its literals, references, sums and operators. A rule is a line of the
-- constraints section, what stands behind `constraint` in braces, or one of what stands with commas
-- between them in `constraints [ .. ]`. Lists of tokens in front have the nearest first.
use Rattle.std.specs.Prelude.{ℕ, ◌+◌, Bool, true, false, not, ◌&&◌, ◌||◌, cond, List, [], ◌∷◌, Option, Some, None}
use Rattle.uvl_lexer.specs.declared.token.Token.{Token}
use Rattle.uvl_lexer.specs.declared.token.TokenKind.{TokenKind}
use Rattle.uvl_lexer.specs.declared.token.TokenKind.TheVariants as token
use Rattle.uvl_base.specs.declared.word.Word.TheVariants as word
use Rattle.uvl_lexer.specs.declared.token.Symbol.TheVariants as symbol
use Rattle.uvl_profile.specs.declared.section.Section.TheVariants.{Features, Constraints}
use Rattle.uvl_lexer.specs.Kinds.{Test, is_word, is_symbol, begins}
use Rattle.uvl_profile.specs.Lines.{is_layout}
use Rattle.uvl_profile.specs.Nesting.{one_if}
use Rattle.uvl_profile.specs.Sections.{is_in}

-- ---- nodes

-- what an operand of numbers may end with
abbrev pub ends_number : Test
ends_number (token.Name name quoted) = true
ends_number (token.Number value whole) = true
ends_number (token.Symbol symbol.RightParen) = true
ends_number _ = false

-- whether what follows stands behind a minus that is a sign: one that stands behind no operand
abbrev pub behind_sign : List Token → Bool
behind_sign [] = false
behind_sign (t ∷ before) = is_symbol symbol.Minus t.kind && not (begins ends_number before)

-- whether a name that follows is what a sum is of
abbrev pub behind_sum : List Token → Bool
behind_sum [] = false
behind_sum (t ∷ before) = is_symbol symbol.LeftParen t.kind && begins (is_word word.Sum) before

-- the operators, of which a minus may be a sign: then the literal begins with it
abbrev pub is_operator : Test
is_operator (token.Symbol symbol.Bang) = true
is_operator (token.Symbol symbol.Amp) = true
is_operator (token.Symbol symbol.Bar) = true
is_operator (token.Symbol symbol.Implies) = true
is_operator (token.Symbol symbol.Iff) = true
is_operator (token.Symbol symbol.Equal) = true
is_operator (token.Symbol symbol.Differs) = true
is_operator (token.Symbol symbol.Less) = true
is_operator (token.Symbol symbol.AtMost) = true
is_operator (token.Symbol symbol.Greater) = true
is_operator (token.Symbol symbol.AtLeast) = true
is_operator (token.Symbol symbol.Plus) = true
is_operator (token.Symbol symbol.Minus) = true
is_operator (token.Symbol symbol.Star) = true
is_operator _ = false

-- Whether a token of a rule is where a node stands: an operator or a sign, a number without one, the word
-- of a sum, or the first name of a reference.
abbrev pub is_node : List Token → TokenKind → Bool
is_node before (token.Name name quoted) = not (begins (is_symbol symbol.Dot) before) && not (behind_sum before)
is_node before (token.Number value whole) = not (behind_sign before)
is_node before (token.Word w) = is_word word.Sum (token.Word w)
is_node before (token.Symbol s) = is_operator (token.Symbol s)
is_node before _ = false

-- ---- rules

-- whether a token is the bracket of `constraints [`
abbrev pub opens_list : List Token → TokenKind → Bool
opens_list before kind =
    is_symbol symbol.LeftBracket kind && begins (is_word word.Constraints) before && is_in Features before

-- whether what follows stands in such brackets
abbrev pub in_list : List Token → Bool
in_list [] = false
in_list (t ∷ before) =
    opens_list before t.kind || (in_list before && not (is_symbol symbol.RightBracket t.kind) && not (is_layout t.kind))

-- whether a rule begins behind a token
abbrev pub rule_behind : List Token → Token → Bool
rule_behind before t =
    (is_layout t.kind && is_in Constraints (t ∷ before))
    || (is_word word.Constraint t.kind && is_in Features before)
    || opens_list before t.kind
    || (is_symbol symbol.Comma t.kind && in_list before)

-- what stands in no rule
abbrev pub ends_rule : Test
ends_rule kind =
    is_layout kind || is_symbol symbol.Comma kind || is_symbol symbol.RightBracket kind
    || is_symbol symbol.RightBrace kind

-- a rule with one node more, or with as many
abbrev pub with_node : Bool → Option ℕ → Option ℕ
with_node node None = None
with_node node (Some nodes) = Some (nodes + one_if node)

-- how many nodes the rule has so far in which what follows stands, where it stands in one
abbrev pub rule_nodes : List Token → Option ℕ
rule_nodes [] = None
rule_nodes (t ∷ before) =
    cond (rule_behind before t) (Some 0)
    (cond (ends_rule t.kind) None (with_node (is_node before t.kind) (rule_nodes before)))
