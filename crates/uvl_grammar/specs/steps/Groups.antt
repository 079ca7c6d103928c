-- Reading the words and ranges that begin a group.
use Rattle.std.specs.Prelude.{ℕ, Option, Some, None}
use Rattle.uvl_lexer.specs.declared.token.TokenKind.{TokenKind}
use Rattle.uvl_lexer.specs.declared.token.TokenKind.TheVariants as token
use Rattle.uvl_base.specs.declared.word.Word.TheVariants as word
use Rattle.uvl_lexer.specs.declared.token.Symbol.TheVariants as symbol
use Rattle.uvl_ast.specs.declared.feature.GroupKind.{GroupKind}
use Rattle.uvl_ast.specs.declared.feature.GroupKind.TheVariants as group
use Rattle.uvl_grammar.specs.Tokens.{whole_of}
use Rattle.uvl_grammar.specs.steps.Tests.{is_symbol}
use Rattle.uvl_grammar.specs.Groups.{GroupFront}
use Rattle.uvl_grammar.specs.steps.Reading.{Reader, done, bind, one, accept, choose}

-- the kind that a word says
abbrev pub kind_of : TokenKind → Option GroupKind
kind_of (token.Word word.Mandatory) = Some group.Mandatory
kind_of (token.Word word.Optional) = Some group.Optional
kind_of (token.Word word.Alternative) = Some group.Alternative
kind_of (token.Word word.Or) = Some group.Or
kind_of _ = None

-- what is behind the dots of a range: an upper bound, or a star
unfoldable pub upper : ℕ → Reader GroupKind
upper lo =
    choose (is_symbol symbol.Star) (bind (one (is_symbol symbol.Star)) (λ star. done (group.Range lo None)))
    (bind (accept whole_of) (λ hi. done (group.Range lo (Some hi.0))))

-- what is behind the lower bound: dots and an upper bound, or nothing
unfoldable pub range_from : ℕ → Reader GroupKind
range_from lo =
    choose (is_symbol symbol.Dots) (bind (one (is_symbol symbol.Dots))
    (λ dots. upper lo)) (done (group.Range lo (Some lo)))

-- a range in brackets
unfoldable pub range : Reader GroupFront
range =
    bind (one (is_symbol symbol.LeftBracket)) (λ place. bind (accept whole_of) (λ lo. bind (range_from lo.0) (λ kind.
    bind (one (is_symbol symbol.RightBracket)) (λ right. done (kind, place)))))

unfoldable pub group_front : Reader GroupFront
group_front = choose (is_symbol symbol.LeftBracket) range (accept kind_of)
