-- Reading what stands in braces behind a feature.
use Rattle.std.specs.Prelude.{List, [], ◌++◌, Ok}
use Rattle.uvl_base.specs.declared.word.Word.TheVariants as word
use Rattle.uvl_lexer.specs.declared.token.Symbol.TheVariants as symbol
use Rattle.uvl_ast.specs.declared.expression.Expr.{Expr}
use Rattle.uvl_grammar.specs.steps.Tests.{is_word, is_symbol}
use Rattle.uvl_grammar.specs.declared.entry.Entry.{Entry}
use Rattle.uvl_grammar.specs.declared.entry.Entry.TheVariants.{Plain, Rule, Rules}
use Rattle.uvl_ast.specs.declared.feature.Attribute.{Attribute}
use Rattle.uvl_grammar.specs.Braces.{attributes_of, rules_of}
use Rattle.uvl_grammar.specs.steps.Reading.{Read, Reader, ◌>>=◌, done, bind, one, choose, separated}
use Rattle.uvl_grammar.specs.steps.Values.{attribute}
use Rattle.uvl_grammar.specs.steps.Expressions.{expression}

-- rules in brackets
unfoldable pub rule_list : Reader (List Expr)
rule_list =
    bind (one (is_symbol symbol.LeftBracket))
    (λ left. bind (separated (is_symbol symbol.RightBracket) expression) (λ rules.
    bind (one (is_symbol symbol.RightBracket)) (λ right. done rules)))

unfoldable pub entry : Reader Entry
entry =
    choose (is_word word.Constraint)
    (bind (one (is_word word.Constraint)) (λ place. bind expression (λ rule. done (Rule rule))))
    (choose (is_word word.Constraints)
    (bind (one (is_word word.Constraints)) (λ place. bind rule_list (λ rules. done (Rules rules))))
    (bind attribute (λ a. done (Plain a))))

unfoldable pub braces : Reader (List Entry)
braces =
    choose (is_symbol symbol.LeftBrace)
    (bind (one (is_symbol symbol.LeftBrace)) (λ left. bind (separated (is_symbol symbol.RightBrace) entry) (λ entries.
    bind (one (is_symbol symbol.RightBrace)) (λ right. done entries))))
    (done [])

-- the attributes and the rules of the entries that were read
abbrev pub kept : Read (List Entry) → Read (List Attribute × List Expr)
kept read = read >>= λ r. Ok ((attributes_of r.0, rules_of r.0), r.1)

-- the same, behind others
abbrev pub kept_behind : List Attribute → List Expr → Read (List Entry) → Read (List Attribute × List Expr)
kept_behind attributes rules read = read >>= λ r. Ok ((attributes ++ attributes_of r.0, rules ++ rules_of r.0), r.1)

-- the same, with the brace that closes them
abbrev pub kept_closed : Read (List Attribute × List Expr) → Read (List Attribute × List Expr)
kept_closed read = read >>= λ r. one (is_symbol symbol.RightBrace) r.1 >>= λ right. Ok (r.0, right.1)
