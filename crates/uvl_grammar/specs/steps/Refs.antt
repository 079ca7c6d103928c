-- Reading references.
use Rattle.std.specs.Prelude.{ℕ, List, ◌∷◌}
use Rattle.uvl_lexer.specs.declared.token.Symbol.TheVariants as symbol
use Rattle.uvl_ast.specs.declared.names.Ref.{Ref}
use Rattle.uvl_grammar.specs.Tokens.{name_of}
use Rattle.uvl_grammar.specs.steps.Tests.{is_symbol}
use Rattle.uvl_grammar.specs.steps.Reading.{Reader, done, bind, one, accept, many}

unfoldable pub dot_name : Reader (List ℕ)
dot_name = bind (one (is_symbol symbol.Dot)) (λ dot. bind (accept name_of) (λ name. done name.0))

unfoldable pub reference : Reader Ref
reference =
    bind (accept name_of) (λ first. bind (many (is_symbol symbol.Dot) dot_name) (λ names.
    done (record { parts = first.0 ∷ names; place = first.1 })))
