-- Reading the sections of a file.
use Rattle.std.specs.Prelude.{ℕ, List, [], Option, Some, None}
use Rattle.uvl_base.specs.declared.word.Word.{Word}
use Rattle.uvl_base.specs.declared.word.Word.TheVariants as word
use Rattle.uvl_ast.specs.declared.names.Ref.{Ref}
use Rattle.uvl_ast.specs.declared.expression.Expr.{Expr}
use Rattle.uvl_ast.specs.declared.feature.Feature.{Feature}
use Rattle.uvl_ast.specs.declared.file.Import.{Import}
use Rattle.uvl_grammar.specs.steps.Tests.{Test, is_word, is_newline, is_indent, is_dedent, is_there}
use Rattle.uvl_grammar.specs.Sections.{level_part, joined}
use Rattle.uvl_grammar.specs.steps.Reading.{Reader, done, bind, one, accept, choose, one_or_more, body}
use Rattle.uvl_grammar.specs.steps.Refs.{reference}
use Rattle.uvl_grammar.specs.steps.Expressions.{expression}
use Rattle.uvl_grammar.specs.steps.Features.{tree}

-- a section of lines, which are read by p, or nothing
unfoldable pub section : {A : Type 0} → Word → Reader A → Reader (List A)
section w p = choose (is_word w) (bind (one (is_word w)) (λ place. bind (one is_newline) (λ newline. body p))) (done [])

unfoldable pub namespace : Reader (Option Ref)
namespace =
    choose (is_word word.Namespace)
    (bind (one (is_word word.Namespace)) (λ place. bind reference
    (λ r. bind (one is_newline) (λ newline. done (Some r)))))
    (done None)

-- whether a token belongs to a language level
abbrev pub is_level_part : Test
is_level_part kind = is_there (level_part kind)

unfoldable pub level_token : Reader (List ℕ)
level_token = bind (accept level_part) (λ part. done part.0)

-- a line of `include`
unfoldable pub level : Reader (List ℕ)
level = bind (one_or_more is_level_part level_token) (λ parts. bind (one is_newline) (λ newline. done (joined parts)))

unfoldable pub alias : Reader (Option Ref)
alias =
    choose (is_word word.As) (bind (one (is_word word.As)) (λ place. bind reference (λ r. done (Some r)))) (done None)

-- a line of `imports`
unfoldable pub import_line : Reader Import
import_line =
    bind reference (λ path. bind alias (λ name. bind (one is_newline) (λ newline.
    done (record { path = path; alias = name; place = path.place }))))

unfoldable pub features : Reader (Option Feature)
features =
    choose (is_word word.Features)
    (bind (one (is_word word.Features)) (λ place. bind (one is_newline) (λ newline. bind (one is_indent) (λ indent.
    bind tree (λ root. bind (one is_dedent) (λ dedent. done (Some root)))))))
    (done None)

-- a line of `constraints`
unfoldable pub rule : Reader Expr
rule = bind expression (λ e. bind (one is_newline) (λ newline. done e))
