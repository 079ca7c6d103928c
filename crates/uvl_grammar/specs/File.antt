-- What a list of tokens spells.
--   file = namespace? include? imports? features? constraints? Finish
use Rattle.std.specs.Prelude.{List, [], ◌∷◌, ◌++◌, Option, ℕ}
use Rattle.uvl_lexer.specs.declared.token.Token.{Token}
use Rattle.uvl_base.specs.declared.word.Word.TheVariants as word
use Rattle.uvl_ast.specs.declared.names.Ref.{Ref}
use Rattle.uvl_ast.specs.declared.expression.Expr.{Expr}
use Rattle.uvl_ast.specs.declared.feature.Feature.{Feature}
use Rattle.uvl_ast.specs.declared.file.Import.{Import}
use Rattle.uvl_ast.specs.declared.file.File.{File}
use Rattle.uvl_grammar.specs.Tokens.{IsFinish}
use Rattle.uvl_grammar.specs.Sections.{SpellsSection, SpellsNamespace, SpellsLevel, SpellsImport, SpellsFeatures, SpellsRule}

-- the tokens spell the file
pub data Spells : List Token → File → Type 0 where
  A_file : {ns ls ms fs rs : List Token} (finish : Token) {namespace : Option Ref} {levels : List (List ℕ)}
      {imports : List Import} {root : Option Feature} {rules : List Expr}
      → SpellsNamespace ns namespace → SpellsSection word.Include SpellsLevel ls levels
      → SpellsSection word.Imports SpellsImport ms imports → SpellsFeatures fs root
      → SpellsSection word.Constraints SpellsRule rs rules → IsFinish finish
      → Spells (ns ++ ls ++ ms ++ fs ++ rs ++ finish ∷ [])
      (record {
        namespace = namespace;
        levels = levels;
        imports = imports;
        root = root;
        rules = rules;
        finish = finish.place;
      })
