-- Reading a file.
use Rattle.uvl_base.specs.declared.word.Word.TheVariants as word
use Rattle.uvl_ast.specs.declared.file.File.{File}
use Rattle.uvl_grammar.specs.steps.Tests.{is_finish}
use Rattle.uvl_grammar.specs.steps.Reading.{Reader, done, bind, one}
use Rattle.uvl_grammar.specs.steps.Sections.{section, namespace, level, import_line, features, rule}

unfoldable pub file : Reader File
file =
    bind namespace (λ name. bind (section word.Include level)
    (λ levels. bind (section word.Imports import_line) (λ imports.
    bind features (λ root. bind (section word.Constraints rule) (λ rules. bind (one is_finish) (λ finish.
    done (record {
      namespace = name;
      levels = levels;
      imports = imports;
      root = root;
      rules = rules;
      finish = finish;
    })))))))
