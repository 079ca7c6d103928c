-- Reading the tree of features.
use Rattle.std.specs.Prelude.{ℕ, zero, suc, length, Err}
use Rattle.uvl_base.specs.declared.word.Word.TheVariants as word
use Rattle.uvl_ast.specs.declared.feature.Feature.{Feature, roll-Feature}
use Rattle.uvl_ast.specs.declared.feature.Group.{Group, roll-Group}
use Rattle.uvl_grammar.specs.steps.Tests.{is_word, is_newline, is_indent, is_dedent, stays}
use Rattle.uvl_grammar.specs.Braces.{attributes_of, rules_of}
use Rattle.uvl_grammar.specs.steps.Reading.{Reader, done, bind, one, choose, one_or_more, body, closed}
use Rattle.uvl_grammar.specs.steps.Refs.{reference}
use Rattle.uvl_grammar.specs.steps.Braces.{braces}
use Rattle.uvl_grammar.specs.steps.Groups.{group_front}

-- the word Boolean, or nothing
unfoldable pub boolean : Reader (Unit {0})
boolean = choose (is_word word.Boolean) (bind (one (is_word word.Boolean)) (λ place. done tt)) (done tt)

-- a group, whose members are read by p
unfoldable pub group_with : Reader Feature → Reader Group
group_with p =
    bind group_front (λ front. bind (one is_newline) (λ newline. bind (one is_indent) (λ indent.
    bind (one_or_more stays p) (λ members. bind (one is_dedent) (λ dedent.
    done (roll-Group (record { kind = front.0; members = members; place = front.1 })))))))

-- a feature, whose groups have members that are read by p
unfoldable pub feature_with : Reader Feature → Reader Feature
feature_with p =
    bind boolean (λ said. bind reference (λ name. bind braces (λ entries. bind (one is_newline) (λ newline.
    bind (body (group_with p)) (λ groups. done (roll-Feature (record {
      name = name;
      attributes = attributes_of entries;
      rules = rules_of entries;
      groups = groups;
    })))))))

-- a feature that nests less than so deep, itself counted
unfoldable pub feature_at : ℕ → Reader Feature
feature_at zero ts = Err (length ts)
feature_at (suc depth) ts = feature_with (feature_at depth) ts

-- a feature, however deep the tree below it
abbrev pub tree : Reader Feature
tree = closed feature_at
