-- The tree of features.
--   feature = "Boolean"? ref braces? Newline (Indent group+ Dedent)?
--   group   = kind Newline Indent feature+ Dedent
use Rattle.std.specs.Prelude.{ℕ, zero, suc, List, [], ◌∷◌, ◌++◌}
use Rattle.uvl_lexer.specs.declared.token.Token.{Token}
use Rattle.uvl_base.specs.declared.word.Word.TheVariants as word
use Rattle.uvl_ast.specs.declared.names.Ref.{Ref}
use Rattle.uvl_ast.specs.declared.feature.Feature.{Feature, roll-Feature}
use Rattle.uvl_ast.specs.declared.feature.Group.{Group, roll-Group}
use Rattle.uvl_grammar.specs.Tokens.{IsWord, IsNewline, IsIndent, IsDedent}
use Rattle.uvl_grammar.specs.Shapes.{Spelling, OneOrMore, Body}
use Rattle.uvl_grammar.specs.Refs.{SpellsRef}
use Rattle.uvl_grammar.specs.declared.entry.Entry.{Entry}
use Rattle.uvl_grammar.specs.Braces.{attributes_of, rules_of, SpellsBraces}
use Rattle.uvl_grammar.specs.Groups.{GroupFront, SpellsKind}

-- the word Boolean, or nothing
pub data SpellsBoolean : List Token → Type 0 where
  Not_said : SpellsBoolean []
  Said : (t : Token) → IsWord word.Boolean t → SpellsBoolean (t ∷ [])

-- a group, whose members are Member
pub data SpellsGroup (Member : Spelling Feature) : List Token → Group → Type 0 where
  Members : {xs ys : List Token} (newline indent dedent : Token) {front : GroupFront} {members : List Feature}
      → SpellsKind xs front → IsNewline newline → IsIndent indent → OneOrMore Member ys members → IsDedent dedent
      → SpellsGroup Member (xs ++ newline ∷ indent ∷ ys ++ dedent ∷ [])
      (roll-Group (record { kind = front.0; members = members; place = front.1 }))

-- a feature, whose groups have the members Member
pub data SpellsFeature (Member : Spelling Feature) : List Token → Feature → Type 0 where
  Line : {bs xs ys zs : List Token} (newline : Token) {r : Ref} {entries : List Entry} {groups : List Group}
      → SpellsBoolean bs → SpellsRef xs r → SpellsBraces ys entries → IsNewline newline
      → Body (SpellsGroup Member) zs groups
      → SpellsFeature Member (bs ++ xs ++ ys ++ newline ∷ zs)
      (roll-Feature
      (record { name = r; attributes = attributes_of entries; rules = rules_of entries; groups = groups }))

-- a feature that nests less than so deep, itself counted
abbrev pub FeatureWithin : ℕ → Spelling Feature
FeatureWithin zero xs f = ⊥
FeatureWithin (suc depth) xs f = SpellsFeature (FeatureWithin depth) xs f

-- a feature, however deep the tree below it
abbrev pub SpellsTree : Spelling Feature
SpellsTree xs f = (depth : ℕ) × FeatureWithin depth xs f
