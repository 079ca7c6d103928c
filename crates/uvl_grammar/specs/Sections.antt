-- The sections of a file.
--   namespace   = "namespace" ref Newline
--   include     = "include" Newline (Indent (level Newline)+ Dedent)?
--   level       = (name | word | "." | "-" | "*")+
--   imports     = "imports" Newline (Indent (ref ("as" ref)? Newline)+ Dedent)?
--   features    = "features" Newline Indent feature Dedent
--   constraints = "constraints" Newline (Indent (expr Newline)+ Dedent)?
use Rattle.std.specs.Prelude.{◌≡◌, ℕ, Bool, true, false, List, [], ◌∷◌, ◌++◌, Option, Some, None}
use Rattle.uvl_lexer.specs.declared.token.Token.{Token}
use Rattle.uvl_lexer.specs.declared.token.TokenKind.{TokenKind}
use Rattle.uvl_lexer.specs.declared.token.TokenKind.TheVariants as token
use Rattle.uvl_base.specs.declared.word.Word.{Word}
use Rattle.uvl_base.specs.declared.word.Word.TheVariants as word
use Rattle.uvl_lexer.specs.declared.token.Symbol.TheVariants as symbol
use Rattle.uvl_ast.specs.declared.names.Ref.{Ref}
use Rattle.uvl_ast.specs.declared.expression.Expr.{Expr}
use Rattle.uvl_ast.specs.declared.feature.Feature.{Feature}
use Rattle.uvl_ast.specs.declared.file.Import.{Import}
use Rattle.uvl_base.specs.ReservedWords.{characters_of_word}
use Rattle.uvl_grammar.specs.Tokens.{IsWord, IsNewline, IsIndent, IsDedent}
use Rattle.uvl_grammar.specs.Shapes.{Spelling, OneOrMore, Body}
use Rattle.uvl_grammar.specs.Refs.{SpellsRef}
use Rattle.uvl_grammar.specs.Expressions.{SpellsExpr}
use Rattle.uvl_grammar.specs.Features.{SpellsTree}

-- a section of lines: its word on a line of its own, and the lines indented below it; or nothing
pub data SpellsSection {A : Type 0} (w : Word) (Line : Spelling A) : List Token → List A → Type 0 where
  No_section : SpellsSection w Line [] []
  Lines : (t newline : Token) {xs : List Token} {items : List A} → IsWord w t → IsNewline newline → Body Line xs items
      → SpellsSection w Line (t ∷ newline ∷ xs) items

pub data SpellsNamespace : List Token → Option Ref → Type 0 where
  No_namespace : SpellsNamespace [] None
  Namespace : (t newline : Token) {xs : List Token} {r : Ref} → IsWord word.Namespace t → SpellsRef xs r
      → IsNewline newline → SpellsNamespace (t ∷ xs ++ newline ∷ []) (Some r)

-- the characters of a quoted name, with its quotes
abbrev pub written_name : List ℕ → Bool → List ℕ
written_name name true = 34 ∷ name ++ 34 ∷ []
written_name name false = name

-- how a token of a language level is spelled
abbrev pub level_part : TokenKind → Option (List ℕ)
level_part (token.Name name quoted) = Some (written_name name quoted)
level_part (token.Word w) = Some (characters_of_word w)
level_part (token.Symbol symbol.Dot) = Some (46 ∷ [])
level_part (token.Symbol symbol.Minus) = Some (45 ∷ [])
level_part (token.Symbol symbol.Star) = Some (42 ∷ [])
level_part _ = None

pub data SpellsLevelPart : List Token → List ℕ → Type 0 where
  Part : (t : Token) {characters : List ℕ} → level_part t.kind ≡ Some characters → SpellsLevelPart (t ∷ []) characters

-- texts, one behind the other
abbrev pub joined : List (List ℕ) → List ℕ
joined [] = []
joined (text ∷ texts) = text ++ joined texts

-- a language level, which is a line of `include`: the spelling of its tokens, without the spaces between them
pub data SpellsLevel : List Token → List ℕ → Type 0 where
  Level : {xs : List Token} (newline : Token) {parts : List (List ℕ)} → OneOrMore SpellsLevelPart xs parts
      → IsNewline newline → SpellsLevel (xs ++ newline ∷ []) (joined parts)

-- what an import is called here, where that is said
pub data SpellsAlias : List Token → Option Ref → Type 0 where
  No_alias : SpellsAlias [] None
  As : (t : Token) {xs : List Token} {r : Ref} → IsWord word.As t → SpellsRef xs r → SpellsAlias (t ∷ xs) (Some r)

-- a line of `imports`, which stands where its path stands
pub data SpellsImport : List Token → Import → Type 0 where
  Import_line : {xs ys : List Token} (newline : Token) {path : Ref} {alias : Option Ref} → SpellsRef xs path
      → SpellsAlias ys alias → IsNewline newline
      → SpellsImport (xs ++ ys ++ newline ∷ []) (record { path = path; alias = alias; place = path.place })

pub data SpellsFeatures : List Token → Option Feature → Type 0 where
  No_features : SpellsFeatures [] None
  Root : (t newline indent dedent : Token) {xs : List Token} {root : Feature} → IsWord word.Features t
      → IsNewline newline → IsIndent indent → SpellsTree xs root → IsDedent dedent
      → SpellsFeatures (t ∷ newline ∷ indent ∷ xs ++ dedent ∷ []) (Some root)

-- a line of `constraints`
pub data SpellsRule : List Token → Expr → Type 0 where
  Rule : {xs : List Token} (newline : Token) {e : Expr} → SpellsExpr xs e → IsNewline newline
      → SpellsRule (xs ++ newline ∷ []) e
