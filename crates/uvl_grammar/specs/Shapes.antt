-- The shapes that productions of the grammar are made of: none or more of a part, one or more, parts
-- with commas between them. Each is a relation of whole lists of tokens to whole lists of trees.
use Rattle.std.specs.Prelude.{List, [], ◌∷◌, ◌++◌}
use Rattle.uvl_lexer.specs.declared.token.Token.{Token}
use Rattle.uvl_lexer.specs.declared.token.Symbol.TheVariants as symbol
use Rattle.uvl_grammar.specs.Tokens.{IsSymbol, IsIndent, IsDedent}

-- what lists of tokens spell
abbrev pub Spelling : Type 0 → Type 1
Spelling A = List Token → A → Type 0

-- none or more, one behind the other
pub data Repeated {A : Type 0} (Part : Spelling A) : List Token → List A → Type 0 where
  None_more : Repeated Part [] []
  One_more : {xs ys : List Token} {a : A} {items : List A} → Part xs a → Repeated Part ys items
      → Repeated Part (xs ++ ys) (a ∷ items)

-- one or more, one behind the other
pub data OneOrMore {A : Type 0} (Part : Spelling A) : List Token → List A → Type 0 where
  First : {xs ys : List Token} {a : A} {items : List A} → Part xs a → Repeated Part ys items
      → OneOrMore Part (xs ++ ys) (a ∷ items)

-- a part behind a comma
pub data BehindComma {A : Type 0} (Part : Spelling A) : List Token → A → Type 0 where
  Comma : (comma : Token) {xs : List Token} {a : A} → IsSymbol symbol.Comma comma → Part xs a
      → BehindComma Part (comma ∷ xs) a

-- none or more, with commas between them
pub data Separated {A : Type 0} (Part : Spelling A) : List Token → List A → Type 0 where
  Nothing : Separated Part [] []
  Parts : {xs ys : List Token} {a : A} {items : List A} → Part xs a → Repeated (BehindComma Part) ys items
      → Separated Part (xs ++ ys) (a ∷ items)

-- one or more, indented, or nothing
pub data Body {A : Type 0} (Part : Spelling A) : List Token → List A → Type 0 where
  No_body : Body Part [] []
  Indented : (indent dedent : Token) {xs : List Token} {items : List A} → IsIndent indent → OneOrMore Part xs items
      → IsDedent dedent → Body Part (indent ∷ xs ++ dedent ∷ []) items
