-- What stands in braces behind a feature.
--   braces = "{" (entry ("," entry)*)? "}"
--   entry  = plain | "constraint" expr | "constraints" "[" (expr ("," expr)*)? "]"
use Rattle.std.specs.Prelude.{List, [], ◌∷◌, ◌++◌}
use Rattle.uvl_lexer.specs.declared.token.Token.{Token}
use Rattle.uvl_base.specs.declared.word.Word.TheVariants as word
use Rattle.uvl_lexer.specs.declared.token.Symbol.TheVariants as symbol
use Rattle.uvl_ast.specs.declared.expression.Expr.{Expr}
use Rattle.uvl_ast.specs.declared.feature.Attribute.{Attribute}
use Rattle.uvl_grammar.specs.declared.entry.Entry.{Entry}
use Rattle.uvl_grammar.specs.declared.entry.Entry.TheVariants.{Plain, Rule, Rules}
use Rattle.uvl_grammar.specs.Tokens.{IsWord, IsSymbol}
use Rattle.uvl_grammar.specs.Shapes.{Separated}
use Rattle.uvl_grammar.specs.Expressions.{SpellsExpr}
use Rattle.uvl_grammar.specs.Values.{SpellsPlain}

-- the attributes of some entries, in their order
abbrev pub attributes_of : List Entry → List Attribute
attributes_of [] = []
attributes_of (Plain a ∷ entries) = a ∷ attributes_of entries
attributes_of (Rule e ∷ entries) = attributes_of entries
attributes_of (Rules es ∷ entries) = attributes_of entries

-- their rules, in their order
abbrev pub rules_of : List Entry → List Expr
rules_of [] = []
rules_of (Plain a ∷ entries) = rules_of entries
rules_of (Rule e ∷ entries) = e ∷ rules_of entries
rules_of (Rules es ∷ entries) = es ++ rules_of entries

-- an entry: an attribute, a rule, or rules in brackets
pub data SpellsEntry : List Token → Entry → Type 0 where
  Attribute_entry : {xs : List Token} {a : Attribute} → SpellsPlain xs a → SpellsEntry xs (Plain a)
  Constraint : (t : Token) {xs : List Token} {e : Expr} → IsWord word.Constraint t → SpellsExpr xs e
      → SpellsEntry (t ∷ xs) (Rule e)
  Constraints : (t left right : Token) {xs : List Token} {es : List Expr} → IsWord word.Constraints t
      → IsSymbol symbol.LeftBracket left → Separated SpellsExpr xs es → IsSymbol symbol.RightBracket right
      → SpellsEntry (t ∷ left ∷ xs ++ right ∷ []) (Rules es)

-- braces, or nothing
pub data SpellsBraces : List Token → List Entry → Type 0 where
  No_braces : SpellsBraces [] []
  Entries : (left right : Token) {xs : List Token} {entries : List Entry} → IsSymbol symbol.LeftBrace left
      → Separated SpellsEntry xs entries → IsSymbol symbol.RightBrace right
      → SpellsBraces (left ∷ xs ++ right ∷ []) entries
