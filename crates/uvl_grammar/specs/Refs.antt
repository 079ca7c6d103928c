-- References.
--   ref = name ("." name)*
use Rattle.std.specs.Prelude.{◌≡◌, ℕ, List, [], ◌∷◌, Some}
use Rattle.uvl_lexer.specs.declared.token.Token.{Token}
use Rattle.uvl_lexer.specs.declared.token.Symbol.TheVariants as symbol
use Rattle.uvl_ast.specs.declared.names.Ref.{Ref}
use Rattle.uvl_grammar.specs.Tokens.{IsSymbol, name_of}
use Rattle.uvl_grammar.specs.Shapes.{Repeated}

-- a name behind a dot
pub data SpellsDotName : List Token → List ℕ → Type 0 where
  Dot_name : (dot t : Token) {name : List ℕ} → IsSymbol symbol.Dot dot → name_of t.kind ≡ Some name
      → SpellsDotName (dot ∷ t ∷ []) name

-- a reference stands where its first name stands
pub data SpellsRef : List Token → Ref → Type 0 where
  Reference : (t : Token) {name : List ℕ} {xs : List Token} {names : List (List ℕ)} → name_of t.kind ≡ Some name
      → Repeated SpellsDotName xs names
      → SpellsRef (t ∷ xs) (record { parts = name ∷ names; place = t.place })
