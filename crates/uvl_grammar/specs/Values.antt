-- Attributes and their values.
--   plain = name value?
--   value = "true" | "false" | "-"? number | text
--         | "{" (plain ("," plain)*)? "}" | "[" (value ("," value)*)? "]"
use Rattle.std.specs.Prelude.{◌≡◌, ℕ, zero, suc, List, [], ◌∷◌, ◌++◌, ℤ, neg_ℤ, Some}
use Rattle.uvl_lexer.specs.declared.token.Token.{Token}
use Rattle.uvl_base.specs.declared.word.Word.TheVariants as word
use Rattle.uvl_lexer.specs.declared.token.Symbol.TheVariants as symbol
use Rattle.uvl_ast.specs.declared.feature.Attribute.{Attribute, roll-Attribute}
use Rattle.uvl_ast.specs.declared.feature.AttrValue.{AttrValue}
use Rattle.uvl_ast.specs.declared.feature.AttrValue.TheVariants as value
use Rattle.uvl_grammar.specs.Tokens.{IsWord, IsSymbol, name_of, number_of, text_of}
use Rattle.uvl_grammar.specs.Shapes.{Spelling, Separated}

-- an attribute, which stands where its key stands; without a value it is true
pub data SpellsAttribute (Value : Spelling AttrValue) : List Token → Attribute → Type 0 where
  Bare : (t : Token) {name : List ℕ} → name_of t.kind ≡ Some name
      → SpellsAttribute Value (t ∷ []) (roll-Attribute (record { key = name; value = value.Yes; place = t.place }))
  Valued : (t : Token) {name : List ℕ} {xs : List Token} {v : AttrValue} → name_of t.kind ≡ Some name → Value xs v
      → SpellsAttribute Value (t ∷ xs) (roll-Attribute (record { key = name; value = v; place = t.place }))

-- a value, where Value is what the values in its braces and brackets are
pub data SpellsValue (Value : Spelling AttrValue) : List Token → AttrValue → Type 0 where
  Yes : (t : Token) → IsWord word.True t → SpellsValue Value (t ∷ []) value.Yes
  No : (t : Token) → IsWord word.False t → SpellsValue Value (t ∷ []) value.No
  Number : (t : Token) {number : ℤ} → number_of t.kind ≡ Some number
      → SpellsValue Value (t ∷ []) (value.Number number)
  Negative : (minus t : Token) {number : ℤ} → IsSymbol symbol.Minus minus → number_of t.kind ≡ Some number
      → SpellsValue Value (minus ∷ t ∷ []) (value.Number (neg_ℤ number))
  Words : (t : Token) {text : List ℕ} → text_of t.kind ≡ Some text → SpellsValue Value (t ∷ []) (value.Words text)
  Attributes : (left right : Token) {xs : List Token} {attributes : List Attribute} → IsSymbol symbol.LeftBrace left
      → Separated (SpellsAttribute Value) xs attributes → IsSymbol symbol.RightBrace right
      → SpellsValue Value (left ∷ xs ++ right ∷ []) (value.List attributes)
  Vector : (left right : Token) {xs : List Token} {vs : List AttrValue} → IsSymbol symbol.LeftBracket left
      → Separated Value xs vs → IsSymbol symbol.RightBracket right
      → SpellsValue Value (left ∷ xs ++ right ∷ []) (value.Vector vs)

-- a value in which braces and brackets nest less than so deep
abbrev pub ValueWithin : ℕ → Spelling AttrValue
ValueWithin zero xs v = ⊥
ValueWithin (suc depth) xs v = SpellsValue (ValueWithin depth) xs v

-- an attribute, however deep its value nests
abbrev pub SpellsPlain : Spelling Attribute
SpellsPlain xs a = (depth : ℕ) × SpellsAttribute (ValueWithin depth) xs a
