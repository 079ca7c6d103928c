-- The words and ranges that begin a group.
--   kind = "mandatory" | "optional" | "alternative" | "or"
--        | "[" whole "]" | "[" whole ".." (whole | "*") "]"
use Rattle.std.specs.Prelude.{◌≡◌, ℕ, List, [], ◌∷◌, Some, None}
use Rattle.uvl_base.specs.declared.place.Place.{Place}
use Rattle.uvl_lexer.specs.declared.token.Token.{Token}
use Rattle.uvl_base.specs.declared.word.Word.TheVariants as word
use Rattle.uvl_lexer.specs.declared.token.Symbol.TheVariants as symbol
use Rattle.uvl_ast.specs.declared.feature.GroupKind.{GroupKind}
use Rattle.uvl_ast.specs.declared.feature.GroupKind.TheVariants as group
use Rattle.uvl_grammar.specs.Tokens.{IsWord, IsSymbol, whole_of}

-- the front of a group, with the place of its first token, where the group stands
abbrev pub GroupFront : Type 0
GroupFront = GroupKind × Place

-- a number without a point
abbrev pub IsWhole : ℕ → Token → Type 0
IsWhole n t = whole_of t.kind ≡ Some n

-- `[n]` is the range from n to n, and `[n..*]` has no upper bound
pub data SpellsKind : List Token → GroupFront → Type 0 where
  Mandatory : (t : Token) → IsWord word.Mandatory t → SpellsKind (t ∷ []) (group.Mandatory, t.place)
  Optional : (t : Token) → IsWord word.Optional t → SpellsKind (t ∷ []) (group.Optional, t.place)
  Alternative : (t : Token) → IsWord word.Alternative t → SpellsKind (t ∷ []) (group.Alternative, t.place)
  Or : (t : Token) → IsWord word.Or t → SpellsKind (t ∷ []) (group.Or, t.place)
  Exactly : (left t right : Token) {n : ℕ} → IsSymbol symbol.LeftBracket left → IsWhole n t
      → IsSymbol symbol.RightBracket right
      → SpellsKind (left ∷ t ∷ right ∷ []) (group.Range n (Some n), left.place)
  Between : (left low dots high right : Token) {lo hi : ℕ} → IsSymbol symbol.LeftBracket left → IsWhole lo low
      → IsSymbol symbol.Dots dots → IsWhole hi high → IsSymbol symbol.RightBracket right
      → SpellsKind (left ∷ low ∷ dots ∷ high ∷ right ∷ []) (group.Range lo (Some hi), left.place)
  From : (left low dots star right : Token) {lo : ℕ} → IsSymbol symbol.LeftBracket left → IsWhole lo low
      → IsSymbol symbol.Dots dots → IsSymbol symbol.Star star → IsSymbol symbol.RightBracket right
      → SpellsKind (left ∷ low ∷ dots ∷ star ∷ right ∷ []) (group.Range lo None, left.place)
