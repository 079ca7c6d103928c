-- Expressions, by the precedence of operators, from those that bind least to those that bind most. All of them group to the left.
--   expr = imp ("<=>" imp)*
--   imp  = or ("=>" or)*
--   or   = and ("|" and)*
--   and  = not ("&" not)*
--   not  = "!" not | cmp
--   cmp  = add (("==" | "!=" | "<" | "<=" | ">" | ">=") add)?
--   add  = mul (("+" | "-") mul)*
--   mul  = prim ("*" prim)*
--   prim = "(" expr ")" | "-"? number | "sum" "(" name ")" | ref
use Rattle.std.specs.Prelude.{◌≡◌, ℕ, zero, suc, List, [], ◌∷◌, ◌++◌, ℤ, neg_ℤ, Option, Some, None}
use Rattle.uvl_lexer.specs.declared.token.Token.{Token}
use Rattle.uvl_lexer.specs.declared.token.TokenKind.{TokenKind}
use Rattle.uvl_lexer.specs.declared.token.TokenKind.TheVariants as token
use Rattle.uvl_base.specs.declared.word.Word.TheVariants as word
use Rattle.uvl_lexer.specs.declared.token.Symbol.TheVariants as symbol
use Rattle.uvl_ast.specs.declared.names.Ref.{Ref}
use Rattle.uvl_ast.specs.declared.expression.Expr.{Expr}
use Rattle.uvl_ast.specs.declared.expression.Expr.TheVariants as expr
use Rattle.uvl_ast.specs.declared.expression.BinOp.{BinOp}
use Rattle.uvl_ast.specs.declared.expression.BinOp.TheVariants as op
use Rattle.uvl_grammar.specs.Tokens.{IsWord, IsSymbol, name_of, number_of}
use Rattle.uvl_grammar.specs.Shapes.{Spelling}
use Rattle.uvl_grammar.specs.Refs.{SpellsRef}

-- ---- the operators of each precedence

-- the operators of one precedence
abbrev pub Operators : Type 0
Operators = TokenKind → Option BinOp

abbrev pub iff_operator : Operators
iff_operator (token.Symbol symbol.Iff) = Some op.Iff
iff_operator _ = None

abbrev pub implies_operator : Operators
implies_operator (token.Symbol symbol.Implies) = Some op.Implies
implies_operator _ = None

abbrev pub or_operator : Operators
or_operator (token.Symbol symbol.Bar) = Some op.Or
or_operator _ = None

abbrev pub and_operator : Operators
and_operator (token.Symbol symbol.Amp) = Some op.And
and_operator _ = None

abbrev pub comparison_operator : Operators
comparison_operator (token.Symbol symbol.Equal) = Some op.Equal
comparison_operator (token.Symbol symbol.Differs) = Some op.Differs
comparison_operator (token.Symbol symbol.Less) = Some op.Less
comparison_operator (token.Symbol symbol.AtMost) = Some op.AtMost
comparison_operator (token.Symbol symbol.Greater) = Some op.Greater
comparison_operator (token.Symbol symbol.AtLeast) = Some op.AtLeast
comparison_operator _ = None

abbrev pub sum_operator : Operators
sum_operator (token.Symbol symbol.Plus) = Some op.Plus
sum_operator (token.Symbol symbol.Minus) = Some op.Minus
sum_operator _ = None

abbrev pub product_operator : Operators
product_operator (token.Symbol symbol.Star) = Some op.Times
product_operator _ = None

-- ---- what is spelled

-- operands with the operators of one precedence between them: they group to the left, and each operator's
-- node stands where its symbol stands
pub data Grouped (operator : Operators) (Operand : Spelling Expr) : List Token → Expr → Type 0 where
  Alone : {xs : List Token} {e : Expr} → Operand xs e → Grouped operator Operand xs e
  Joined : {xs ys : List Token} (t : Token) {o : BinOp} {left right : Expr} → Grouped operator Operand xs left
      → operator t.kind ≡ Some o → Operand ys right
      → Grouped operator Operand (xs ++ t ∷ ys) (expr.Binary o left right t.place)

-- The operators of the four precedences that join truths, from the least binding one.
abbrev pub Connected : Spelling Expr → Spelling Expr
Connected Operand =
    Grouped iff_operator (Grouped implies_operator (Grouped or_operator (Grouped and_operator Operand)))

-- An operand of numbers, where Inner is what stands in parentheses. They make no node. A minus in
-- front of a number makes it negative, and the node stands where the minus stands.
pub data SpellsPrimary (Inner : Spelling Expr) : List Token → Expr → Type 0 where
  Parentheses : (left right : Token) {xs : List Token} {e : Expr} → IsSymbol symbol.LeftParen left → Inner xs e
      → IsSymbol symbol.RightParen right → SpellsPrimary Inner (left ∷ xs ++ right ∷ []) e
  Literal : (t : Token) {value : ℤ} → number_of t.kind ≡ Some value
      → SpellsPrimary Inner (t ∷ []) (expr.Number value t.place)
  Negative : (minus t : Token) {value : ℤ} → IsSymbol symbol.Minus minus → number_of t.kind ≡ Some value
      → SpellsPrimary Inner (minus ∷ t ∷ []) (expr.Number (neg_ℤ value) minus.place)
  Sum : (t left key right : Token) {name : List ℕ} → IsWord word.Sum t → IsSymbol symbol.LeftParen left
      → name_of key.kind ≡ Some name → IsSymbol symbol.RightParen right
      → SpellsPrimary Inner (t ∷ left ∷ key ∷ right ∷ []) (expr.Sum name t.place)
  Reference : {xs : List Token} {r : Ref} → SpellsRef xs r → SpellsPrimary Inner xs (expr.Name r)

-- sums of products
abbrev pub SpellsSum : Spelling Expr → Spelling Expr
SpellsSum Inner = Grouped sum_operator (Grouped product_operator (SpellsPrimary Inner))

-- one comparison of two sums, or a sum alone
pub data SpellsComparison (Inner : Spelling Expr) : List Token → Expr → Type 0 where
  Compared : {xs ys : List Token} (t : Token) {o : BinOp} {left right : Expr} → SpellsSum Inner xs left
      → comparison_operator t.kind ≡ Some o → SpellsSum Inner ys right
      → SpellsComparison Inner (xs ++ t ∷ ys) (expr.Binary o left right t.place)
  Not_compared : {xs : List Token} {e : Expr} → SpellsSum Inner xs e → SpellsComparison Inner xs e

-- An operand of the connectives, where Deeper is what the operand of a `!` is, and what the operands
-- in its parentheses are. The node of a `!` stands where it stands.
pub data SpellsOperand (Deeper : Spelling Expr) : List Token → Expr → Type 0 where
  Opposite : (bang : Token) {xs : List Token} {e : Expr} → IsSymbol symbol.Bang bang → Deeper xs e
      → SpellsOperand Deeper (bang ∷ xs) (expr.Not e bang.place)
  Comparison : {xs : List Token} {e : Expr} → SpellsComparison (Connected Deeper) xs e → SpellsOperand Deeper xs e

-- an operand in which parentheses and `!` nest less than so deep
abbrev pub OperandWithin : ℕ → Spelling Expr
OperandWithin zero xs e = ⊥
OperandWithin (suc depth) xs e = SpellsOperand (OperandWithin depth) xs e

-- an expression whose operands are such
abbrev pub ExprWithin : ℕ → Spelling Expr
ExprWithin depth = Connected (OperandWithin depth)

-- an expression
abbrev pub SpellsExpr : Spelling Expr
SpellsExpr xs e = (depth : ℕ) × ExprWithin depth xs e
