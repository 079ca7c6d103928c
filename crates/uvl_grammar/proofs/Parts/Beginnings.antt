-- What expressions, attributes and entries begin with.
use Rattle.std.specs.Prelude.{◌≡◌, ℕ, zero, suc, true, false, not, List, ◌∷◌, Some, ℤ}
use Rattle.std.proofs.Common.{refl, ap}
use Rattle.uvl_lexer.specs.declared.token.Token.{Token}
use Rattle.uvl_lexer.specs.declared.token.TokenKind.{TokenKind}
use Rattle.uvl_lexer.specs.declared.token.TokenKind.TheVariants as token
use Rattle.uvl_base.specs.declared.word.Word.TheVariants as word
use Rattle.uvl_lexer.specs.declared.token.Symbol.TheVariants as symbol
use Rattle.uvl_ast.specs.declared.names.Ref.{Ref}
use Rattle.uvl_ast.specs.declared.expression.Expr.{Expr}
use Rattle.uvl_ast.specs.declared.feature.Attribute.{Attribute}
use Rattle.uvl_grammar.specs.Tokens.{number_of}
use Rattle.uvl_grammar.specs.steps.Tests.{Test, is_symbol}
use Rattle.uvl_grammar.specs.Shapes.{Spelling}
use Rattle.uvl_grammar.specs.Refs.{SpellsRef}
use Rattle.uvl_grammar.specs.Refs as refs
use Rattle.uvl_grammar.specs.Expressions.{Operators, Grouped, Alone, Joined, SpellsPrimary, Parentheses, Literal, Negative, Sum, Reference, SpellsSum, SpellsComparison, Compared, Not_compared, SpellsOperand, Opposite, Comparison, OperandWithin, SpellsExpr}
use Rattle.uvl_grammar.specs.Values.{SpellsAttribute, Bare, Valued, SpellsPlain, ValueWithin}
use Rattle.uvl_grammar.specs.declared.entry.Entry.{Entry}
use Rattle.uvl_grammar.specs.Braces.{SpellsEntry, Attribute_entry, Constraint, Constraints}
use Rattle.uvl_grammar.proofs.Completing.{Begins}
use Rattle.uvl_grammar.proofs.Firsts.{is_name, name_is, name_fails, begins_longer, begins_not}

-- whether an expression begins
abbrev pub begins_expression : Test
begins_expression (token.Symbol symbol.Bang) = true
begins_expression (token.Symbol symbol.LeftParen) = true
begins_expression (token.Symbol symbol.Minus) = true
begins_expression (token.Word word.Sum) = true
begins_expression (token.Number value whole) = true
begins_expression (token.Name name quoted) = true
begins_expression _ = false

abbrev pub Begin : Spelling Expr → Type 0
Begin R = (xs : List Token) (e : Expr) → R xs e → Begins begins_expression xs

grouped_begins : (operators : Operators) (R : Spelling Expr) → Begin R → (xs : List Token) (e : Expr) → Grouped operators R xs e → Begins begins_expression xs
grouped_begins operators R begin xs e (Alone r) = begin _ _ r
grouped_begins operators R begin xs e (Joined {xs = ys} {ys = zs} t g is r) =
    begins_longer begins_expression ys (t ∷ zs) (grouped_begins operators R begin ys _ g)

number_begins : (kind : TokenKind) (value : ℤ) → number_of kind ≡ Some value → begins_expression kind ≡ true
number_begins (token.Number n whole) value e = refl
number_begins (token.Word w) value e = cc
number_begins (token.Symbol s) value e = cc
number_begins (token.Name name quoted) value e = cc
number_begins (token.Text text) value e = cc
number_begins token.Indent value e = cc
number_begins token.Dedent value e = cc
number_begins token.Newline value e = cc
number_begins token.Finish value e = cc

name_begins : (kind : TokenKind) → is_name kind ≡ true → begins_expression kind ≡ true
name_begins (token.Name name quoted) e = refl
name_begins (token.Number n whole) e = cc
name_begins (token.Word w) e = cc
name_begins (token.Symbol s) e = cc
name_begins (token.Text text) e = cc
name_begins token.Indent e = cc
name_begins token.Dedent e = cc
name_begins token.Newline e = cc
name_begins token.Finish e = cc

-- a reference begins with a name
pub reference_begins : {xs : List Token} {r : Ref} → SpellsRef xs r → Begins is_name xs
reference_begins (refs.Reference t named names) = name_is t.kind _ named

primary_begins : (Inner : Spelling Expr) → Begin (SpellsPrimary Inner)
primary_begins Inner xs e (Parentheses left right opens r closes) = ap begins_expression opens
primary_begins Inner xs e (Literal t number) = number_begins t.kind _ number
primary_begins Inner xs e (Negative minus t is number) = ap begins_expression is
primary_begins Inner xs e (Sum t left key right is opens named closes) = ap begins_expression is
primary_begins Inner xs e (Reference (refs.Reference t named names)) = name_begins t.kind (name_is t.kind _ named)

sum_begins : (Inner : Spelling Expr) → Begin (SpellsSum Inner)
sum_begins Inner = grouped_begins _ _ (grouped_begins _ _ (primary_begins Inner))

comparison_begins : (Inner : Spelling Expr) → Begin (SpellsComparison Inner)
comparison_begins Inner xs e (Compared {xs = ys} {ys = zs} t r is s) = begins_longer begins_expression ys (t ∷ zs) (sum_begins Inner _ _ r)
comparison_begins Inner xs e (Not_compared r) = sum_begins Inner _ _ r

operand_begins : (Deeper : Spelling Expr) → Begin (SpellsOperand Deeper)
operand_begins Deeper xs e (Opposite bang is r) = ap begins_expression is
operand_begins Deeper xs e (Comparison r) = comparison_begins _ _ _ r

within_begins : (d : ℕ) → Begin (OperandWithin d)
within_begins zero xs e r = absurd r
within_begins (suc d) xs e r = operand_begins (OperandWithin d) xs e r

-- an expression begins so
pub expression_begins : {xs : List Token} {e : Expr} → SpellsExpr xs e → Begins begins_expression xs
expression_begins {xs} {e} r = grouped_begins _ _ (grouped_begins _ _ (grouped_begins _ _ (grouped_begins _ _ (within_begins r.0)))) xs e r.1

no_bracket : (kind : TokenKind) → begins_expression kind ≡ true → is_symbol symbol.RightBracket kind ≡ false
no_bracket (token.Symbol symbol.Bang) e = refl
no_bracket (token.Symbol symbol.LeftParen) e = refl
no_bracket (token.Symbol symbol.Minus) e = refl
no_bracket (token.Symbol s) e = cc
no_bracket (token.Word w) e = refl
no_bracket (token.Number n whole) e = refl
no_bracket (token.Name name quoted) e = refl
no_bracket (token.Text text) e = refl
no_bracket token.Indent e = refl
no_bracket token.Dedent e = refl
no_bracket token.Newline e = refl
no_bracket token.Finish e = refl

-- and so with no closing bracket
pub expressions_avoid : (xs : List Token) (e : Expr) → SpellsExpr xs e → Begins (λ kind. not (is_symbol symbol.RightBracket kind)) xs
expressions_avoid xs e r = begins_not begins_expression (is_symbol symbol.RightBracket) no_bracket xs (expression_begins r)

-- an attribute begins with a name
pub plain_begins : {xs : List Token} {a : Attribute} → SpellsPlain xs a → Begins is_name xs
plain_begins {xs} {a} r = attribute_begins r.0 xs a r.1
  where
    attribute_begins : (d : ℕ) (xs : List Token) (a : Attribute) → SpellsAttribute (ValueWithin d) xs a → Begins is_name xs
    attribute_begins d xs a (Bare t named) = name_is t.kind _ named
    attribute_begins d xs a (Valued t named v) = name_is t.kind _ named

-- an entry begins with no closing brace
pub entries_avoid : (xs : List Token) (e : Entry) → SpellsEntry xs e → Begins (λ kind. not (is_symbol symbol.RightBrace kind)) xs
entries_avoid xs e (Attribute_entry r) =
    begins_not is_name (is_symbol symbol.RightBrace) (name_fails (is_symbol symbol.RightBrace) (λ name quoted. refl)) xs (plain_begins r)
entries_avoid xs e (Constraint t is r) = ap (λ kind. not (is_symbol symbol.RightBrace kind)) is
entries_avoid xs e (Constraints t left right is opens r closes) = ap (λ kind. not (is_symbol symbol.RightBrace kind)) is
