-- What stands in a line has no mark between lines in it; and references, values and the fronts of groups have no
-- word that stands in front of rules either.
use Rattle.std.specs.Prelude.{◌≡◌, ℕ, zero, suc, Bool, true, false, ◌||◌, List, [], ◌∷◌, ◌++◌, Some, ℤ}
use Rattle.std.proofs.Common.{refl, ap, ◌∙◌}
use Rattle.uvl_lexer.specs.declared.token.Token.{Token}
use Rattle.uvl_lexer.specs.declared.token.TokenKind.{TokenKind}
use Rattle.uvl_lexer.specs.declared.token.TokenKind.TheVariants as token
use Rattle.uvl_base.specs.declared.word.Word.{Word}
use Rattle.uvl_base.specs.declared.word.Word.TheVariants as word
use Rattle.uvl_lexer.specs.declared.token.Symbol.{Symbol}
use Rattle.uvl_ast.specs.declared.expression.Expr.{Expr}
use Rattle.uvl_ast.specs.declared.feature.AttrValue.{AttrValue}
use Rattle.uvl_grammar.specs.steps.Tests.{Test, is_word}
use Rattle.uvl_grammar.specs.Tokens.{IsWord, IsSymbol, name_of, number_of, whole_of, text_of}
use Rattle.uvl_grammar.specs.Shapes.{Spelling, Repeated, None_more, One_more, OneOrMore, First, BehindComma, Comma, Separated, Nothing, Parts}
use Rattle.uvl_grammar.specs.Refs as refs
use Rattle.uvl_grammar.specs.Refs.{SpellsDotName, SpellsRef}
use Rattle.uvl_grammar.specs.Expressions as exprs
use Rattle.uvl_grammar.specs.Expressions.{Operators, Grouped, SpellsPrimary, SpellsComparison, SpellsOperand, OperandWithin, SpellsExpr, iff_operator, implies_operator, or_operator, and_operator, sum_operator, product_operator}
use Rattle.uvl_grammar.specs.Values as values
use Rattle.uvl_grammar.specs.Values.{SpellsAttribute, SpellsValue, ValueWithin, SpellsPlain}
use Rattle.uvl_grammar.specs.Braces as braces
use Rattle.uvl_grammar.specs.Braces.{SpellsEntry, SpellsBraces}
use Rattle.uvl_grammar.specs.Groups as groups
use Rattle.uvl_grammar.specs.Groups.{SpellsKind}
use Rattle.uvl_grammar.specs.Features as features
use Rattle.uvl_grammar.specs.Features.{SpellsBoolean}
use Rattle.uvl_grammar.specs.Sections as sections
use Rattle.uvl_grammar.specs.Sections.{SpellsLevelPart, SpellsAlias, level_part}
use Rattle.uvl_profile.specs.Lines.{is_layout}
use Rattle.uvl_profile.specs.Rules.{is_operator}
use Rattle.uvl_faults.proofs.Walking.{NonePasses, none_append, InLine}
use Rattle.uvl_faults.proofs.Nodes.Kinds.{AreOperators, iff_operators, implies_operators, or_operators, and_operators, comparison_operators, sum_operators, product_operators}

-- ---- tokens

-- the words in front of a rule and of a list of rules in braces
abbrev pub is_rule_word : Test
is_rule_word kind = is_word word.Constraint kind || is_word word.Constraints kind

-- A test that no name, number, text or symbol passes, and no word but those.
pub record IsRare (test : Test) : Type 0 where
  pub name : (name : List ℕ) (quoted : Bool) → test (token.Name name quoted) ≡ false
  pub number : (value : ℤ) (whole : Bool) → test (token.Number value whole) ≡ false
  pub text : (text : List ℕ) → test (token.Text text) ≡ false
  pub symbol : (s : Symbol) → test (token.Symbol s) ≡ false
  pub word : (w : Word) → is_rule_word (token.Word w) ≡ false → test (token.Word w) ≡ false

-- no token that a part is spelled by passes a test
abbrev Lacks : {A : Type 0} → Test → Spelling A → Type 0
Lacks {A} test R = (xs : List Token) (v : A) → R xs v → NonePasses test xs

module _ (test : Test) (rare : IsRare test) where
  a_symbol : (s : Symbol) (t : Token) → IsSymbol s t → test t.kind ≡ false
  a_symbol s t is = ap test is ∙ rare.symbol s

  a_word : (w : Word) (t : Token) → IsWord w t → is_rule_word (token.Word w) ≡ false → test t.kind ≡ false
  a_word w t is other = ap test is ∙ rare.word w other

  a_name : (kind : TokenKind) (v : List ℕ) → name_of kind ≡ Some v → test kind ≡ false
  a_name (token.Name name quoted) v is = rare.name name quoted
  a_name _ v is = cc

  a_number : (kind : TokenKind) (v : ℤ) → number_of kind ≡ Some v → test kind ≡ false
  a_number (token.Number value whole) v is = rare.number value whole
  a_number _ v is = cc

  a_whole : (kind : TokenKind) (v : ℕ) → whole_of kind ≡ Some v → test kind ≡ false
  a_whole (token.Number value whole) v is = rare.number value whole
  a_whole _ v is = cc

  a_text : (kind : TokenKind) (v : List ℕ) → text_of kind ≡ Some v → test kind ≡ false
  a_text (token.Text text) v is = rare.text text
  a_text _ v is = cc

  an_operator : (kind : TokenKind) → is_operator kind ≡ true → test kind ≡ false
  an_operator (token.Symbol s) is = rare.symbol s
  an_operator _ is = cc

  -- ---- shapes

  repeated : {A : Type 0} (R : Spelling A) → Lacks test R → Lacks test (Repeated R)
  repeated R h xs v None_more = tt
  repeated R h xs v (One_more {xs = us} {ys = vs} {a} {items} r rs) =
      none_append test us vs (h us a r) (repeated R h vs items rs)

  one_or_more : {A : Type 0} (R : Spelling A) → Lacks test R → Lacks test (OneOrMore R)
  one_or_more R h xs v (First {xs = us} {ys = vs} {a} {items} r rs) =
      none_append test us vs (h us a r) (repeated R h vs items rs)

  behind_comma : {A : Type 0} (R : Spelling A) → Lacks test R → Lacks test (BehindComma R)
  behind_comma R h xs v (Comma comma {xs = us} is r) = (a_symbol _ comma is, h us v r)

  separated : {A : Type 0} (R : Spelling A) → Lacks test R → Lacks test (Separated R)
  separated R h xs v Nothing = tt
  separated R h xs v (Parts {xs = us} {ys = vs} {a} {items} r rs) =
      none_append test us vs (h us a r) (repeated (BehindComma R) (behind_comma R h) vs items rs)

  -- in brackets
  bracketed : {A : Type 0} (R : Spelling A) → Lacks test R → (l r : Symbol) (left right : Token) (xs : List Token) (v : A)
      → IsSymbol l left → R xs v → IsSymbol r right → NonePasses test (left ∷ xs ++ right ∷ [])
  bracketed R h l r left right xs v opens spelled closes =
      (a_symbol l left opens, none_append test xs (right ∷ []) (h xs v spelled) (a_symbol r right closes, tt))

  -- ---- references and expressions

  dot_name : Lacks test SpellsDotName
  dot_name xs v (refs.Dot_name dot t is named) = (a_symbol _ dot is, (a_name t.kind _ named, tt))

  pub ref_lacks : Lacks test SpellsRef
  ref_lacks xs v (refs.Reference t {xs = us} {names} is rs) =
      (a_name t.kind _ is, repeated SpellsDotName dot_name us names rs)

  primary : (Inner : Spelling Expr) → Lacks test Inner → Lacks test (SpellsPrimary Inner)
  primary Inner h xs v (exprs.Parentheses left right {xs = us} opens r closes) =
      bracketed Inner h _ _ left right us v opens r closes
  primary Inner h xs v (exprs.Literal t is) = (a_number t.kind _ is, tt)
  primary Inner h xs v (exprs.Negative minus t is number) = (a_symbol _ minus is, (a_number t.kind _ number, tt))
  primary Inner h xs v (exprs.Sum t left key right is opens named closes) =
      (a_word _ t is refl, (a_symbol _ left opens, (a_name key.kind _ named, (a_symbol _ right closes, tt))))
  primary Inner h xs v (exprs.Reference {r} s) = ref_lacks xs r s

  grouped : (operators : Operators) → AreOperators operators → (Part : Spelling Expr) → Lacks test Part
      → Lacks test (Grouped operators Part)
  grouped operators are Part h xs v (exprs.Alone r) = h xs v r
  grouped operators are Part h xs v (exprs.Joined {xs = us} {ys = vs} t {left} {right} g is r) =
      none_append test us (t ∷ vs) (grouped operators are Part h us left g)
      (an_operator t.kind (are t.kind _ is), h vs right r)

  connected : (Part : Spelling Expr) → Lacks test Part → Lacks test (exprs.Connected Part)
  connected Part h =
      grouped iff_operator iff_operators _ (grouped implies_operator implies_operators _
      (grouped or_operator or_operators _ (grouped and_operator and_operators Part h)))

  sum : (Inner : Spelling Expr) → Lacks test Inner → Lacks test (exprs.SpellsSum Inner)
  sum Inner h = grouped sum_operator sum_operators _ (grouped product_operator product_operators _ (primary Inner h))

  comparison : (Inner : Spelling Expr) → Lacks test Inner → Lacks test (SpellsComparison Inner)
  comparison Inner h xs v (exprs.Compared {xs = us} {ys = vs} t {left} {right} l is r) =
      none_append test us (t ∷ vs) (sum Inner h us left l)
      (an_operator t.kind (comparison_operators t.kind _ is), sum Inner h vs right r)
  comparison Inner h xs v (exprs.Not_compared s) = sum Inner h xs v s

  operand : (Deeper : Spelling Expr) → Lacks test Deeper → Lacks test (SpellsOperand Deeper)
  operand Deeper h xs v (exprs.Opposite bang {xs = us} {e} is r) = (a_symbol _ bang is, h us e r)
  operand Deeper h xs v (exprs.Comparison r) = comparison (exprs.Connected Deeper) (connected Deeper h) xs v r

  operand_within : (depth : ℕ) → Lacks test (OperandWithin depth)
  operand_within zero xs v r = absurd r
  operand_within (suc depth) xs v r = operand (OperandWithin depth) (operand_within depth) xs v r

  expr_lacks : Lacks test SpellsExpr
  expr_lacks xs v r = connected (OperandWithin r.0) (operand_within r.0) xs v r.1

  -- ---- attributes and values

  attribute : (Value : Spelling AttrValue) → Lacks test Value → Lacks test (SpellsAttribute Value)
  attribute Value h xs v (values.Bare t is) = (a_name t.kind _ is, tt)
  attribute Value h xs v (values.Valued t {xs = us} {v = value} is r) = (a_name t.kind _ is, h us value r)

  value : (Value : Spelling AttrValue) → Lacks test Value → Lacks test (SpellsValue Value)
  value Value h xs v (values.Yes t is) = (a_word _ t is refl, tt)
  value Value h xs v (values.No t is) = (a_word _ t is refl, tt)
  value Value h xs v (values.Number t is) = (a_number t.kind _ is, tt)
  value Value h xs v (values.Negative minus t is number) = (a_symbol _ minus is, (a_number t.kind _ number, tt))
  value Value h xs v (values.Words t is) = (a_text t.kind _ is, tt)
  value Value h xs v (values.Attributes left right {xs = us} {attributes} opens r closes) =
      let inner = separated (SpellsAttribute Value) (attribute Value h) in
      bracketed (Separated (SpellsAttribute Value)) inner _ _ left right us attributes opens r closes
  value Value h xs v (values.Vector left right {xs = us} {vs} opens r closes) =
      bracketed (Separated Value) (separated Value h) _ _ left right us vs opens r closes

  value_within : (depth : ℕ) → Lacks test (ValueWithin depth)
  value_within zero xs v r = absurd r
  value_within (suc depth) xs v r = value (ValueWithin depth) (value_within depth) xs v r

  pub plain_lacks : Lacks test SpellsPlain
  plain_lacks xs v r = attribute (ValueWithin r.0) (value_within r.0) xs v r.1

  -- ---- groups and features

  pub kind_lacks : Lacks test SpellsKind
  kind_lacks xs v (groups.Mandatory t is) = (a_word _ t is refl, tt)
  kind_lacks xs v (groups.Optional t is) = (a_word _ t is refl, tt)
  kind_lacks xs v (groups.Alternative t is) = (a_word _ t is refl, tt)
  kind_lacks xs v (groups.Or t is) = (a_word _ t is refl, tt)
  kind_lacks xs v (groups.Exactly left t right opens is closes) =
      (a_symbol _ left opens, (a_whole t.kind _ is, (a_symbol _ right closes, tt)))
  kind_lacks xs v (groups.Between left low dots high right opens lo is hi closes) = (
    a_symbol _ left opens,
    (a_whole low.kind _ lo, (a_symbol _ dots is, (a_whole high.kind _ hi, (a_symbol _ right closes, tt)))),
  )
  kind_lacks xs v (groups.From left low dots star right opens lo is any closes) = (
    a_symbol _ left opens,
    (a_whole low.kind _ lo, (a_symbol _ dots is, (a_symbol _ star any, (a_symbol _ right closes, tt)))),
  )

  pub boolean_lacks : (xs : List Token) → SpellsBoolean xs → NonePasses test xs
  boolean_lacks xs features.Not_said = tt
  boolean_lacks xs (features.Said t is) = (a_word _ t is refl, tt)

-- ---- marks between lines

line_marks : IsRare is_layout
line_marks = record {
  name = λ name quoted. refl;
  number = λ value whole. refl;
  text = λ text. refl;
  symbol = λ s. refl;
  word = λ w other. refl;
}

-- what a part is spelled by stands in a line
abbrev pub StandsInLine : {A : Type 0} → Spelling A → Type 0
StandsInLine R = Lacks is_layout R

pub ref_inline : StandsInLine SpellsRef
ref_inline = ref_lacks is_layout line_marks

pub expr_inline : StandsInLine SpellsExpr
expr_inline = expr_lacks is_layout line_marks

pub kind_inline : StandsInLine SpellsKind
kind_inline = kind_lacks is_layout line_marks

pub boolean_inline : (xs : List Token) → SpellsBoolean xs → InLine xs
boolean_inline = boolean_lacks is_layout line_marks

pub entry_inline : StandsInLine SpellsEntry
entry_inline xs v (braces.Attribute_entry {a} r) = plain_lacks is_layout line_marks xs a r
entry_inline xs v (braces.Constraint t {xs = us} {e} is r) = (ap is_layout is, expr_inline us e r)
entry_inline xs v (braces.Constraints t left right {xs = us} {es} is opens r closes) =
    let rules = separated is_layout line_marks SpellsExpr expr_inline in
    (ap is_layout is, bracketed is_layout line_marks (Separated SpellsExpr) rules _ _ left right us es opens r closes)

pub braces_inline : StandsInLine SpellsBraces
braces_inline xs v braces.No_braces = tt
braces_inline xs v (braces.Entries left right {xs = us} opens r closes) =
    let entries = separated is_layout line_marks SpellsEntry entry_inline in
    bracketed is_layout line_marks (Separated SpellsEntry) entries _ _ left right us v opens r closes

a_level_part : (kind : TokenKind) (v : List ℕ) → level_part kind ≡ Some v → is_layout kind ≡ false
a_level_part token.Indent v is = cc
a_level_part token.Dedent v is = cc
a_level_part token.Newline v is = cc
a_level_part _ v is = refl

level_part_inline : StandsInLine SpellsLevelPart
level_part_inline xs v (sections.Part t is) = (a_level_part t.kind _ is, tt)

pub level_inline : StandsInLine (OneOrMore SpellsLevelPart)
level_inline = one_or_more is_layout line_marks SpellsLevelPart level_part_inline

pub alias_inline : StandsInLine SpellsAlias
alias_inline xs v sections.No_alias = tt
alias_inline xs v (sections.As t {xs = us} {r} is named) = (ap is_layout is, ref_inline us r named)
