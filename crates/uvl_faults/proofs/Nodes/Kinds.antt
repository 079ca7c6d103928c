-- What the tokens of an expression are to the nodes of a rule.
use Rattle.std.specs.Prelude.{◌≡◌, ℕ, ℤ, true, false, not, ◌&&◌, ◌||◌, List, Some}
use Rattle.std.proofs.Common.{refl}
use Rattle.std.proofs.lemmas.Bool.{or_parts}
use Rattle.uvl_lexer.specs.declared.token.Token.{Token}
use Rattle.uvl_lexer.specs.declared.token.TokenKind.{TokenKind}
use Rattle.uvl_lexer.specs.declared.token.TokenKind.TheVariants as token
use Rattle.uvl_base.specs.declared.word.Word.TheVariants as word
use Rattle.uvl_lexer.specs.declared.token.Symbol.TheVariants as symbol
use Rattle.uvl_ast.specs.declared.expression.BinOp.{BinOp}
use Rattle.uvl_grammar.specs.steps.Tests.{Test, is_word, is_symbol, begins}
use Rattle.uvl_grammar.specs.Tokens.{name_of, number_of}
use Rattle.uvl_grammar.specs.Expressions.{Operators, iff_operator, implies_operator, or_operator, and_operator, comparison_operator, sum_operator, product_operator}
use Rattle.uvl_profile.specs.Lines.{is_layout}
use Rattle.uvl_profile.specs.Rules.{ends_number, behind_sign, behind_sum, is_operator, is_node, ends_rule}

-- what no expression has: what ends a rule, and what else a rule may begin behind
abbrev pub leaves_rule : Test
leaves_rule kind = ends_rule kind || is_word word.Constraint kind || is_symbol symbol.LeftBracket kind

-- a token that an expression may have
pub record StaysInRule (kind : TokenKind) : Type 0 where
  pub ends : ends_rule kind ≡ false
  pub mark : is_layout kind ≡ false
  pub comma : is_symbol symbol.Comma kind ≡ false
  pub closes : is_symbol symbol.RightBracket kind ≡ false
  pub constraint : is_word word.Constraint kind ≡ false
  pub opens : is_symbol symbol.LeftBracket kind ≡ false

pub stays_in_rule : (kind : TokenKind) → leaves_rule kind ≡ false → StaysInRule kind
stays_in_rule kind stays =
    let line = is_layout kind in
    let comma = is_symbol symbol.Comma kind in
    let closes = is_symbol symbol.RightBracket kind in
    let constraint = is_word word.Constraint kind in
    let opens = is_symbol symbol.LeftBracket kind in
    let bracket = or_parts (ends_rule kind || constraint) opens stays in
    let inner = or_parts (ends_rule kind) constraint bracket.0 in
    let brace = or_parts (line || comma || closes) (is_symbol symbol.RightBrace kind) inner.0 in
    let list = or_parts (line || comma) closes brace.0 in
    let separates = or_parts line comma list.0 in
    record {
      ends = inner.0;
      mark = separates.0;
      comma = separates.1;
      closes = list.1;
      constraint = inner.1;
      opens = bracket.1;
    }

-- ---- names and numbers

module _ (before : List Token) where
  pub name_node : (kind : TokenKind) (v : List ℕ) → name_of kind ≡ Some v
      → is_node before kind ≡ (not (begins (is_symbol symbol.Dot) before) && not (behind_sum before))
  name_node (token.Name name quoted) v e = refl
  name_node _ v e = cc

  pub number_node : (kind : TokenKind) (v : ℤ) → number_of kind ≡ Some v → is_node before kind ≡ not (behind_sign before)
  number_node (token.Number value whole) v e = refl
  number_node _ v e = cc

  pub operator_node : (kind : TokenKind) → is_operator kind ≡ true → is_node before kind ≡ true
  operator_node (token.Symbol s) e = e
  operator_node _ e = cc

pub name_ends : (kind : TokenKind) (v : List ℕ) → name_of kind ≡ Some v → ends_number kind ≡ true
name_ends (token.Name name quoted) v e = refl
name_ends _ v e = cc

pub number_ends : (kind : TokenKind) (v : ℤ) → number_of kind ≡ Some v → ends_number kind ≡ true
number_ends (token.Number value whole) v e = refl
number_ends _ v e = cc

pub name_stays : (kind : TokenKind) (v : List ℕ) → name_of kind ≡ Some v → leaves_rule kind ≡ false
name_stays (token.Name name quoted) v e = refl
name_stays _ v e = cc

pub number_stays : (kind : TokenKind) (v : ℤ) → number_of kind ≡ Some v → leaves_rule kind ≡ false
number_stays (token.Number value whole) v e = refl
number_stays _ v e = cc

-- ---- operators

pub operator_stays : (kind : TokenKind) → is_operator kind ≡ true → leaves_rule kind ≡ false
operator_stays (token.Symbol symbol.LeftBracket) e = cc
operator_stays (token.Symbol symbol.RightBracket) e = cc
operator_stays (token.Symbol symbol.RightBrace) e = cc
operator_stays (token.Symbol symbol.Comma) e = cc
operator_stays (token.Symbol s) e = refl
operator_stays _ e = cc

pub operator_no_paren : (kind : TokenKind) → is_operator kind ≡ true → is_symbol symbol.LeftParen kind ≡ false
operator_no_paren (token.Symbol symbol.LeftParen) e = cc
operator_no_paren _ e = refl

pub operator_no_dot : (kind : TokenKind) → is_operator kind ≡ true → is_symbol symbol.Dot kind ≡ false
operator_no_dot (token.Symbol symbol.Dot) e = cc
operator_no_dot _ e = refl

pub operator_no_sum : (kind : TokenKind) → is_operator kind ≡ true → is_word word.Sum kind ≡ false
operator_no_sum (token.Word w) e = cc
operator_no_sum _ e = refl

pub operator_no_end : (kind : TokenKind) → is_operator kind ≡ true → ends_number kind ≡ false
operator_no_end (token.Symbol symbol.RightParen) e = cc
operator_no_end (token.Symbol s) e = refl
operator_no_end _ e = cc

-- the operators of a precedence are operators
abbrev pub AreOperators : Operators → Type 0
AreOperators operators = (kind : TokenKind) (o : BinOp) → operators kind ≡ Some o → is_operator kind ≡ true

pub iff_operators : AreOperators iff_operator
iff_operators (token.Symbol symbol.Iff) o e = refl
iff_operators _ o e = cc

pub implies_operators : AreOperators implies_operator
implies_operators (token.Symbol symbol.Implies) o e = refl
implies_operators _ o e = cc

pub or_operators : AreOperators or_operator
or_operators (token.Symbol symbol.Bar) o e = refl
or_operators _ o e = cc

pub and_operators : AreOperators and_operator
and_operators (token.Symbol symbol.Amp) o e = refl
and_operators _ o e = cc

pub comparison_operators : AreOperators comparison_operator
comparison_operators (token.Symbol symbol.Equal) o e = refl
comparison_operators (token.Symbol symbol.Differs) o e = refl
comparison_operators (token.Symbol symbol.Less) o e = refl
comparison_operators (token.Symbol symbol.AtMost) o e = refl
comparison_operators (token.Symbol symbol.Greater) o e = refl
comparison_operators (token.Symbol symbol.AtLeast) o e = refl
comparison_operators _ o e = cc

pub sum_operators : AreOperators sum_operator
sum_operators (token.Symbol symbol.Plus) o e = refl
sum_operators (token.Symbol symbol.Minus) o e = refl
sum_operators _ o e = cc

pub product_operators : AreOperators product_operator
product_operators (token.Symbol symbol.Star) o e = refl
product_operators _ o e = cc
