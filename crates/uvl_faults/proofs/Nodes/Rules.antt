-- Behind the tokens of an expression with which a rule begins, as many nodes are counted as its tree has.
use Rattle.std.specs.Prelude.{◌≡◌, ℕ, ◌+◌, Bool, true, false, not, ◌&&◌, ◌||◌, cond, List, [], ◌∷◌, ◌++◌, reverse, Some, None}
use Rattle.std.proofs.Common.{refl, sym, ap, ◌∙◌, arith, zero-add}
use Rattle.std.proofs.lemmas.Bool.{and_from, and_left, or_left, or_right, or_from}
use Rattle.uvl_lexer.specs.declared.token.Token.{Token}
use Rattle.uvl_lexer.specs.declared.token.TokenKind.{TokenKind}
use Rattle.uvl_lexer.specs.declared.token.TokenKind.TheVariants as token
use Rattle.uvl_base.specs.declared.word.Word.TheVariants as word
use Rattle.uvl_lexer.specs.declared.token.Symbol.TheVariants as symbol
use Rattle.uvl_ast.specs.declared.expression.Expr.{Expr}
use Rattle.uvl_ast.specs.Nodes.{nodes_of}
use Rattle.uvl_profile.specs.declared.section.Section.TheVariants.{Features, Constraints}
use Rattle.uvl_grammar.specs.steps.Tests.{Test, is_word, is_symbol, begins}
use Rattle.uvl_grammar.specs.Expressions.{SpellsExpr}
use Rattle.uvl_profile.specs.Lines.{is_layout}
use Rattle.uvl_profile.specs.Nesting.{one_if}
use Rattle.uvl_profile.specs.Sections.{is_in}
use Rattle.uvl_profile.specs.Rules.{ends_number, is_node, in_list, opens_list, rule_behind, ends_rule, with_node, rule_nodes}
use Rattle.uvl_faults.specs.Law.{nodes_among}
use Rattle.uvl_faults.proofs.Walking.{walk, walk_reverse}
use Rattle.uvl_faults.proofs.Nodes.Kinds.{leaves_rule, stays_in_rule}
use Rattle.uvl_faults.proofs.Nodes.Counting.{AllStay, OperandBegins, expression_counted}

-- ---- the four ways in which a rule begins

module _ (before : List Token) (t : Token) where
  -- behind a mark between lines of the constraints section
  abbrev pub by_line : Bool
  by_line = is_layout t.kind && is_in Constraints (t ∷ before)

  -- behind the word `constraint`
  abbrev pub by_word : Bool
  by_word = is_word word.Constraint t.kind && is_in Features before

  -- behind a comma between the rules of a list
  abbrev pub by_comma : Bool
  by_comma = is_symbol symbol.Comma t.kind && in_list before

  pub begins_by_line : is_layout t.kind ≡ true → is_in Constraints (t ∷ before) ≡ true → rule_behind before t ≡ true
  begins_by_line mark inside =
      or_left (by_line || by_word || opens_list before t.kind) by_comma
      (or_left (by_line || by_word) (opens_list before t.kind)
      (or_left by_line by_word (and_from (is_layout t.kind) (is_in Constraints (t ∷ before)) mark inside)))

  pub begins_by_word : is_word word.Constraint t.kind ≡ true → is_in Features before ≡ true → rule_behind before t ≡ true
  begins_by_word is inside =
      or_left (by_line || by_word || opens_list before t.kind) by_comma
      (or_left (by_line || by_word) (opens_list before t.kind)
      (or_right by_line by_word (and_from (is_word word.Constraint t.kind) (is_in Features before) is inside)))

  pub begins_by_list : opens_list before t.kind ≡ true → rule_behind before t ≡ true
  begins_by_list opens =
      or_left (by_line || by_word || opens_list before t.kind) by_comma (or_right (by_line || by_word) (opens_list before t.kind) opens)

  pub begins_by_comma : is_symbol symbol.Comma t.kind ≡ true → in_list before ≡ true → rule_behind before t ≡ true
  begins_by_comma is inside =
      or_right (by_line || by_word || opens_list before t.kind) by_comma (and_from (is_symbol symbol.Comma t.kind) (in_list before) is inside)

  -- or in none of them
  pub begins_not : by_line ≡ false → by_word ≡ false → opens_list before t.kind ≡ false → by_comma ≡ false
      → rule_behind before t ≡ false
  begins_not line word opens comma =
      or_from (by_line || by_word || opens_list before t.kind) by_comma
      (or_from (by_line || by_word) (opens_list before t.kind) (or_from by_line by_word line word) opens) comma

  -- what is no bracket opens no list
  pub no_opening : is_symbol symbol.LeftBracket t.kind ≡ false → opens_list before t.kind ≡ false
  no_opening no_bracket =
      and_left (is_symbol symbol.LeftBracket t.kind && begins (is_word word.Constraints) before) (is_in Features before)
      (and_left (is_symbol symbol.LeftBracket t.kind) (begins (is_word word.Constraints) before) no_bracket)

-- ---- an operand begins where a rule does

-- the tokens behind which a rule may begin
abbrev may_precede_rule : Test
may_precede_rule kind =
    is_layout kind || is_word word.Constraint kind || is_symbol symbol.LeftBracket kind || is_symbol symbol.Comma kind

one_of_four : (a b c d p q r s t : Bool) → ((a && p) || (b && q) || (c && r && s) || (d && t)) ≡ true → (a || b || c || d) ≡ true
one_of_four true b c d p q r s t e = refl
one_of_four false true c d p q r s t e = refl
one_of_four false false true d p q r s t e = refl
one_of_four false false false true p q r s t e = refl
one_of_four false false false false p q r s t e = cc

precedes_rule : (before : List Token) (t : Token) → rule_behind before t ≡ true → may_precede_rule t.kind ≡ true
precedes_rule before t is =
    one_of_four (is_layout t.kind) (is_word word.Constraint t.kind) (is_symbol symbol.LeftBracket t.kind) (is_symbol symbol.Comma t.kind)
    (is_in Constraints (t ∷ before)) (is_in Features before) (begins (is_word word.Constraints) before) (is_in Features before) (in_list before) is

no_operand_there : (kind : TokenKind) → may_precede_rule kind ≡ true → ends_number kind ≡ false
no_operand_there (token.Name name quoted) e = cc
no_operand_there (token.Number value whole) e = cc
no_operand_there (token.Symbol symbol.RightParen) e = cc
no_operand_there _ e = refl

no_dot_there : (kind : TokenKind) → may_precede_rule kind ≡ true → is_symbol symbol.Dot kind ≡ false
no_dot_there (token.Symbol symbol.Dot) e = cc
no_dot_there _ e = refl

no_sum_there : (kind : TokenKind) → may_precede_rule kind ≡ true → is_word word.Sum kind ≡ false
no_sum_there (token.Word word.Sum) e = cc
no_sum_there _ e = refl

no_paren_there : (kind : TokenKind) → may_precede_rule kind ≡ true → is_symbol symbol.LeftParen kind ≡ false
no_paren_there (token.Symbol symbol.LeftParen) e = cc
no_paren_there _ e = refl

no_minus_there : (kind : TokenKind) → may_precede_rule kind ≡ true → is_symbol symbol.Minus kind ≡ false
no_minus_there (token.Symbol symbol.Minus) e = cc
no_minus_there _ e = refl

pub rule_begins : (before : List Token) (t : Token) → rule_behind before t ≡ true → OperandBegins (t ∷ before)
rule_begins before t is =
    let there = precedes_rule before t is in
    record {
      no_operand = no_operand_there t.kind there;
      no_dot = no_dot_there t.kind there;
      no_sum = no_sum_there t.kind there;
      no_key = ap (λ b. b && begins (is_word word.Sum) before) (no_paren_there t.kind there);
      no_sign = ap (λ b. b && not (begins ends_number before)) (no_minus_there t.kind there);
    }

-- ---- the count behind tokens of a rule

-- where no rule begins, the count goes on
pub count_goes_on : (before : List Token) (t : Token) → rule_behind before t ≡ false
    → rule_nodes (t ∷ before) ≡ cond (ends_rule t.kind) None (with_node (is_node before t.kind) (rule_nodes before))
count_goes_on before t none =
    ap (λ b. cond b (Some 0) (cond (ends_rule t.kind) None (with_node (is_node before t.kind) (rule_nodes before)))) none

-- none begins behind a token of an expression
begins_none : (before : List Token) (t : Token) → leaves_rule t.kind ≡ false → rule_behind before t ≡ false
begins_none before t stays =
    let there = stays_in_rule t.kind stays in
    begins_not before t (and_left (is_layout t.kind) (is_in Constraints (t ∷ before)) there.mark)
    (and_left (is_word word.Constraint t.kind) (is_in Features before) there.constraint) (no_opening before t there.opens)
    (and_left (is_symbol symbol.Comma t.kind) (in_list before) there.comma)

-- the rule has the token's node more
pub node_behind : (before : List Token) (t : Token) (n : ℕ) → rule_nodes before ≡ Some n → leaves_rule t.kind ≡ false
    → rule_nodes (t ∷ before) ≡ Some (n + one_if (is_node before t.kind))
node_behind before t n counted stays =
    count_goes_on before t (begins_none before t stays)
    ∙ ap (λ b. cond b None (with_node (is_node before t.kind) (rule_nodes before))) (stays_in_rule t.kind stays).ends
    ∙ ap (with_node (is_node before t.kind)) counted

pub nodes_behind : (before xs : List Token) (n : ℕ) → rule_nodes before ≡ Some n → AllStay xs
    → rule_nodes (walk before xs) ≡ Some (n + nodes_among before xs)
nodes_behind before [] n counted stays = counted ∙ ap Some (omega arith)
nodes_behind before (t ∷ ts) n counted stays =
    nodes_behind (t ∷ before) ts (n + one_if (is_node before t.kind)) (node_behind before t n counted stays.0) stays.1 ∙ ap Some (omega arith)

-- none at its beginning
pub none_yet : (before : List Token) (t : Token) → rule_behind before t ≡ true → rule_nodes (t ∷ before) ≡ Some 0
none_yet before t is = ap (λ b. cond b (Some 0) (cond (ends_rule t.kind) None (with_node (is_node before t.kind) (rule_nodes before)))) is

-- ---- the laws

module _ (before : List Token) (t : Token) (xs : List Token) (e : Expr) (is : rule_behind before t ≡ true) (spelled : SpellsExpr xs e) where
  pub tokens_tell_nodes : nodes_among (t ∷ before) xs ≡ nodes_of e
  tokens_tell_nodes = (expression_counted (t ∷ before) xs e (rule_begins before t is) spelled).nodes

  pub rule_stays : AllStay xs
  rule_stays = (expression_counted (t ∷ before) xs e (rule_begins before t is) spelled).stays

  pub nodes_are_counted : rule_nodes (reverse xs ++ t ∷ before) ≡ Some (nodes_of e)
  nodes_are_counted =
      ap rule_nodes (sym (walk_reverse (t ∷ before) xs))
      ∙ nodes_behind (t ∷ before) xs 0 (none_yet before t is) rule_stays
      ∙ ap Some (ap (λ n. 0 + n) tokens_tell_nodes ∙ zero-add (nodes_of e))
