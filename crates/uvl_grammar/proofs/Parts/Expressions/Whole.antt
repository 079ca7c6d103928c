-- Expressions, however deep they nest, are read exactly.
use Rattle.std.specs.Prelude.{◌≡◌, ℕ, suc, List, [], ◌++◌, length, Ok, Err}
use Rattle.std.proofs.Common.{sym, ap, ◌∙◌, append-nil, arith}
use Rattle.uvl_lexer.specs.declared.token.Token.{Token}
use Rattle.uvl_ast.specs.declared.expression.Expr.{Expr}
use Rattle.uvl_grammar.specs.Expressions.{SpellsExpr, ExprWithin}
use Rattle.uvl_grammar.specs.steps.Expressions.{expression, expression_within}
use Rattle.uvl_grammar.specs.steps.Reading.{Read}
use Rattle.uvl_grammar.proofs.Readers.{Good, Outcome, SameHead, good_closed}
use Rattle.uvl_grammar.proofs.Completing.{Complete, complete_closed}
use Rattle.uvl_grammar.proofs.Parts.Expressions.Spelled.{expression_within_good}
use Rattle.uvl_grammar.proofs.Parts.Expressions.Read.{Looser, expression_within_complete}

-- What is read is spelled, and where reading stops nothing can go on.
pub expression_good : {d n : ℕ} → Good (λ m. expression) SpellsExpr d n
unfolding expression
expression_good {d} {n} = good_closed expression_within ExprWithin expression_within_good d n

-- What is spelled is read, where the next token is no operator and no dot.
pub expression_complete : {d : ℕ} → Complete (λ m. expression) SpellsExpr (Looser 1) d
unfolding expression
expression_complete {d} = complete_closed expression_within ExprWithin (Looser 1) expression_within_good expression_within_complete d

-- ---- what follows for lists of tokens

spelled_is_read : (ts : List Token) (e : Expr) → SpellsExpr ts e → expression ts ≡ Ok (e, [])
spelled_is_read ts e spelled = ap expression (sym (append-nil ts)) ∙ (expression_complete {d = 0}).reads 0 (omega arith) ts e [] spelled tt

-- A list of tokens spells at most one expression.
pub one_expression : (ts : List Token) (e f : Expr) → SpellsExpr ts e → SpellsExpr ts f → e ≡ f
one_expression ts e f left right = ap_first (sym (spelled_is_read ts e left) ∙ spelled_is_read ts f right)
  where
    ap_first : ◌≡◌ {A = Read Expr} (Ok (e, [])) (Ok (f, [])) → e ≡ f
    ap_first same = let pair : (e, []) ≡ (f, []) = cc in ap (λ (z : Expr × List Token). z.0) pair

-- Tokens in front of the place where reading stops, which begin an expression, and what is left there,
-- with which no expression goes on.
pub record IsStuck (ts : List Token) (left : ℕ) : Type 0 where
  pub front : List Token
  pub rest : List Token
  pub splits : ts ≡ front ++ rest
  pub count : left ≡ length rest
  pub more : List Token
  pub value : Expr
  pub completed : SpellsExpr (front ++ more) value
  pub dead : (later : List Token) (e : Expr) → SameHead rest later → SpellsExpr (front ++ later) e → ⊥

stuck_of : (ts : List Token) (left : ℕ) (r : Read Expr) → Outcome (λ m. expression) SpellsExpr 0 ts r → r ≡ Err left → IsStuck ts left
stuck_of ts left (Ok r) o e = absurd (cc)
stuck_of ts left (Err n) o e = record {
  front = o.front;
  rest = o.rest;
  splits = o.splits;
  count = stopped ∙ o.count;
  more = o.more;
  value = o.value;
  completed = o.completed;
  dead = λ later f same spelled. never (sym (o.again 0 (omega arith) later same) ∙ spelled_is_read (o.front ++ later) f spelled);
}
  where
    stopped : left ≡ n
    stopped = cc

    never : {n : ℕ} {e : Expr} → ◌≡◌ {A = Read Expr} (Err n) (Ok (e, [])) → ⊥
    never same = cc

-- Where reading stops, nothing can go on.
pub stops_are_dead : (ts : List Token) (left : ℕ) → expression ts ≡ Err left → IsStuck ts left
stops_are_dead ts left e =
    stuck_of ts left (expression ts) ((expression_good {d = 0} {n = suc (length ts)}).at ts (omega arith)) e
