-- In an expression each scope of brackets and `!` has four precedences of operators that join truths, and each of
-- these groups to the left: so its nodes stand in the right operands of at most one of each.
use Rattle.std.specs.Prelude.{◌≡◌, ℕ, zero, suc, ◌+◌, ◌-◌, ◌*◌, ◌≤◌, max, List, ◌∷◌, Option, Some, None, ℤ, neg_ℤ}
use Rattle.std.proofs.Common.{refl, sym, ap, subst, ◌∙◌, arith}
use Rattle.uvl_base.specs.declared.place.Place.{Place}
use Rattle.uvl_lexer.specs.declared.token.Token.{Token}
use Rattle.uvl_lexer.specs.declared.token.TokenKind.{TokenKind}
use Rattle.uvl_lexer.specs.declared.token.TokenKind.TheVariants as token
use Rattle.uvl_base.specs.declared.word.Word.TheVariants as word
use Rattle.uvl_lexer.specs.declared.token.Symbol.TheVariants as symbol
use Rattle.uvl_ast.specs.declared.names.Ref.{Ref}
use Rattle.uvl_ast.specs.declared.expression.BinOp.{BinOp}
use Rattle.uvl_ast.specs.declared.expression.BinOp.TheVariants as op
use Rattle.uvl_ast.specs.declared.expression.Expr.{Expr}
use Rattle.uvl_ast.specs.declared.expression.Expr.TheVariants as expr
use Rattle.uvl_ast.specs.declared.expression.Expr.TheOpen.{Expr-F}
use Rattle.uvl_ast.specs.declared.expression.Expr.TheFolds.{fold-roll-Expr}
use Rattle.uvl_ast.specs.Operands.{one_of_truths, right_operands_of, right_operands}
use Rattle.uvl_grammar.specs.Shapes.{Spelling}
use Rattle.uvl_grammar.specs.Refs.{SpellsDotName, Dot_name, SpellsRef}
use Rattle.uvl_grammar.specs.Refs as refs
use Rattle.uvl_grammar.specs.Expressions.{Operators, iff_operator, implies_operator, or_operator, and_operator, comparison_operator, sum_operator, product_operator, Grouped, Alone, Joined, Connected, SpellsPrimary, Parentheses, Literal, Negative, Sum, Reference, SpellsSum, SpellsComparison, Compared, Not_compared, Opposite, Comparison, OperandWithin, SpellsExpr}
use Rattle.uvl_profile.specs.steps.Depth.{depth_around, depth_of}
use Rattle.uvl_profile.specs.steps.Scan.{scopes_of}
use Rattle.uvl_faults.proofs.Walking.{walk, walk_append, Clear, clear_front, clear_back}
use Rattle.uvl_faults.proofs.Nesting.Tokens.{scopes_after, scopes_at, Inside, IsPlain, plain_name, plain_number, behind_plain, behind_symbol}
use Rattle.uvl_faults.proofs.Nesting.Limit.{over, not_over}
use Rattle.uvl_faults.proofs.Nesting.Shapes.{Leads, repeated_leads, bracketed}

-- ---- one step of an expression

number_operands : (value : ℤ) (place : Place) → right_operands (expr.Number value place) ≡ 0
number_operands value place = ap right_operands (sym (expr.rolls-Number value place)) ∙ fold-roll-Expr ℕ right_operands_of (Expr-F.Number value place)

name_operands : (r : Ref) → right_operands (expr.Name r) ≡ 0
name_operands r = ap right_operands (sym (expr.rolls-Name r)) ∙ fold-roll-Expr ℕ right_operands_of (Expr-F.Name r)

sum_operands : (name : List ℕ) (place : Place) → right_operands (expr.Sum name place) ≡ 0
sum_operands name place = ap right_operands (sym (expr.rolls-Sum name place)) ∙ fold-roll-Expr ℕ right_operands_of (Expr-F.Sum name place)

not_operands : (e : Expr) (place : Place) → right_operands (expr.Not e place) ≡ right_operands e
not_operands e place = ap right_operands (sym (expr.rolls-Not e place)) ∙ fold-roll-Expr ℕ right_operands_of (Expr-F.Not e place)

binary_operands : (o : BinOp) (left right : Expr) (place : Place)
    → right_operands (expr.Binary o left right place) ≡ max (right_operands left) (right_operands right + one_of_truths o)
binary_operands o left right place =
    ap right_operands (sym (expr.rolls-Binary o left right place)) ∙ fold-roll-Expr ℕ right_operands_of (Expr-F.Binary o left right place)

-- its nodes stand in no more right operands
abbrev pub StandsWithin : ℕ → Expr → Type 0
StandsWithin most e = right_operands e ≤ most

-- ---- operators

-- operators of numbers end nothing and join no truths
pub record OfNumbers (operators : Operators) : Type 0 where
  pub plain : (kind : TokenKind) (o : BinOp) → operators kind ≡ Some o → IsPlain kind
  pub none : (kind : TokenKind) (o : BinOp) → operators kind ≡ Some o → one_of_truths o ≡ 0

plain_product : (kind : TokenKind) (o : BinOp) → product_operator kind ≡ Some o → IsPlain kind
plain_product (token.Symbol symbol.Star) o is b bs = refl
plain_product _ o is b bs = cc

plain_sum : (kind : TokenKind) (o : BinOp) → sum_operator kind ≡ Some o → IsPlain kind
plain_sum (token.Symbol symbol.Plus) o is b bs = refl
plain_sum (token.Symbol symbol.Minus) o is b bs = refl
plain_sum _ o is b bs = cc

plain_comparison : (kind : TokenKind) (o : BinOp) → comparison_operator kind ≡ Some o → IsPlain kind
plain_comparison (token.Symbol symbol.Equal) o is b bs = refl
plain_comparison (token.Symbol symbol.Differs) o is b bs = refl
plain_comparison (token.Symbol symbol.Less) o is b bs = refl
plain_comparison (token.Symbol symbol.AtMost) o is b bs = refl
plain_comparison (token.Symbol symbol.Greater) o is b bs = refl
plain_comparison (token.Symbol symbol.AtLeast) o is b bs = refl
plain_comparison _ o is b bs = cc

-- what an operator counts as, where it is one
abbrev truths_in : Option BinOp → ℕ
truths_in None = 0
truths_in (Some o) = one_of_truths o

none_in_product : (kind : TokenKind) → truths_in (product_operator kind) ≡ 0
none_in_product (token.Symbol symbol.Star) = refl
none_in_product _ = refl

none_in_sum : (kind : TokenKind) → truths_in (sum_operator kind) ≡ 0
none_in_sum (token.Symbol symbol.Plus) = refl
none_in_sum (token.Symbol symbol.Minus) = refl
none_in_sum _ = refl

none_in_comparison : (kind : TokenKind) → truths_in (comparison_operator kind) ≡ 0
none_in_comparison (token.Symbol symbol.Equal) = refl
none_in_comparison (token.Symbol symbol.Differs) = refl
none_in_comparison (token.Symbol symbol.Less) = refl
none_in_comparison (token.Symbol symbol.AtMost) = refl
none_in_comparison (token.Symbol symbol.Greater) = refl
none_in_comparison (token.Symbol symbol.AtLeast) = refl
none_in_comparison _ = refl

products : OfNumbers product_operator
products = record { plain = plain_product; none = λ kind o is. ap truths_in (sym is) ∙ none_in_product kind }

sums : OfNumbers sum_operator
sums = record { plain = plain_sum; none = λ kind o is. ap truths_in (sym is) ∙ none_in_sum kind }

comparisons : OfNumbers comparison_operator
comparisons = record { plain = plain_comparison; none = λ kind o is. ap truths_in (sym is) ∙ none_in_comparison kind }

-- operators of truths end what a `!` applies to
abbrev OfTruths : Operators → Type 0
OfTruths operators = (kind : TokenKind) (o : BinOp) → operators kind ≡ Some o → (b : ℕ) (bs : List ℕ) → scopes_after (b ∷ bs) kind ≡ 0 ∷ bs

iffs : OfTruths iff_operator
iffs (token.Symbol symbol.Iff) o is b bs = refl
iffs _ o is b bs = cc

implications : OfTruths implies_operator
implications (token.Symbol symbol.Implies) o is b bs = refl
implications _ o is b bs = cc

ors : OfTruths or_operator
ors (token.Symbol symbol.Bar) o is b bs = refl
ors _ o is b bs = cc

ands : OfTruths and_operator
ands (token.Symbol symbol.Amp) o is b bs = refl
ands _ o is b bs = cc

one_at_most : (o : BinOp) → one_of_truths o ≤ 1
one_at_most op.And = omega arith
one_at_most op.Or = omega arith
one_at_most op.Implies = omega arith
one_at_most op.Iff = omega arith
one_at_most _ = omega arith

-- ---- operands with operators between them

-- each operator adds so many at most
module _ (operators : Operators) (Part : Spelling Expr) (At : List Token → Type 0) (k more : ℕ)
    (adds : (kind : TokenKind) (o : BinOp) → operators kind ≡ Some o → one_of_truths o ≤ more)
    (behind : (before : List Token) (t : Token) (o : BinOp) → At before → operators t.kind ≡ Some o → At (t ∷ before))
    (part : Leads At At Part (StandsWithin k)) where
  grouped_leads : Leads At At (Grouped operators Part) (StandsWithin (k + more))
  grouped_leads before ts e here clear (Alone r) =
      let found = part before ts e here clear r in
      (omega (arith, found.0), found.1)
  grouped_leads before ts e here clear (Joined {xs} {ys} t {o} {left} {right} g is r) =
      let one = grouped_leads before xs left here (clear_front over before xs (t ∷ ys) clear) g in
      let front = walk before xs in
      let two = part (t ∷ front) ys right (behind front t o one.1 is) (clear_back over before xs (t ∷ ys) clear).1 r in
      let counts = binary_operands o left right t.place in
      let added = adds t.kind o is in
      (omega (arith, one.0, two.0, counts, added), subst At (sym (walk_append before xs (t ∷ ys))) two.1)

-- operators of numbers add nothing
numbers_lead : (operators : Operators) → OfNumbers operators → (Part : Spelling Expr) (n k : ℕ) (bs : List ℕ)
    → Leads (Inside n bs) (Inside n bs) Part (StandsWithin k) → Leads (Inside n bs) (Inside n bs) (Grouped operators Part) (StandsWithin k)
numbers_lead operators of Part n k bs part before ts e here clear r =
    let adds = λ (kind : TokenKind) (o : BinOp) (is : operators kind ≡ Some o). let none = of.none kind o is in let low : one_of_truths o ≤ 0 = omega (arith, none) in low in
    let behind = λ (before : List Token) (t : Token) (o : BinOp) (here : Inside n bs before) (is : operators t.kind ≡ Some o). behind_plain before t here (of.plain t.kind o is) in
    let found = grouped_leads operators Part (Inside n bs) k 0 adds behind part before ts e here clear r in
    (omega (arith, found.0), found.1)

-- operators of truths add one
truths_lead : (operators : Operators) → OfTruths operators → (Part : Spelling Expr) (k : ℕ) (bs : List ℕ)
    → Leads (Inside 0 bs) (Inside 0 bs) Part (StandsWithin k) → Leads (Inside 0 bs) (Inside 0 bs) (Grouped operators Part) (StandsWithin (k + 1))
truths_lead operators of Part k bs part =
    grouped_leads operators Part (Inside 0 bs) k 1 (λ kind o is. one_at_most o)
    (λ before t o here is. (0, scopes_at before t (here.0 ∷ bs) t.kind here.1 refl ∙ of t.kind o is here.0 bs, omega arith)) part

connected_leads : (Part : Spelling Expr) (k : ℕ) (bs : List ℕ) → Leads (Inside 0 bs) (Inside 0 bs) Part (StandsWithin k)
    → Leads (Inside 0 bs) (Inside 0 bs) (Connected Part) (StandsWithin (k + 4))
connected_leads Part k bs part before ts e here clear r =
    let found = truths_lead iff_operator iffs _ (k + 1 + 1 + 1) bs (truths_lead implies_operator implications _ (k + 1 + 1) bs
    (truths_lead or_operator ors _ (k + 1) bs (truths_lead and_operator ands Part k bs part))) before ts e here clear r in
    (omega (arith, found.0), found.1)

-- ---- operands of numbers

-- nothing is said of it
abbrev Anything : List ℕ → Type 0
Anything name = Unit {0}

dot_name_leads : (n : ℕ) (bs : List ℕ) → Leads (Inside n bs) (Inside n bs) SpellsDotName Anything
dot_name_leads n bs before ts name here clear (Dot_name dot t is named) =
    (tt, behind_plain (dot ∷ before) t (behind_symbol before dot here symbol.Dot (λ b bs. refl) is) (plain_name t.kind name named))

-- behind a reference the scopes are as in front of it
pub behind_ref : (n : ℕ) (bs : List ℕ) (before xs : List Token) (r : Ref) → Inside n bs before → Clear over before xs → SpellsRef xs r → Inside n bs (walk before xs)
behind_ref n bs before ts r here clear (refs.Reference t {name} {xs} {names} named rs) =
    (repeated_leads (Inside n bs) SpellsDotName Anything (dot_name_leads n bs) (t ∷ before) xs names
    (behind_plain before t here (plain_name t.kind name named)) clear.1 rs).1

-- what stands in parentheses has one fewer
abbrev InnerLeads : List ℕ → Spelling Expr → Type 0
InnerLeads bs Inner = (b k : ℕ) → 128 ≤ depth_around (b ∷ bs) + k → Leads (Inside 0 (b ∷ bs)) (Inside 0 (b ∷ bs)) Inner (StandsWithin (4 * k + 4))

module _ (Inner : Spelling Expr) (n m : ℕ) (bs : List ℕ) (room : 128 ≤ n + depth_around bs + m) (inner : InnerLeads bs Inner) where
  primary_leads : Leads (Inside n bs) (Inside n bs) (SpellsPrimary Inner) (StandsWithin (4 * m))
  primary_leads before ts e here clear (Parentheses left right {xs} opens r closes) =
      let found = bracketed Inner (λ k e. StandsWithin (4 * k + 4) e) n m bs room inner symbol.LeftParen symbol.RightParen (λ b bs. refl) (λ c b bs. refl)
      before xs left right e here clear opens r closes in
      (omega (arith, found.0.1, found.0.2), found.1)
  primary_leads before ts e here clear (Literal t {value} is) =
      (omega (arith, number_operands value t.place), behind_plain before t here (plain_number t.kind value is))
  primary_leads before ts e here clear (Negative minus t {value} is numbered) =
      let behind = behind_symbol before minus here symbol.Minus (λ b bs. refl) is in
      (omega (arith, number_operands (neg_ℤ value) minus.place), behind_plain (minus ∷ before) t behind (plain_number t.kind value numbered))
  primary_leads before ts e here clear (Sum t left key right {name} is opens named closes) =
      let b = here.0 in
      let at_word : scopes_of (t ∷ before) ≡ b ∷ bs = scopes_at before t (b ∷ bs) (token.Word word.Sum) here.1 is in
      let at_left : scopes_of (left ∷ t ∷ before) ≡ 0 ∷ b ∷ bs = scopes_at (t ∷ before) left (b ∷ bs) (token.Symbol symbol.LeftParen) at_word opens in
      let at_key : scopes_of (key ∷ left ∷ t ∷ before) ≡ 0 ∷ b ∷ bs =
      scopes_at (left ∷ t ∷ before) key (0 ∷ b ∷ bs) key.kind at_left refl ∙ plain_name key.kind name named 0 (b ∷ bs) in
      let at_right : scopes_of (right ∷ key ∷ left ∷ t ∷ before) ≡ b ∷ bs =
      scopes_at (key ∷ left ∷ t ∷ before) right (0 ∷ b ∷ bs) (token.Symbol symbol.RightParen) at_key closes in
      (omega (arith, sum_operands name t.place), (b, at_right, here.2))
  primary_leads before ts e here clear (Reference {r} s) = (omega (arith, name_operands r), behind_ref n bs before ts r here clear s)

  sum_leads : Leads (Inside n bs) (Inside n bs) (SpellsSum Inner) (StandsWithin (4 * m))
  sum_leads = numbers_lead sum_operator sums _ n (4 * m) bs (numbers_lead product_operator products _ n (4 * m) bs primary_leads)

  comparison_leads : Leads (Inside n bs) (Inside n bs) (SpellsComparison Inner) (StandsWithin (4 * m))
  comparison_leads before ts e here clear (Not_compared s) = sum_leads before ts e here clear s
  comparison_leads before ts e here clear (Compared {xs} {ys} t {o} {left} {right} l is r) =
      let one = sum_leads before xs left here (clear_front over before xs (t ∷ ys) clear) l in
      let front = walk before xs in
      let behind = behind_plain front t one.1 (comparisons.plain t.kind o is) in
      let two = sum_leads (t ∷ front) ys right behind (clear_back over before xs (t ∷ ys) clear).1 r in
      let counts = binary_operands o left right t.place in
      let none = comparisons.none t.kind o is in
      (omega (arith, one.0, two.0, counts, none), subst (Inside n bs) (sym (walk_append before xs (t ∷ ys))) two.1)

-- ---- operands of truths

operand_leads : (d m n : ℕ) (bs : List ℕ) → 128 ≤ n + depth_around bs + m → Leads (Inside n bs) (Inside 0 bs) (OperandWithin d) (StandsWithin (4 * m))
operand_leads zero m n bs room before ts e here clear r = absurd r
operand_leads (suc d) m n bs room before ts e here clear (Opposite bang {xs} {e = inner} is r) =
    let b = here.0 in
    let enough : n ≤ b = here.2 in
    let behind : scopes_of (bang ∷ before) ≡ (b + 1) ∷ bs = scopes_at before bang (b ∷ bs) (token.Symbol symbol.Bang) here.1 is in
    let low = not_over before bang clear.0 in
    let within : b + 1 + depth_around bs ≤ 128 = omega (arith, low, ap depth_of behind) in
    let found = operand_leads d (m - 1) (n + 1) bs (omega arith) (bang ∷ before) xs inner (b + 1, behind, omega arith) clear.1 r in
    (omega (arith, found.0, not_operands inner bang.place), found.1)
operand_leads (suc d) m n bs room before ts e here clear (Comparison r) =
    let inner = λ (b k : ℕ) (more : 128 ≤ depth_around (b ∷ bs) + k).
    connected_leads (OperandWithin d) (4 * k) (b ∷ bs) (operand_leads d k 0 (b ∷ bs) (omega arith)) in
    let found = comparison_leads (Connected (OperandWithin d)) n m bs room inner before ts e here clear r in
    (found.0, (found.1.0, found.1.1, omega arith))

-- an expression, where m more make 128
pub expr_leads : (m : ℕ) (bs : List ℕ) → 128 ≤ depth_around bs + m → Leads (Inside 0 bs) (Inside 0 bs) SpellsExpr (StandsWithin (4 * m + 4))
expr_leads m bs room before ts e here clear r =
    connected_leads (OperandWithin r.0) (4 * m) bs (operand_leads r.0 m 0 bs (omega arith)) before ts e here clear r.1
