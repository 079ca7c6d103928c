-- Of the tokens of an expression as many are where a node stands as its tree has nodes.
use Rattle.std.specs.Prelude.{◌≡◌, ℕ, zero, suc, ◌+◌, Bool, true, false, not, ◌&&◌, List, [], ◌∷◌, ◌++◌, Some, ℤ, neg_ℤ}
use Rattle.std.proofs.Common.{refl, sym, ap, ◌∙◌, arith}
use Rattle.std.proofs.lemmas.Bool.{and_right}
use Rattle.uvl_lexer.specs.declared.token.Token.{Token}
use Rattle.uvl_base.specs.declared.word.Word.TheVariants as word
use Rattle.uvl_lexer.specs.declared.token.Symbol.TheVariants as symbol
use Rattle.uvl_base.specs.declared.place.Place.{Place}
use Rattle.uvl_ast.specs.declared.names.Ref.{Ref}
use Rattle.uvl_ast.specs.declared.expression.BinOp.{BinOp}
use Rattle.uvl_ast.specs.declared.expression.Expr.{Expr}
use Rattle.uvl_ast.specs.declared.expression.Expr.TheVariants as expr
use Rattle.uvl_ast.specs.declared.expression.Expr.TheVariants.{rolls-Number, rolls-Name, rolls-Sum, rolls-Not, rolls-Binary}
use Rattle.uvl_ast.specs.declared.expression.Expr.TheOpen.{Expr-F}
use Rattle.uvl_ast.specs.declared.expression.Expr.TheFolds.{fold-roll-Expr}
use Rattle.uvl_ast.specs.Nodes.{node_count, nodes_of}
use Rattle.uvl_grammar.specs.steps.Tests.{is_word, is_symbol, begins}
use Rattle.uvl_grammar.specs.Tokens.{IsWord, IsSymbol, name_of, number_of}
use Rattle.uvl_grammar.specs.Shapes.{Spelling, Repeated, None_more, One_more}
use Rattle.uvl_grammar.specs.Refs as refs
use Rattle.uvl_grammar.specs.Refs.{SpellsDotName, SpellsRef}
use Rattle.uvl_grammar.specs.Expressions as exprs
use Rattle.uvl_grammar.specs.Expressions.{Operators, Grouped, Connected, SpellsPrimary, SpellsSum, SpellsComparison, SpellsOperand, OperandWithin, SpellsExpr, iff_operator, implies_operator, or_operator, and_operator, sum_operator, product_operator}
use Rattle.uvl_profile.specs.Nesting.{one_if}
use Rattle.uvl_profile.specs.Rules.{ends_number, behind_sign, behind_sum, is_operator, is_node}
use Rattle.uvl_faults.specs.Law.{nodes_among}
use Rattle.uvl_faults.proofs.Walking.{walk, walk_append, NonePasses, none_append}
use Rattle.uvl_faults.proofs.Nodes.Kinds.{leaves_rule, name_node, number_node, operator_node, name_ends, number_ends, name_stays, number_stays, operator_stays, operator_no_paren, operator_no_end, operator_no_dot, operator_no_sum, AreOperators, iff_operators, implies_operators, or_operators, and_operators, comparison_operators, sum_operators, product_operators}

-- ---- the nodes of a tree

nodes_number : (v : ℤ) (p : Place) → nodes_of (expr.Number v p) ≡ 1
nodes_number v p = ap nodes_of (sym (rolls-Number v p)) ∙ fold-roll-Expr ℕ node_count (Expr-F.Number v p)

nodes_name : (r : Ref) → nodes_of (expr.Name r) ≡ 1
nodes_name r = ap nodes_of (sym (rolls-Name r)) ∙ fold-roll-Expr ℕ node_count (Expr-F.Name r)

nodes_sum : (name : List ℕ) (p : Place) → nodes_of (expr.Sum name p) ≡ 1
nodes_sum name p = ap nodes_of (sym (rolls-Sum name p)) ∙ fold-roll-Expr ℕ node_count (Expr-F.Sum name p)

nodes_not : (e : Expr) (p : Place) → nodes_of (expr.Not e p) ≡ 1 + nodes_of e
nodes_not e p = ap nodes_of (sym (rolls-Not e p)) ∙ fold-roll-Expr ℕ node_count (Expr-F.Not e p)

nodes_binary : (o : BinOp) (left right : Expr) (p : Place) → nodes_of (expr.Binary o left right p) ≡ 1 + nodes_of left + nodes_of right
nodes_binary o left right p = ap nodes_of (sym (rolls-Binary o left right p)) ∙ fold-roll-Expr ℕ node_count (Expr-F.Binary o left right p)

-- ---- tokens one behind the other

-- no token ends a rule, and behind none may a rule begin
abbrev pub AllStay : List Token → Type 0
AllStay xs = NonePasses leaves_rule xs

nodes_append : (before xs ys : List Token) → nodes_among before (xs ++ ys) ≡ nodes_among before xs + nodes_among (walk before xs) ys
nodes_append before [] ys = omega arith
nodes_append before (x ∷ xs) ys = omega (arith, nodes_append (x ∷ before) xs ys)

-- tokens behind others have so many nodes among them, and end as an operand may
pub record Counted (before xs : List Token) (n : ℕ) : Type 0 where
  pub nodes : nodes_among before xs ≡ n
  pub ends : begins ends_number (walk before xs) ≡ true
  pub stays : AllStay xs

as_many : (before xs : List Token) (m n : ℕ) → n ≡ m → Counted before xs m → Counted before xs n
as_many before xs m n e c = record { nodes = c.nodes ∙ sym e; ends = c.ends; stays = c.stays }

-- a token in front of others
in_front_of : (before : List Token) (t : Token) (xs : List Token) (node : Bool) (n : ℕ) → is_node before t.kind ≡ node
    → leaves_rule t.kind ≡ false → Counted (t ∷ before) xs n → Counted before (t ∷ xs) (one_if node + n)
in_front_of before t xs node n is stays c = record {
  nodes = ap (λ b. one_if b + nodes_among (t ∷ before) xs) is ∙ ap (λ k. one_if node + k) c.nodes;
  ends = c.ends;
  stays = (stays, c.stays);
}

-- a token alone that may end an operand
alone : (before : List Token) (t : Token) (node : Bool) → is_node before t.kind ≡ node → ends_number t.kind ≡ true
    → leaves_rule t.kind ≡ false → Counted before (t ∷ []) (one_if node + 0)
alone before t node is ends stays =
    in_front_of before t [] node 0 is stays (record { nodes = refl; ends = ends; stays = tt })

-- tokens behind others
behind : (before xs ys : List Token) (m n : ℕ) → Counted before xs m → Counted (walk before xs) ys n → Counted before (xs ++ ys) (m + n)
behind before xs ys m n c d = record {
  nodes = nodes_append before xs ys ∙ ap (λ k. k + nodes_among (walk before xs) ys) c.nodes ∙ ap (λ k. m + k) d.nodes;
  ends = ap (begins ends_number) (walk_append before xs ys) ∙ d.ends;
  stays = none_append leaves_rule xs ys c.stays d.stays;
}

-- ---- where an operand begins

-- behind such tokens a name, a number or a minus is where a node stands, in parentheses too
pub record OperandBegins (before : List Token) : Type 0 where
  pub no_operand : begins ends_number before ≡ false
  pub no_dot : begins (is_symbol symbol.Dot) before ≡ false
  pub no_sum : begins (is_word word.Sum) before ≡ false
  pub no_key : behind_sum before ≡ false
  pub no_sign : behind_sign before ≡ false

behind_operator : (before : List Token) (t : Token) → is_operator t.kind ≡ true → begins ends_number before ≡ true → OperandBegins (t ∷ before)
behind_operator before t is ends = record {
  no_operand = operator_no_end t.kind is;
  no_dot = operator_no_dot t.kind is;
  no_sum = operator_no_sum t.kind is;
  no_key = ap (λ b. b && begins (is_word word.Sum) before) (operator_no_paren t.kind is);
  no_sign = and_right (is_symbol symbol.Minus t.kind) (not (begins ends_number before)) (ap not ends);
}

behind_bang : (before : List Token) (t : Token) → IsSymbol symbol.Bang t → OperandBegins (t ∷ before)
behind_bang before t is = record {
  no_operand = ap ends_number is;
  no_dot = ap (is_symbol symbol.Dot) is;
  no_sum = ap (is_word word.Sum) is;
  no_key = ap (λ kind. is_symbol symbol.LeftParen kind && begins (is_word word.Sum) before) is;
  no_sign = ap (λ kind. is_symbol symbol.Minus kind && not (begins ends_number before)) is;
}

behind_paren : (before : List Token) (t : Token) → IsSymbol symbol.LeftParen t → begins (is_word word.Sum) before ≡ false → OperandBegins (t ∷ before)
behind_paren before t is no_sum = record {
  no_operand = ap ends_number is;
  no_dot = ap (is_symbol symbol.Dot) is;
  no_sum = ap (is_word word.Sum) is;
  no_key = ap (λ kind. is_symbol symbol.LeftParen kind && begins (is_word word.Sum) before) is ∙ no_sum;
  no_sign = ap (λ kind. is_symbol symbol.Minus kind && not (begins ends_number before)) is;
}

-- ---- references

-- names behind dots are no nodes
dot_names_counted : (before xs : List Token) (names : List (List ℕ)) → begins ends_number before ≡ true → Repeated SpellsDotName xs names → Counted before xs 0
dot_names_counted before xs names ends None_more = record { nodes = refl; ends = ends; stays = tt }
dot_names_counted before xs names ends (One_more {ys} {items} (refs.Dot_name dot t {name} is named) rs) =
    let dotted : is_symbol symbol.Dot dot.kind ≡ true = ap (is_symbol symbol.Dot) is in
    let no_node : is_node (dot ∷ before) t.kind ≡ false =
    name_node (dot ∷ before) t.kind name named ∙ ap (λ b. not b && not (behind_sum (dot ∷ before))) dotted in
    in_front_of before dot (t ∷ ys) false 0 (ap (is_node before) is) (ap leaves_rule is)
    (in_front_of (dot ∷ before) t ys false 0 no_node (name_stays t.kind name named)
    (dot_names_counted (t ∷ dot ∷ before) ys items (name_ends t.kind name named) rs))

reference_counted : (before xs : List Token) (r : Ref) → OperandBegins before → SpellsRef xs r → Counted before xs 1
reference_counted before xs r here (refs.Reference t {name} {xs = us} {names} named rs) =
    let node : is_node before t.kind ≡ true =
    name_node before t.kind name named ∙ ap (λ b. not b && not (behind_sum before)) here.no_dot ∙ ap not here.no_key in
    in_front_of before t us true 0 node (name_stays t.kind name named)
    (dot_names_counted (t ∷ before) us names (name_ends t.kind name named) rs)

-- ---- operands of numbers

-- where an operand begins, what is spelled has as many nodes among its tokens as its tree
abbrev pub CountsNodes : Spelling Expr → Type 0
CountsNodes R = (before xs : List Token) (e : Expr) → OperandBegins before → R xs e → Counted before xs (nodes_of e)

module _ (Inner : Spelling Expr) (inner : CountsNodes Inner) where
  parentheses_counted : (before : List Token) (left right : Token) (xs : List Token) (e : Expr) → OperandBegins before
      → IsSymbol symbol.LeftParen left → Inner xs e → IsSymbol symbol.RightParen right → Counted before (left ∷ xs ++ right ∷ []) (nodes_of e)
  parentheses_counted before left right xs e here opens r closes =
      let within = inner (left ∷ before) xs e (behind_paren before left opens here.no_sum) r in
      let last = walk (left ∷ before) xs in
      let closed = alone last right false (ap (is_node last) closes) (ap ends_number closes) (ap leaves_rule closes) in
      as_many before (left ∷ xs ++ right ∷ []) (0 + (nodes_of e + 0)) (nodes_of e) (omega arith)
      (in_front_of before left (xs ++ right ∷ []) false (nodes_of e + 0) (ap (is_node before) opens) (ap leaves_rule opens)
      (behind (left ∷ before) xs (right ∷ []) (nodes_of e) 0 within closed))

  negative_counted : (before : List Token) (minus t : Token) (v : ℤ) → OperandBegins before → IsSymbol symbol.Minus minus
      → number_of t.kind ≡ Some v → Counted before (minus ∷ t ∷ []) 1
  negative_counted before minus t v here is number =
      let signed : behind_sign (minus ∷ before) ≡ true =
      ap (λ kind. is_symbol symbol.Minus kind && not (begins ends_number before)) is ∙ ap not here.no_operand in
      in_front_of before minus (t ∷ []) true 0 (ap (is_node before) is) (ap leaves_rule is)
      (alone (minus ∷ before) t false (number_node (minus ∷ before) t.kind v number ∙ ap not signed) (number_ends t.kind v number) (number_stays t.kind v number))

  sum_counted : (before : List Token) (t left key right : Token) (name : List ℕ) → IsWord word.Sum t → IsSymbol symbol.LeftParen left
      → name_of key.kind ≡ Some name → IsSymbol symbol.RightParen right → Counted before (t ∷ left ∷ key ∷ right ∷ []) 1
  sum_counted before t left key right name is opens named closes =
      let b = left ∷ t ∷ before in
      let summed : behind_sum b ≡ true =
      ap (λ kind. is_symbol symbol.LeftParen kind && is_word word.Sum t.kind) opens ∙ ap (is_word word.Sum) is in
      let no_node : is_node b key.kind ≡ false =
      name_node b key.kind name named ∙ ap (λ kind. not (is_symbol symbol.Dot kind) && not (behind_sum b)) opens ∙ ap not summed in
      in_front_of before t (left ∷ key ∷ right ∷ []) true 0 (ap (is_node before) is) (ap leaves_rule is)
      (in_front_of (t ∷ before) left (key ∷ right ∷ []) false 0 (ap (is_node (t ∷ before)) opens) (ap leaves_rule opens)
      (in_front_of b key (right ∷ []) false 0 no_node (name_stays key.kind name named)
      (alone (key ∷ b) right false (ap (is_node (key ∷ b)) closes) (ap ends_number closes) (ap leaves_rule closes))))

  primary_counted : CountsNodes (SpellsPrimary Inner)
  primary_counted before xs e here (exprs.Parentheses left right {xs = us} opens r closes) = parentheses_counted before left right us e here opens r closes
  primary_counted before xs e here (exprs.Literal t {value} is) =
      as_many before xs 1 _ (nodes_number value t.place)
      (alone before t true (number_node before t.kind value is ∙ ap not here.no_sign) (number_ends t.kind value is) (number_stays t.kind value is))
  primary_counted before xs e here (exprs.Negative minus t {value} is number) =
      as_many before xs 1 _ (nodes_number (neg_ℤ value) minus.place) (negative_counted before minus t value here is number)
  primary_counted before xs e here (exprs.Sum t left key right {name} is opens named closes) =
      as_many before xs 1 _ (nodes_sum name t.place) (sum_counted before t left key right name is opens named closes)
  primary_counted before xs e here (exprs.Reference {r} spelled) =
      as_many before xs 1 _ (nodes_name r) (reference_counted before xs r here spelled)

-- ---- operators

-- two operands with an operator between them
binary_counted : (before xs ys : List Token) (t : Token) (o : BinOp) (left right : Expr) → Counted before xs (nodes_of left)
    → is_operator t.kind ≡ true → (OperandBegins (t ∷ walk before xs) → Counted (t ∷ walk before xs) ys (nodes_of right))
    → Counted before (xs ++ t ∷ ys) (nodes_of (expr.Binary o left right t.place))
binary_counted before xs ys t o left right l is r =
    let b = walk before xs in
    as_many before (xs ++ t ∷ ys) (nodes_of left + (1 + nodes_of right)) (nodes_of (expr.Binary o left right t.place))
    (omega (arith, nodes_binary o left right t.place))
    (behind before xs (t ∷ ys) (nodes_of left) (1 + nodes_of right) l
    (in_front_of b t ys true (nodes_of right) (operator_node b t.kind is) (operator_stays t.kind is) (r (behind_operator b t is l.ends))))

grouped_counted : (operators : Operators) → AreOperators operators → (Part : Spelling Expr) → CountsNodes Part → CountsNodes (Grouped operators Part)
grouped_counted operators are Part part before xs e here (exprs.Alone r) = part before xs e here r
grouped_counted operators are Part part before xs e here (exprs.Joined {xs = us} {ys = vs} t {o} {left} {right} g is r) =
    binary_counted before us vs t o left right (grouped_counted operators are Part part before us left here g) (are t.kind o is)
    (λ begins. part (t ∷ walk before us) vs right begins r)

connected_counted : (Part : Spelling Expr) → CountsNodes Part → CountsNodes (Connected Part)
connected_counted Part part =
    grouped_counted iff_operator iff_operators _ (grouped_counted implies_operator implies_operators _
    (grouped_counted or_operator or_operators _ (grouped_counted and_operator and_operators Part part)))

sums_counted : (Inner : Spelling Expr) → CountsNodes Inner → CountsNodes (SpellsSum Inner)
sums_counted Inner inner =
    grouped_counted sum_operator sum_operators _ (grouped_counted product_operator product_operators _ (primary_counted Inner inner))

comparison_counted : (Inner : Spelling Expr) → CountsNodes Inner → CountsNodes (SpellsComparison Inner)
comparison_counted Inner inner before xs e here (exprs.Compared {xs = us} {ys = vs} t {o} {left} {right} l is r) =
    binary_counted before us vs t o left right (sums_counted Inner inner before us left here l) (comparison_operators t.kind o is)
    (λ begins. sums_counted Inner inner (t ∷ walk before us) vs right begins r)
comparison_counted Inner inner before xs e here (exprs.Not_compared s) = sums_counted Inner inner before xs e here s

-- ---- expressions

operand_counted : (Deeper : Spelling Expr) → CountsNodes Deeper → CountsNodes (SpellsOperand Deeper)
operand_counted Deeper deeper before xs e here (exprs.Opposite bang {xs = us} {e = inner} is r) =
    as_many before xs (1 + nodes_of inner) _ (nodes_not inner bang.place)
    (in_front_of before bang us true (nodes_of inner) (ap (is_node before) is) (ap leaves_rule is)
    (deeper (bang ∷ before) us inner (behind_bang before bang is) r))
operand_counted Deeper deeper before xs e here (exprs.Comparison r) =
    comparison_counted (Connected Deeper) (connected_counted Deeper deeper) before xs e here r

operand_within_counted : (depth : ℕ) → CountsNodes (OperandWithin depth)
operand_within_counted zero before xs e here r = absurd r
operand_within_counted (suc depth) before xs e here r = operand_counted (OperandWithin depth) (operand_within_counted depth) before xs e here r

pub expression_counted : CountsNodes SpellsExpr
expression_counted before xs e here r = connected_counted (OperandWithin r.0) (operand_within_counted r.0) before xs e here r.1
