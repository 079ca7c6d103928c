-- What a made rule says: the constraint that its expression is, with a text in front of each name; and that a model may
-- have it.
use Rattle.std.proofs.Common.{◌≡◌, ℕ, ◌+◌, ◌*◌, ◌≤◌, max, List, [], ◌∷◌, ◌++◌, length, map, Option, Some, None, Bool, true, false, not, refl, sym, ap, ◌∙◌, subst, arith, length-append}
use Rattle.std.specs.Prelude.{sum}
use Rattle.std.specs.List.{All, sum_by}
use Rattle.std.specs.Option.{option_map, option_or}
use Rattle.std.proofs.lemmas.List.Sums.{sum-map, sum_by-append}
use Rattle.std.proofs.lemmas.List.Elements.{All-nil, All-cons, All-append}
use Rattle.uvl_ast.specs.declared.expression.BinOp.{BinOp}
use Rattle.uvl_ast.specs.declared.expression.BinOp.TheVariants as op
use Rattle.uvl_ast.specs.declared.expression.Expr.{Expr, roll-Expr}
use Rattle.uvl_ast.specs.declared.expression.Expr.TheOpen.{Expr-F}
use Rattle.uvl_ast.specs.declared.expression.Expr.TheFolds.{fold-roll-Expr, ind-Expr, map-Expr}
use Rattle.uvl_ast.specs.declared.feature.Attribute.{Attribute}
use Rattle.uvl_ast.specs.declared.names.Ref.{Ref}
use Rattle.uvl_ast.specs.Nodes.{node_count, nodes_of}
use Rattle.uvl_ast.specs.Operands.{one_of_truths, right_operands, right_operands_of}
use Rattle.uvl_base.specs.Limits.{most_features, most_right_operands, most_rule_nodes}
use Rattle.uvl_base.specs.declared.fault.FaultKind.TheVariants.{UnknownFeature}
use Rattle.uvl_base.specs.declared.place.Place.{Place}
use Rattle.uvl_model.specs.declared.rows.FeatureNo.{FeatureNo}
use Rattle.uvl_model.specs.declared.rule.Cmp.{Cmp}
use Rattle.uvl_model.specs.declared.rule.Cmp.TheVariants as cmp
use Rattle.uvl_model.specs.declared.rule.Number.{Number}
use Rattle.uvl_model.specs.declared.rule.Rule.{Rule}
use Rattle.uvl_model.specs.declared.rule.Rule.TheVariants as rule
use Rattle.uvl_model.specs.Constraints.{comparison_of, quantity_of}
use Rattle.uvl_model.specs.Constraints as model
use Rattle.uvl_model.specs.Rows.{Rows}
use Rattle.uvl_model.specs.Rules.{IsNumber, IsRule, IsThere, features_of, numbers_of, terms_of}
use Rattle.uvl_model.specs.Rules as rules
use Rattle.uvl_model.specs.Spelling.{numbered}
use Rattle.uvl_model.proofs.Nodes as nodes
use Rattle.uvl_placing.specs.Meaning.{Meaning, meaning_of, meaning_with, of_operator, constraint_of}
use Rattle.uvl_placing.specs.Names.{dotted}
use Rattle.uvl_placing.specs.Options.{of_both}
use Rattle.uvl_resolve.specs.Under.{constraint_under, head_under, quantity_under}
use Rattle.uvl_resolve.specs.steps.Rules.{IsAmong, Made, StandAt, attributes_of_heads, both_of, compared, comparison_by, joined, joined_by, made_of, made_with, names_of_heads, number_of, root_of, truth_by}
use Rattle.uvl_resolve.proofs.Among.{name_at, name_found, there}
use Rattle.uvl_resolve.proofs.Keys.{neither_there}
use Rattle.uvl_resolve.proofs.Numbers.{NumberIsRead, fault_here, is_number, nodes_at, number_node}
use Rattle.uvl_resolve.proofs.RuleNodes as more
use Rattle.uvl_scope.specs.Firsts.{when}
use Rattle.uvl_scope.specs.LineFaults.{finding}
use Rattle.uvl_scope.specs.NumberFaults.{Part, fault_at, fault_of_operator, fault_of_truth, fault_within, part_of}
use Rattle.uvl_scope.specs.Rules.{joins_truths}
use Rattle.uvl_semantics.specs.Constraint.{Constraint, Quantity, selected, negation, conjunction, disjunction, implication, equivalence, comparison}
use Rattle.uvl_semantics.specs.Product.{has}
use Rattle.uvl_semantics.specs.Tree.{Head}

-- how many references, literals and features under sums a rule has
abbrev weight : Rows → Rule → ℕ
weight rows made = length (features_of made) + sum (map (terms_of rows) (numbers_of made))

-- a model of these rows may have a made rule of an expression with so many nodes
pub record MayBe (rows : Rows) (count : ℕ) (made : Rule) : Type 0 where
  pub features : All (IsThere rows) (features_of made)
  pub numbers : All (IsNumber rows) (numbers_of made)
  pub light : weight rows made ≤ most_features * count

module _ (heads : List Head) (offset : ℕ) (some : 1 ≤ length heads) where
  abbrev names : List (List ℕ)
  names = names_of_heads heads

  abbrev attributes : List (List Attribute)
  attributes = attributes_of_heads heads

  abbrev root : List ℕ
  root = root_of heads

  -- what a rule that is made of an expression says
  pub record Reads (e : Expr) : Type 0 where
    pub made : Rule
    pub is : made_of names offset e ≡ Some made
    pub said : Constraint
    pub says : constraint_of root e ≡ Some said
    pub read : (all : List Head) (text : List ℕ) → StandAt all offset text heads → model.constraint_of (names_of_heads all) made ≡ constraint_under text said
    pub may_be : (rows : Rows) (text : List ℕ) → IsAmong rows offset text heads → MayBe rows (nodes_of e) made
    pub shallow : rules.right_operands made ≤ right_operands e

  -- of an expression with which nothing is wrong where a truth is needed
  abbrev IsRead : Expr → Type 0
  IsRead e = fault_within names attributes e true ≡ None → Reads e

  -- an expression is read where a number is needed, and where a truth is
  abbrev BothRead : Expr → Type 0
  BothRead e = NumberIsRead heads offset some e × IsRead e

  abbrev ReadExpr : Type 0
  ReadExpr = (e : Expr) × BothRead e

  both_at : (x : Expr-F Expr) → both_of names offset (roll-Expr x) ≡ made_with names offset (map-Expr Expr Made (both_of names offset) x)
  both_at = fold-roll-Expr Made (made_with names offset)

  made_at : (x : Expr-F Expr) → made_of names offset (roll-Expr x) ≡ (made_with names offset (map-Expr Expr Made (both_of names offset) x)).truth
  made_at x = ap (λ (m : Made). m.truth) (both_at x)

  truth_at : (x : Expr-F Expr) → constraint_of root (roll-Expr x) ≡ (meaning_with root (map-Expr Expr Meaning (meaning_of root) x)).truth
  truth_at x = ap (λ (m : Meaning). m.truth) (fold-roll-Expr Meaning (meaning_with root) x)

  operands_at : (x : Expr-F Expr) → right_operands (roll-Expr x) ≡ right_operands_of (map-Expr Expr ℕ right_operands x)
  operands_at = fold-roll-Expr ℕ right_operands_of

  clean_at : (x : Expr-F Expr) (boolean : Bool)
      → fault_within names attributes (roll-Expr x) boolean ≡ fault_at names attributes (map-Expr Expr Part (part_of names attributes) x) boolean
  clean_at = fault_here heads offset some

  count_at : (x : Expr-F Expr) → nodes_of (roll-Expr x) ≡ node_count (map-Expr Expr ℕ nodes_of x)
  count_at = nodes_at heads offset some

  -- a rule with these features and numbers may be there
  may_of : (rows : Rows) (n : ℕ) (made : Rule) (features : List FeatureNo) (numbers : List Number) → features_of made ≡ features → numbers_of made ≡ numbers
      → All (IsThere rows) features → All (IsNumber rows) numbers → length features + sum (map (terms_of rows) numbers) ≤ most_features * n → MayBe rows n made
  may_of rows n made features numbers f m have_features have_numbers few = record {
    features = subst (All (IsThere rows)) (sym f) have_features;
    numbers = subst (All (IsNumber rows)) (sym m) have_numbers;
    light = omega (arith, ap length f, ap (λ (ms : List Number). sum (map (terms_of rows) ms)) m, few);
  }

  -- a name that isn't unknown is known
  known : (name : List ℕ) (place : Place) → fault_of_truth names name place ≡ None → has names name ≡ true
  known name place none = by (has names name) refl
    where
      by : (b : Bool) → has names name ≡ b → has names name ≡ true
      by true e = e
      by false e =
          let found : fault_of_truth names name place ≡ Some (finding UnknownFeature place) =
          ap (λ (t : Bool). when (not t) (finding UnknownFeature place)) e in
          let both : None ≡ Some (finding UnknownFeature place) = sym none ∙ found in
          absurd cc

  -- a feature
  feature_read : (reference : Ref) → IsRead (roll-Expr (Expr-F.Name reference))
  feature_read reference none =
      let x : Expr-F Expr = Expr-F.Name reference in
      let name = dotted reference.parts in
      let found = name_found name heads (known name reference.place (sym (clean_at x true) ∙ none)) in
      let k = found.number in
      let made : Rule = rule.Feature (numbered (offset + k)) in
      record {
        made = made;
        is = made_at x ∙ ap (option_map (λ (n : ℕ). rule.Feature (numbered (offset + n)))) found.first;
        said = selected name;
        says = truth_at x;
        read = λ all text stands.
            nodes.constraint-Feature (names_of_heads all) (numbered (offset + k))
            ∙ ap selected (name_at all (offset + k) (head_under text found.head) (stands k found.head found.at) ∙ ap (λ (n : List ℕ). text ++ n) found.named);
        may_be = λ rows text among.
            may_of rows (nodes_of (roll-Expr x)) made (numbered (offset + k) ∷ []) [] (nodes.features-Feature (numbered (offset + k))) (more.numbers-Feature (numbered (offset + k)))
            (All-cons (IsThere rows) (numbered (offset + k)) [] (there rows offset text heads among k found.head found.at) (All-nil (IsThere rows)))
            (All-nil (IsNumber rows)) (omega (arith, count_at x));
        shallow = omega (arith, nodes.operands-Feature (numbered (offset + k)), operands_at x);
      }

  -- the opposite
  not_read : (inner : ReadExpr) (place : Place) → IsRead (roll-Expr (Expr-F.Not inner.0 place))
  not_read inner place none =
      let x : Expr-F Expr = Expr-F.Not inner.0 place in
      let below = inner.1.1 (sym (clean_at x true) ∙ none) in
      record {
        made = rule.Not below.made;
        is = made_at x ∙ ap (option_map (λ (r : Rule). rule.Not r)) below.is;
        said = negation below.said;
        says = truth_at x ∙ ap (option_map negation) below.says;
        read = λ all text stands. nodes.constraint-Not (names_of_heads all) below.made ∙ ap negation (below.read all text stands);
        may_be = λ rows text among.
            let inside = below.may_be rows text among in
            may_of rows (nodes_of (roll-Expr x)) (rule.Not below.made) (features_of below.made) (numbers_of below.made) (nodes.features-Not below.made) (more.numbers-Not below.made)
            inside.features inside.numbers (omega (arith, inside.light, count_at x));
        shallow = omega (arith, nodes.operands-Not below.made, operands_at x, below.shallow);
      }

  -- what an operator makes of two rules, and what it says
  record JoinsTruths (o : BinOp) (make : Rule → Rule → Rule) (say : Constraint → Constraint → Constraint) : Type 0 where
    makes : (left right : Rule) → joined_by o left right ≡ Some (make left right)
    none : comparison_by o ≡ None
    says : (left right : Meaning) → (of_operator o left right).truth ≡ of_both say left.truth right.truth
    reads : (all : List (List ℕ)) (left right : Rule) → model.constraint_of all (make left right) ≡ say (model.constraint_of all left) (model.constraint_of all right)
    under : (text : List ℕ) (left right : Constraint) → constraint_under text (say left right) ≡ say (constraint_under text left) (constraint_under text right)
    features : (left right : Rule) → features_of (make left right) ≡ features_of left ++ features_of right
    numbers : (left right : Rule) → numbers_of (make left right) ≡ numbers_of left ++ numbers_of right
    operands : (left right : Rule) → rules.right_operands (make left right) ≡ max (rules.right_operands left) (rules.right_operands right + 1)
    joins : joins_truths o ≡ true
    one : one_of_truths o ≡ 1

  -- nothing is wrong with the operands of an operator with which nothing is wrong
  operands_clean : (o : BinOp) (left right : Expr) (place : Place) (boolean : Bool) → fault_within names attributes (roll-Expr (Expr-F.Binary o left right place)) boolean ≡ None
      → (fault_within names attributes left (joins_truths o) ≡ None) × (fault_within names attributes right (joins_truths o) ≡ None)
      × (fault_of_operator o (part_of names attributes left).factor (part_of names attributes right).factor place boolean ≡ None)
  operands_clean o left right place boolean none =
      let x : Expr-F Expr = Expr-F.Binary o left right place in
      let lp = part_of names attributes left in
      let rp = part_of names attributes right in
      let parts = neither_there (lp.fault (joins_truths o)) (option_or (fault_of_operator o lp.factor rp.factor place boolean) (rp.fault (joins_truths o))) (sym (clean_at x boolean) ∙ none) in
      let behind = neither_there (fault_of_operator o lp.factor rp.factor place boolean) (rp.fault (joins_truths o)) parts.1 in
      (parts.0, behind.1, behind.0)

  -- an operator that joins truths
  joined_read : (o : BinOp) (make : Rule → Rule → Rule) (say : Constraint → Constraint → Constraint) → JoinsTruths o make say
      → (left right : ReadExpr) (place : Place) → IsRead (roll-Expr (Expr-F.Binary o left.0 right.0 place))
  joined_read o make say by left right place none =
      let x : Expr-F Expr = Expr-F.Binary o left.0 right.0 place in
      let clean = operands_clean o left.0 right.0 place true none in
      let l = left.1.1 (ap (fault_within names attributes left.0) (sym by.joins) ∙ clean.0) in
      let r = right.1.1 (ap (fault_within names attributes right.0) (sym by.joins) ∙ clean.1) in
      record {
        made = make l.made r.made;
        is = made_at x ∙ ap (λ (c : Option Cmp). truth_by c o (both_of names offset left.0) (both_of names offset right.0)) by.none
            ∙ ap (λ (a : Option Rule). joined o a (made_of names offset right.0)) l.is ∙ ap (joined o (Some l.made)) r.is ∙ by.makes l.made r.made;
        said = say l.said r.said;
        says = truth_at x ∙ by.says (meaning_of root left.0) (meaning_of root right.0)
            ∙ ap (λ (t : Option Constraint). of_both say t (constraint_of root right.0)) l.says ∙ ap (of_both say (Some l.said)) r.says;
        read = λ all text stands.
            by.reads (names_of_heads all) l.made r.made
            ∙ ap (λ (c : Constraint). say c (model.constraint_of (names_of_heads all) r.made)) (l.read all text stands)
            ∙ ap (say (constraint_under text l.said)) (r.read all text stands)
            ∙ sym (by.under text l.said r.said);
        may_be = λ rows text among.
            let lm = l.may_be rows text among in
            let rm = r.may_be rows text among in
            let count : sum (map (terms_of rows) (numbers_of l.made ++ numbers_of r.made)) ≡ sum (map (terms_of rows) (numbers_of l.made)) + sum (map (terms_of rows) (numbers_of r.made)) =
            sum-map (terms_of rows) (numbers_of l.made ++ numbers_of r.made) ∙ sum_by-append (terms_of rows) (numbers_of l.made) (numbers_of r.made)
            ∙ sym (ap (λ (n : ℕ). n + sum (map (terms_of rows) (numbers_of r.made))) (sum-map (terms_of rows) (numbers_of l.made))
            ∙ ap (λ (n : ℕ). sum_by (terms_of rows) (numbers_of l.made) + n) (sum-map (terms_of rows) (numbers_of r.made))) in
            may_of rows (nodes_of (roll-Expr x)) (make l.made r.made) (features_of l.made ++ features_of r.made) (numbers_of l.made ++ numbers_of r.made)
            (by.features l.made r.made) (by.numbers l.made r.made)
            (All-append (IsThere rows) (features_of l.made) (features_of r.made) lm.features rm.features)
            (All-append (IsNumber rows) (numbers_of l.made) (numbers_of r.made) lm.numbers rm.numbers)
            (omega (arith, lm.light, rm.light, count_at x, count, length-append (features_of l.made) (features_of r.made)));
        shallow = omega (arith, by.operands l.made r.made, operands_at x, by.one, l.shallow, r.shallow);
      }

  -- how an operator compares
  record ComparesSo (o : BinOp) (how : Cmp) : Type 0 where
    compares : comparison_by o ≡ Some how
    says : (left right : Meaning) → (of_operator o left right).truth ≡ of_both (comparison (comparison_of how)) left.number right.number
    joins : joins_truths o ≡ false

  -- an operator that compares numbers
  compared_read : (o : BinOp) (how : Cmp) → ComparesSo o how → (left right : ReadExpr) (place : Place) → IsRead (roll-Expr (Expr-F.Binary o left.0 right.0 place))
  compared_read o how by left right place none =
      let x : Expr-F Expr = Expr-F.Binary o left.0 right.0 place in
      let clean = operands_clean o left.0 right.0 place true none in
      let l = left.1.0 (ap (fault_within names attributes left.0) (sym by.joins) ∙ clean.0) in
      let r = right.1.0 (ap (fault_within names attributes right.0) (sym by.joins) ∙ clean.1) in
      let say = comparison (comparison_of how) in
      let made : Rule = rule.Compare how l.made r.made in
      record {
        made = made;
        is = made_at x ∙ ap (λ (c : Option Cmp). truth_by c o (both_of names offset left.0) (both_of names offset right.0)) by.compares
            ∙ ap (λ (a : Option Number). compared how a (number_of names offset right.0)) l.is ∙ ap (compared how (Some l.made)) r.is;
        said = say l.said r.said;
        says = truth_at x ∙ by.says (meaning_of root left.0) (meaning_of root right.0)
            ∙ ap (λ (q : Option Quantity). of_both say q (meaning_of root right.0).number) l.says ∙ ap (of_both say (Some l.said)) r.says;
        read = λ all text stands.
            more.constraint-Compare (names_of_heads all) how l.made r.made
            ∙ ap (λ (q : Quantity). say q (quantity_of (names_of_heads all) r.made)) (l.read all text stands)
            ∙ ap (say (quantity_under text l.said)) (r.read all text stands);
        may_be = λ rows text among.
            let lm = l.may_be rows text among in
            let rm = r.may_be rows text among in
            may_of rows (nodes_of (roll-Expr x)) made [] (l.made ∷ r.made ∷ []) (more.features-Compare how l.made r.made) (more.numbers-Compare how l.made r.made)
            (All-nil (IsThere rows))
            (All-cons (IsNumber rows) l.made (r.made ∷ []) (is_number heads offset some rows left.0 l text among)
            (All-cons (IsNumber rows) r.made [] (is_number heads offset some rows right.0 r text among) (All-nil (IsNumber rows))))
            (omega (arith, lm.light, rm.light, count_at x));
        shallow = omega (arith, more.operands-Compare how l.made r.made);
      }

  -- another operator makes no truth
  none_read : (o : BinOp) (left right : Expr) (place : Place) → ((l r : Part) (p : Place) → fault_of_operator o l.factor r.factor p true ≡ None → ⊥)
      → IsRead (roll-Expr (Expr-F.Binary o left right place))
  none_read o left right place wrong none =
      absurd (wrong (part_of names attributes left) (part_of names attributes right) place (operands_clean o left right place true none).2)

  binary_read : (o : BinOp) (left right : ReadExpr) (place : Place) → IsRead (roll-Expr (Expr-F.Binary o left.0 right.0 place))
  binary_read op.And left right place = joined_read op.And rule.And conjunction (record {
    makes = λ l r. refl;
    none = refl;
    says = λ l r. refl;
    reads = nodes.constraint-And;
    under = λ t l r. refl;
    features = nodes.features-And;
    numbers = more.numbers-And;
    operands = nodes.operands-And;
    joins = refl;
    one = refl;
  }) left right place
  binary_read op.Or left right place = joined_read op.Or rule.Or disjunction (record {
    makes = λ l r. refl;
    none = refl;
    says = λ l r. refl;
    reads = nodes.constraint-Or;
    under = λ t l r. refl;
    features = nodes.features-Or;
    numbers = more.numbers-Or;
    operands = nodes.operands-Or;
    joins = refl;
    one = refl;
  }) left right place
  binary_read op.Implies left right place = joined_read op.Implies rule.Implies implication (record {
    makes = λ l r. refl;
    none = refl;
    says = λ l r. refl;
    reads = nodes.constraint-Implies;
    under = λ t l r. refl;
    features = nodes.features-Implies;
    numbers = more.numbers-Implies;
    operands = nodes.operands-Implies;
    joins = refl;
    one = refl;
  }) left right place
  binary_read op.Iff left right place = joined_read op.Iff rule.Iff equivalence (record {
    makes = λ l r. refl;
    none = refl;
    says = λ l r. refl;
    reads = nodes.constraint-Iff;
    under = λ t l r. refl;
    features = nodes.features-Iff;
    numbers = more.numbers-Iff;
    operands = nodes.operands-Iff;
    joins = refl;
    one = refl;
  }) left right place
  binary_read op.Equal left right place = compared_read op.Equal cmp.Equal (record { compares = refl; says = λ l r. refl; joins = refl }) left right place
  binary_read op.Differs left right place = compared_read op.Differs cmp.Differs (record { compares = refl; says = λ l r. refl; joins = refl }) left right place
  binary_read op.Less left right place = compared_read op.Less cmp.Less (record { compares = refl; says = λ l r. refl; joins = refl }) left right place
  binary_read op.AtMost left right place = compared_read op.AtMost cmp.AtMost (record { compares = refl; says = λ l r. refl; joins = refl }) left right place
  binary_read op.Greater left right place = compared_read op.Greater cmp.Greater (record { compares = refl; says = λ l r. refl; joins = refl }) left right place
  binary_read op.AtLeast left right place = compared_read op.AtLeast cmp.AtLeast (record { compares = refl; says = λ l r. refl; joins = refl }) left right place
  binary_read op.Plus left right place = none_read op.Plus left.0 right.0 place (λ l r p h. (cc h))
  binary_read op.Minus left right place = none_read op.Minus left.0 right.0 place (λ l r p h. (cc h))
  binary_read op.Times left right place = none_read op.Times left.0 right.0 place (λ l r p h. (cc h))

  node : (y : Expr-F ReadExpr) → BothRead (roll-Expr (map-Expr ReadExpr Expr (λ e. e.0) y))
  node (Expr-F.Number value place) = (
    number_node heads offset some (Expr-F.Number value place),
    λ none. (cc (sym (clean_at (Expr-F.Number value place) true) ∙ none)),
  )
  node (Expr-F.Name reference) = (number_node heads offset some (Expr-F.Name reference), feature_read reference)
  node (Expr-F.Sum key place) = (
    number_node heads offset some (Expr-F.Sum key place),
    λ none. (cc (sym (clean_at (Expr-F.Sum key place) true) ∙ none)),
  )
  node (Expr-F.Not operand place) = (number_node heads offset some (Expr-F.Not (operand.0, operand.1.0) place), not_read operand place)
  node (Expr-F.Binary operator left right place) = (
    number_node heads offset some (Expr-F.Binary operator (left.0, left.1.0) (right.0, right.1.0) place),
    binary_read operator left right place,
  )

  pub all_read : (e : Expr) → BothRead e
  all_read = ind-Expr BothRead (λ x y is. subst (λ (z : Expr-F Expr). BothRead (roll-Expr z)) is (node y))

  -- an expression with which nothing is wrong is made a rule that says what the expression does
  pub rule_read : (e : Expr) → fault_within names attributes e true ≡ None → Reads e
  rule_read e = (all_read e).1

  -- which a model may have
  pub may_be_rule : (e : Expr) (h : Reads e) (rows : Rows) (text : List ℕ) → IsAmong rows offset text heads → nodes_of e ≤ most_rule_nodes
      → right_operands e ≤ most_right_operands → IsRule rows h.made
  may_be_rule e h rows text among few shallow =
      let may = h.may_be rows text among in
      record {
        features = may.features;
        numbers = may.numbers;
        light = omega (arith, may.light, few);
        shallow = omega (arith, h.shallow, shallow);
      }
