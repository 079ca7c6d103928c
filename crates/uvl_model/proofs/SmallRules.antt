-- A rule without comparisons has no numbers, and no more references than nodes.
use Rattle.std.proofs.Common.{◌≡◌, ℕ, ◌+◌, ◌≤◌, Bool, true, ◌&&◌, List, [], ◌++◌, map, length, refl, sym, ap, ◌∙◌, subst, length-append, arith}
use Rattle.std.specs.Prelude.{IsTrue, sum}
use Rattle.std.specs.List.{All}
use Rattle.std.proofs.lemmas.Bool.{and_parts, false≢true}
use Rattle.std.proofs.lemmas.List.Elements.{All-nil}
use Rattle.uvl_base.specs.Limits.{most_rule_nodes, most_right_operands}
use Rattle.uvl_model.specs.declared.rows.FeatureNo.{FeatureNo}
use Rattle.uvl_model.specs.declared.rule.Number.{Number}
use Rattle.uvl_model.specs.declared.rule.Rule.{Rule}
use Rattle.uvl_model.specs.declared.rule.Rule.TheFolds.{fold-roll-Rule, ind-Rule, map-Rule}
use Rattle.uvl_model.specs.declared.rule.Rule.TheOpen.{Rule-F}
use Rattle.uvl_model.specs.declared.rule.Rule.TheViews.{roll-Rule}
use Rattle.uvl_model.specs.Comparisons.{boolean_node, has_no_comparison}
use Rattle.uvl_model.specs.Rows.{Rows}
use Rattle.uvl_model.specs.Rules.{IsNumber, IsRule, IsThere, features_node, features_of, nodes_node, nodes_of, numbers_node, numbers_of, right_operands, terms_of}

-- what a rule without comparisons has
abbrev IsSmall : Rule → Type 0
IsSmall rule = has_no_comparison rule ≡ true → (numbers_of rule ≡ []) × (length (features_of rule) ≤ nodes_of rule)

abbrev SmallRule : Type 0
SmallRule = (rule : Rule) × IsSmall rule

boolean : (x : Rule-F Rule) → has_no_comparison (roll-Rule x) ≡ boolean_node (map-Rule Rule Bool has_no_comparison x)
boolean = fold-roll-Rule Bool boolean_node

features : (x : Rule-F Rule) → features_of (roll-Rule x) ≡ features_node (map-Rule Rule (List FeatureNo) features_of x)
features = fold-roll-Rule (List FeatureNo) features_node

numbers : (x : Rule-F Rule) → numbers_of (roll-Rule x) ≡ numbers_node (map-Rule Rule (List Number) numbers_of x)
numbers = fold-roll-Rule (List Number) numbers_node

nodes : (x : Rule-F Rule) → nodes_of (roll-Rule x) ≡ nodes_node (map-Rule Rule ℕ nodes_of x)
nodes = fold-roll-Rule ℕ nodes_node

-- an operator with two operands
both : (x : Rule-F Rule) (l r : SmallRule) → has_no_comparison (roll-Rule x) ≡ (has_no_comparison l.0 && has_no_comparison r.0)
    → numbers_of (roll-Rule x) ≡ numbers_of l.0 ++ numbers_of r.0 → features_of (roll-Rule x) ≡ features_of l.0 ++ features_of r.0
    → nodes_of (roll-Rule x) ≡ 1 + nodes_of l.0 + nodes_of r.0 → IsSmall (roll-Rule x)
both x l r b m f n none =
    let parts = and_parts _ _ (sym b ∙ none) in
    let left = l.1 parts.0 in
    let right = r.1 parts.1 in
    let count : length (features_of (roll-Rule x)) ≡ length (features_of l.0) + length (features_of r.0) =
    ap length f ∙ length-append (features_of l.0) (features_of r.0) in
    (m ∙ rw (left.0, right.0) refl, omega (arith, count, n, left.1, right.1))

node : (y : Rule-F SmallRule) → IsSmall (roll-Rule (map-Rule SmallRule Rule (λ e. e.0) y))
node (Rule-F.Feature f) none =
    let x = Rule-F.Feature f in
    (numbers x, omega (arith, ap length (features x), nodes x))
node (Rule-F.Not operand) none =
    let x = Rule-F.Not operand.0 in
    let below = operand.1 (sym (boolean x) ∙ none) in
    (numbers x ∙ below.0, omega (arith, ap length (features x), nodes x, below.1))
node (Rule-F.And l r) none = let x = Rule-F.And l.0 r.0 in both x l r (boolean x) (numbers x) (features x) (nodes x) none
node (Rule-F.Or l r) none = let x = Rule-F.Or l.0 r.0 in both x l r (boolean x) (numbers x) (features x) (nodes x) none
node (Rule-F.Implies l r) none = let x = Rule-F.Implies l.0 r.0 in both x l r (boolean x) (numbers x) (features x) (nodes x) none
node (Rule-F.Iff l r) none = let x = Rule-F.Iff l.0 r.0 in both x l r (boolean x) (numbers x) (features x) (nodes x) none
node (Rule-F.Compare how l r) none = absurd (false≢true (sym (boolean (Rule-F.Compare how l r)) ∙ none))

is_small : (rule : Rule) → IsSmall rule
is_small = ind-Rule IsSmall (λ x y is. subst (λ (z : Rule-F Rule). IsSmall (roll-Rule z)) is (node y))

-- so it may be in a model within the limits on rules
pub small_rule : (rows : Rows) (rule : Rule) → IsTrue (has_no_comparison rule) → All (IsThere rows) (features_of rule)
    → nodes_of rule ≤ most_rule_nodes → right_operands rule ≤ most_right_operands → IsRule rows rule
small_rule rows rule none there few shallow =
    let small = is_small rule none in
    let no_terms : sum (map (terms_of rows) (numbers_of rule)) ≡ 0 = ap (λ ns. sum (map (terms_of rows) ns)) small.0 in
    record {
      features = there;
      numbers = subst (λ (ns : List Number). All (IsNumber rows) ns) (sym small.0) (All-nil (IsNumber rows));
      light = omega (arith, no_terms, small.1);
      shallow = shallow;
    }
