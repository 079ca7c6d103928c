-- The numbers of a rule's parts are ones that a model may have, where those of the rule are.
use Rattle.std.proofs.Common.{◌≡◌, ◌+◌, ◌<◌, ◌≤◌, List, [], ◌∷◌, ◌++◌, Some, get_or, length, ap, sym, ◌∙◌, subst, arith}
use Rattle.std.specs.Borrow.{Bor}
use Rattle.std.specs.List.{All}
use Rattle.std.specs.Prelude.{sum, map}
use Rattle.std.proofs.lemmas.List.{map-append}
use Rattle.std.proofs.lemmas.List.Elements.{All-cons, All-nil, All-head, All-tail}
use Rattle.dd_store.specs.declared.row.Var.{Var}
use Rattle.dd_store.specs.Order.{IsIn}
use Rattle.dd_store.specs.Table.{Table}
use Rattle.uvl_functions.specs.Variables.{HasVariables}
use Rattle.uvl_model.specs.declared.rule.Cmp.{Cmp}
use Rattle.uvl_model.specs.declared.rule.Number.{Number}
use Rattle.uvl_model.specs.declared.rule.Rule.{Rule}
use Rattle.uvl_model.specs.declared.rule.Rule.TheOpen.{Rule-F}
use Rattle.uvl_model.specs.declared.rule.Rule.TheVariants as rule
use Rattle.uvl_model.specs.declared.rule.Rule.TheViews.{out-Rule, roll-Rule, roll-out-Rule}
use Rattle.uvl_model.specs.Amounts.{IsReadable}
use Rattle.uvl_model.specs.Rows.{Rows}
use Rattle.uvl_model.specs.Rules.{IsNumber, numbers_of, terms_of}
use Rattle.uvl_model.proofs.Everywhere.{all_front, all_rest}
use Rattle.uvl_model.proofs.RuleSteps.{numbers-Compare, not_readable, and_readable, or_readable, implies_readable, iff_readable}
use Rattle.uvl_rule.specs.Comparisons.{AreSides}
use Rattle.uvl_rule.specs.Run.{nodes_or_none, right_node, right_operand, weight}
use Rattle.uvl_rule.specs.Spine.{IsSpine, left_node, left_operand, rules_at}

-- the variables stay a model's where the order does
pub variables-kept : (t u : Table) (rows : Rows) (vars : List Var) → u.order ≡ t.order → HasVariables t rows vars → HasVariables u rows vars
variables-kept t u rows vars same has = record {
  count = has.count;
  there = subst (λ (vs : List Var). All (λ (v : Var). IsIn vs v.0) vars) (sym same) has.there;
  distinct = has.distinct;
}

module _ (rows : Rows) where
  -- the left operand
  left-node : (x : Rule-F Rule) (left : Rule) → left_node x ≡ Some left → IsReadable rows (roll-Rule x) → IsReadable rows left
  left-node (Rule-F.Feature f) left of is = absurd (cc)
  left-node (Rule-F.Not p) left of is =
      let same : p ≡ left = cc in
      subst (IsReadable rows) same (not_readable rows (roll-Rule (Rule-F.Not p)) p (rule.rolls-Not p) is)
  left-node (Rule-F.And l r) left of is =
      let same : l ≡ left = cc in
      subst (IsReadable rows) same (and_readable rows (roll-Rule (Rule-F.And l r)) l r (rule.rolls-And l r) is).0
  left-node (Rule-F.Or l r) left of is =
      let same : l ≡ left = cc in
      subst (IsReadable rows) same (or_readable rows (roll-Rule (Rule-F.Or l r)) l r (rule.rolls-Or l r) is).0
  left-node (Rule-F.Implies l r) left of is =
      let same : l ≡ left = cc in
      subst (IsReadable rows) same (implies_readable rows (roll-Rule (Rule-F.Implies l r)) l r (rule.rolls-Implies l r) is).0
  left-node (Rule-F.Iff l r) left of is =
      let same : l ≡ left = cc in
      subst (IsReadable rows) same (iff_readable rows (roll-Rule (Rule-F.Iff l r)) l r (rule.rolls-Iff l r) is).0
  left-node (Rule-F.Compare how l r) left of is = absurd (cc)

  pub left-readable : (node left : Rule) → left_operand node ≡ Some left → IsReadable rows node → IsReadable rows left
  left-readable node left of is = left-node (out-Rule node) left of (subst (IsReadable rows) (sym (roll-out-Rule node)) is)

  -- the right operand
  right-node : (x : Rule-F Rule) (right : Rule) → right_node x ≡ Some right → IsReadable rows (roll-Rule x) → IsReadable rows right
  right-node (Rule-F.Feature f) right of is = absurd (cc)
  right-node (Rule-F.Not p) right of is = absurd (cc)
  right-node (Rule-F.And l r) right of is =
      let same : r ≡ right = cc in
      subst (IsReadable rows) same (and_readable rows (roll-Rule (Rule-F.And l r)) l r (rule.rolls-And l r) is).1
  right-node (Rule-F.Or l r) right of is =
      let same : r ≡ right = cc in
      subst (IsReadable rows) same (or_readable rows (roll-Rule (Rule-F.Or l r)) l r (rule.rolls-Or l r) is).1
  right-node (Rule-F.Implies l r) right of is =
      let same : r ≡ right = cc in
      subst (IsReadable rows) same (implies_readable rows (roll-Rule (Rule-F.Implies l r)) l r (rule.rolls-Implies l r) is).1
  right-node (Rule-F.Iff l r) right of is =
      let same : r ≡ right = cc in
      subst (IsReadable rows) same (iff_readable rows (roll-Rule (Rule-F.Iff l r)) l r (rule.rolls-Iff l r) is).1
  right-node (Rule-F.Compare how l r) right of is = absurd (cc)

  pub right-readable : (node right : Rule) → right_operand node ≡ Some right → IsReadable rows node → IsReadable rows right
  right-readable node right of is = right-node (out-Rule node) right of (subst (IsReadable rows) (sym (roll-out-Rule node)) is)

  -- what stands on a spine
  pub spine-readable : (nodes : List Rule) (part rule : Rule) → IsSpine nodes part rule → IsReadable rows rule → IsReadable rows part
  spine-readable [] part rule same is = subst (IsReadable rows) (sym same) is
  spine-readable (node ∷ nodes) part rule (same, (left, of, rest)) is =
      spine-readable nodes part left rest (left-readable node left of (subst (IsReadable rows) (sym same) is))

  -- and all its nodes
  pub nodes-readable : (nodes : List Rule) (part rule : Rule) → IsSpine nodes part rule → IsReadable rows rule → All (IsReadable rows) nodes
  nodes-readable [] part rule spine is = All-nil (IsReadable rows)
  nodes-readable (node ∷ nodes) part rule (same, (left, of, rest)) is =
      let here = subst (IsReadable rows) (sym same) is in
      All-cons (IsReadable rows) node nodes here (nodes-readable nodes part left rest (left-readable node left of here))

  -- of two parts of a run
  pub parts-readable : (run front back : List (Bor Rule)) → run ≡ front ++ back → All (IsReadable rows) (rules_at run)
      → All (IsReadable rows) (rules_at front) × All (IsReadable rows) (rules_at back)
  parts-readable run front back parts all =
      let both = subst (λ (rs : List Rule). All (IsReadable rows) rs)
      (ap rules_at parts ∙ map-append (λ (n : Bor Rule). n.now) front back) all in
      (all_front (IsReadable rows) (rules_at front) (rules_at back) both, all_rest (IsReadable rows) (rules_at front) (rules_at back) both)

  -- the first node of a run
  pub first-readable : (run : List (Bor Rule)) (first : Bor Rule) → first ≡ get_or run 0 first → 0 < length run → All (IsReadable rows) (rules_at run)
      → IsReadable rows first.now
  first-readable [] first is some all = absurd (omega arith)
  first-readable (node ∷ nodes) first is some all =
      subst (λ (n : Bor Rule). IsReadable rows n.now) (sym is) (All-head (IsReadable rows) node.now (rules_at nodes) all)

  -- the sides of a comparison
  pub sides-readable : (x : Rule) (how : Cmp) (l r : Number) → x ≡ rule.Compare how l r → IsReadable rows x → AreSides rows l r
  sides-readable x how l r e is =
      let same = ap numbers_of e ∙ numbers-Compare how l r in
      let all = subst (λ (ns : List Number). All (IsNumber rows) ns) same is.numbers in
      let total : sum (map (terms_of rows) (numbers_of x)) ≡ 0 + terms_of rows l + terms_of rows r = ap (λ (ns : List Number). sum (map (terms_of rows) ns)) same in
      record {
        left_is = All-head (IsNumber rows) l (r ∷ []) all;
        right_is = All-head (IsNumber rows) r [] (All-tail (IsNumber rows) l (r ∷ []) all);
        few = omega (arith, is.few, total);
      }

-- the right operand of the first node is within the run
pub first-light : (run : List (Bor Rule)) (first : Bor Rule) → first ≡ get_or run 0 first → 0 < length run
    → 1 + nodes_or_none (right_operand first.now) ≤ weight (rules_at run)
first-light [] first is some = absurd (omega arith)
first-light (node ∷ nodes) first is some = let same = ap (λ (n : Bor Rule). nodes_or_none (right_operand n.now)) is in omega arith
