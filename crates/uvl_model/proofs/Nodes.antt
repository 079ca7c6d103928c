-- What the nodes of rules say, name and count, variant by variant.
use Rattle.std.proofs.Common.{◌≡◌, ℕ, ◌+◌, max, Bool, true, ◌&&◌, List, [], ◌∷◌, ◌++◌, sym, ap, ◌∙◌}
use Rattle.uvl_model.specs.declared.rows.FeatureNo.{FeatureNo}
use Rattle.uvl_model.specs.declared.rule.Rule.{Rule}
use Rattle.uvl_model.specs.declared.rule.Rule.TheFolds.{fold-roll-Rule}
use Rattle.uvl_model.specs.declared.rule.Rule.TheOpen.{Rule-F}
use Rattle.uvl_model.specs.declared.rule.Rule.TheVariants as rule
use Rattle.uvl_model.specs.Comparisons.{boolean_node, has_no_comparison}
use Rattle.uvl_model.specs.Constraints.{constraint_node, constraint_of}
use Rattle.uvl_model.specs.Names.{name_of}
use Rattle.uvl_model.specs.Rules.{features_node, features_of, nodes_node, nodes_of, operands_node, right_operands}
use Rattle.uvl_semantics.specs.Constraint.{Constraint, selected, negation, conjunction, disjunction, implication, equivalence}

module _ (names : List (List ℕ)) where
  pub constraint-Feature : (f : FeatureNo) → constraint_of names (rule.Feature f) ≡ selected (name_of names f)
  constraint-Feature f =
      ap (constraint_of names) (sym (rule.rolls-Feature f)) ∙ fold-roll-Rule Constraint (constraint_node names) (Rule-F.Feature f)

  pub constraint-Not : (operand : Rule) → constraint_of names (rule.Not operand) ≡ negation (constraint_of names operand)
  constraint-Not operand =
      ap (constraint_of names) (sym (rule.rolls-Not operand)) ∙ fold-roll-Rule Constraint (constraint_node names) (Rule-F.Not operand)

  pub constraint-And : (left right : Rule) → constraint_of names (rule.And left right) ≡ conjunction (constraint_of names left) (constraint_of names right)
  constraint-And left right =
      ap (constraint_of names) (sym (rule.rolls-And left right)) ∙ fold-roll-Rule Constraint (constraint_node names) (Rule-F.And left right)

  pub constraint-Or : (left right : Rule) → constraint_of names (rule.Or left right) ≡ disjunction (constraint_of names left) (constraint_of names right)
  constraint-Or left right =
      ap (constraint_of names) (sym (rule.rolls-Or left right)) ∙ fold-roll-Rule Constraint (constraint_node names) (Rule-F.Or left right)

  pub constraint-Implies : (left right : Rule) → constraint_of names (rule.Implies left right) ≡ implication (constraint_of names left) (constraint_of names right)
  constraint-Implies left right =
      ap (constraint_of names) (sym (rule.rolls-Implies left right)) ∙ fold-roll-Rule Constraint (constraint_node names) (Rule-F.Implies left right)

  pub constraint-Iff : (left right : Rule) → constraint_of names (rule.Iff left right) ≡ equivalence (constraint_of names left) (constraint_of names right)
  constraint-Iff left right =
      ap (constraint_of names) (sym (rule.rolls-Iff left right)) ∙ fold-roll-Rule Constraint (constraint_node names) (Rule-F.Iff left right)

pub features-Feature : (f : FeatureNo) → features_of (rule.Feature f) ≡ f ∷ []
features-Feature f = ap features_of (sym (rule.rolls-Feature f)) ∙ fold-roll-Rule (List FeatureNo) features_node (Rule-F.Feature f)

pub features-Not : (operand : Rule) → features_of (rule.Not operand) ≡ features_of operand
features-Not operand = ap features_of (sym (rule.rolls-Not operand)) ∙ fold-roll-Rule (List FeatureNo) features_node (Rule-F.Not operand)

pub features-And : (left right : Rule) → features_of (rule.And left right) ≡ features_of left ++ features_of right
features-And left right = ap features_of (sym (rule.rolls-And left right)) ∙ fold-roll-Rule (List FeatureNo) features_node (Rule-F.And left right)

pub features-Or : (left right : Rule) → features_of (rule.Or left right) ≡ features_of left ++ features_of right
features-Or left right = ap features_of (sym (rule.rolls-Or left right)) ∙ fold-roll-Rule (List FeatureNo) features_node (Rule-F.Or left right)

pub features-Implies : (left right : Rule) → features_of (rule.Implies left right) ≡ features_of left ++ features_of right
features-Implies left right = ap features_of (sym (rule.rolls-Implies left right)) ∙ fold-roll-Rule (List FeatureNo) features_node (Rule-F.Implies left right)

pub features-Iff : (left right : Rule) → features_of (rule.Iff left right) ≡ features_of left ++ features_of right
features-Iff left right = ap features_of (sym (rule.rolls-Iff left right)) ∙ fold-roll-Rule (List FeatureNo) features_node (Rule-F.Iff left right)

pub boolean-Feature : (f : FeatureNo) → has_no_comparison (rule.Feature f) ≡ true
boolean-Feature f = ap has_no_comparison (sym (rule.rolls-Feature f)) ∙ fold-roll-Rule Bool boolean_node (Rule-F.Feature f)

pub boolean-Not : (operand : Rule) → has_no_comparison (rule.Not operand) ≡ has_no_comparison operand
boolean-Not operand = ap has_no_comparison (sym (rule.rolls-Not operand)) ∙ fold-roll-Rule Bool boolean_node (Rule-F.Not operand)

pub boolean-And : (left right : Rule) → has_no_comparison (rule.And left right) ≡ (has_no_comparison left && has_no_comparison right)
boolean-And left right = ap has_no_comparison (sym (rule.rolls-And left right)) ∙ fold-roll-Rule Bool boolean_node (Rule-F.And left right)

pub boolean-Or : (left right : Rule) → has_no_comparison (rule.Or left right) ≡ (has_no_comparison left && has_no_comparison right)
boolean-Or left right = ap has_no_comparison (sym (rule.rolls-Or left right)) ∙ fold-roll-Rule Bool boolean_node (Rule-F.Or left right)

pub boolean-Implies : (left right : Rule) → has_no_comparison (rule.Implies left right) ≡ (has_no_comparison left && has_no_comparison right)
boolean-Implies left right = ap has_no_comparison (sym (rule.rolls-Implies left right)) ∙ fold-roll-Rule Bool boolean_node (Rule-F.Implies left right)

pub boolean-Iff : (left right : Rule) → has_no_comparison (rule.Iff left right) ≡ (has_no_comparison left && has_no_comparison right)
boolean-Iff left right = ap has_no_comparison (sym (rule.rolls-Iff left right)) ∙ fold-roll-Rule Bool boolean_node (Rule-F.Iff left right)

pub nodes-Feature : (f : FeatureNo) → nodes_of (rule.Feature f) ≡ 1
nodes-Feature f = ap nodes_of (sym (rule.rolls-Feature f)) ∙ fold-roll-Rule ℕ nodes_node (Rule-F.Feature f)

pub nodes-Not : (operand : Rule) → nodes_of (rule.Not operand) ≡ 1 + nodes_of operand
nodes-Not operand = ap nodes_of (sym (rule.rolls-Not operand)) ∙ fold-roll-Rule ℕ nodes_node (Rule-F.Not operand)

pub nodes-And : (left right : Rule) → nodes_of (rule.And left right) ≡ 1 + nodes_of left + nodes_of right
nodes-And left right = ap nodes_of (sym (rule.rolls-And left right)) ∙ fold-roll-Rule ℕ nodes_node (Rule-F.And left right)

pub nodes-Or : (left right : Rule) → nodes_of (rule.Or left right) ≡ 1 + nodes_of left + nodes_of right
nodes-Or left right = ap nodes_of (sym (rule.rolls-Or left right)) ∙ fold-roll-Rule ℕ nodes_node (Rule-F.Or left right)

pub nodes-Implies : (left right : Rule) → nodes_of (rule.Implies left right) ≡ 1 + nodes_of left + nodes_of right
nodes-Implies left right = ap nodes_of (sym (rule.rolls-Implies left right)) ∙ fold-roll-Rule ℕ nodes_node (Rule-F.Implies left right)

pub nodes-Iff : (left right : Rule) → nodes_of (rule.Iff left right) ≡ 1 + nodes_of left + nodes_of right
nodes-Iff left right = ap nodes_of (sym (rule.rolls-Iff left right)) ∙ fold-roll-Rule ℕ nodes_node (Rule-F.Iff left right)

pub operands-Feature : (f : FeatureNo) → right_operands (rule.Feature f) ≡ 0
operands-Feature f = ap right_operands (sym (rule.rolls-Feature f)) ∙ fold-roll-Rule ℕ operands_node (Rule-F.Feature f)

pub operands-Not : (operand : Rule) → right_operands (rule.Not operand) ≡ right_operands operand
operands-Not operand = ap right_operands (sym (rule.rolls-Not operand)) ∙ fold-roll-Rule ℕ operands_node (Rule-F.Not operand)

pub operands-And : (left right : Rule) → right_operands (rule.And left right) ≡ max (right_operands left) (right_operands right + 1)
operands-And left right = ap right_operands (sym (rule.rolls-And left right)) ∙ fold-roll-Rule ℕ operands_node (Rule-F.And left right)

pub operands-Or : (left right : Rule) → right_operands (rule.Or left right) ≡ max (right_operands left) (right_operands right + 1)
operands-Or left right = ap right_operands (sym (rule.rolls-Or left right)) ∙ fold-roll-Rule ℕ operands_node (Rule-F.Or left right)

pub operands-Implies : (left right : Rule) → right_operands (rule.Implies left right) ≡ max (right_operands left) (right_operands right + 1)
operands-Implies left right = ap right_operands (sym (rule.rolls-Implies left right)) ∙ fold-roll-Rule ℕ operands_node (Rule-F.Implies left right)

pub operands-Iff : (left right : Rule) → right_operands (rule.Iff left right) ≡ max (right_operands left) (right_operands right + 1)
operands-Iff left right = ap right_operands (sym (rule.rolls-Iff left right)) ∙ fold-roll-Rule ℕ operands_node (Rule-F.Iff left right)
