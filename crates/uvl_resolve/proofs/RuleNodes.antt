-- What the nodes of rules with numbers say, name and count, variant by variant.
use Rattle.std.proofs.Common.{◌≡◌, ℕ, List, [], ◌∷◌, ◌++◌, sym, ap, ◌∙◌}
use Rattle.std.specs.Prelude.{ℤ, false}
use Rattle.uvl_model.specs.declared.rows.FeatureNo.{FeatureNo}
use Rattle.uvl_model.specs.declared.rule.Cmp.{Cmp}
use Rattle.uvl_model.specs.declared.rule.Number.{Number}
use Rattle.uvl_model.specs.declared.rule.Number.TheFolds.{fold-Number, fold-roll-Number}
use Rattle.uvl_model.specs.declared.rule.Number.TheOpen.{Number-F}
use Rattle.uvl_model.specs.declared.rule.Number.TheVariants as number
use Rattle.uvl_model.specs.declared.rule.Rule.{Rule}
use Rattle.uvl_model.specs.declared.rule.Rule.TheFolds.{fold-roll-Rule}
use Rattle.uvl_model.specs.declared.rule.Rule.TheOpen.{Rule-F}
use Rattle.uvl_model.specs.declared.rule.Rule.TheVariants as rule
use Rattle.uvl_model.specs.Constraints.{comparison_of, constraint_node, constraint_of, quantity_node, quantity_of}
use Rattle.uvl_model.specs.Names.{name_of}
use Rattle.uvl_model.specs.Rules.{Factor, Read, factor_node, features_node, features_of, numbers_node, numbers_of, operands_node, plain_factor, is_small, reads_node, reads_of, right_operands, tops_node, tops_of}
use Rattle.uvl_semantics.specs.Constraint.{Constraint, Quantity, literal, attribute, total, plus, minus, times, comparison}

module _ (names : List (List ℕ)) where
  pub quantity-Literal : (m : ℤ) → quantity_of names (number.Literal m) ≡ literal m
  quantity-Literal m = ap (quantity_of names) (sym (number.rolls-Literal m)) ∙ fold-roll-Number Quantity (quantity_node names) (Number-F.Literal m)

  pub quantity-Attr : (f : FeatureNo) (key : List ℕ) → quantity_of names (number.Attr f key) ≡ attribute (name_of names f) key
  quantity-Attr f key = ap (quantity_of names) (sym (number.rolls-Attr f key)) ∙ fold-roll-Number Quantity (quantity_node names) (Number-F.Attr f key)

  pub quantity-Sum : (top : FeatureNo) (key : List ℕ) → quantity_of names (number.Sum top key) ≡ total (name_of names top) key
  quantity-Sum top key = ap (quantity_of names) (sym (number.rolls-Sum top key)) ∙ fold-roll-Number Quantity (quantity_node names) (Number-F.Sum top key)

  pub quantity-Plus : (left right : Number) → quantity_of names (number.Plus left right) ≡ plus (quantity_of names left) (quantity_of names right)
  quantity-Plus left right = ap (quantity_of names) (sym (number.rolls-Plus left right)) ∙ fold-roll-Number Quantity (quantity_node names) (Number-F.Plus left right)

  pub quantity-Minus : (left right : Number) → quantity_of names (number.Minus left right) ≡ minus (quantity_of names left) (quantity_of names right)
  quantity-Minus left right = ap (quantity_of names) (sym (number.rolls-Minus left right)) ∙ fold-roll-Number Quantity (quantity_node names) (Number-F.Minus left right)

  pub quantity-Times : (left right : Number) → quantity_of names (number.Times left right) ≡ times (quantity_of names left) (quantity_of names right)
  quantity-Times left right = ap (quantity_of names) (sym (number.rolls-Times left right)) ∙ fold-roll-Number Quantity (quantity_node names) (Number-F.Times left right)

  pub constraint-Compare : (how : Cmp) (left right : Number) → constraint_of names (rule.Compare how left right) ≡ comparison (comparison_of how) (quantity_of names left) (quantity_of names right)
  constraint-Compare how left right =
      ap (constraint_of names) (sym (rule.rolls-Compare how left right)) ∙ fold-roll-Rule Constraint (constraint_node names) (Rule-F.Compare how left right)

pub tops-Literal : (m : ℤ) → tops_of (number.Literal m) ≡ []
tops-Literal m = ap tops_of (sym (number.rolls-Literal m)) ∙ fold-roll-Number (List FeatureNo) tops_node (Number-F.Literal m)

pub tops-Attr : (f : FeatureNo) (key : List ℕ) → tops_of (number.Attr f key) ≡ []
tops-Attr f key = ap tops_of (sym (number.rolls-Attr f key)) ∙ fold-roll-Number (List FeatureNo) tops_node (Number-F.Attr f key)

pub reads-Literal : (m : ℤ) → reads_of (number.Literal m) ≡ []
reads-Literal m = ap reads_of (sym (number.rolls-Literal m)) ∙ fold-roll-Number (List Read) reads_node (Number-F.Literal m)

pub reads-Attr : (f : FeatureNo) (key : List ℕ) → reads_of (number.Attr f key) ≡ record { feature = f; key = key } ∷ []
reads-Attr f key = ap reads_of (sym (number.rolls-Attr f key)) ∙ fold-roll-Number (List Read) reads_node (Number-F.Attr f key)

pub reads-Sum : (top : FeatureNo) (key : List ℕ) → reads_of (number.Sum top key) ≡ []
reads-Sum top key = ap reads_of (sym (number.rolls-Sum top key)) ∙ fold-roll-Number (List Read) reads_node (Number-F.Sum top key)

-- how products see a number
abbrev pub factor_of : Number → Factor
factor_of = fold-Number Factor factor_node

pub factor-Literal : (m : ℤ) → factor_of (number.Literal m) ≡ plain_factor (is_small m)
factor-Literal m = ap factor_of (sym (number.rolls-Literal m)) ∙ fold-roll-Number Factor factor_node (Number-F.Literal m)

pub factor-Attr : (f : FeatureNo) (key : List ℕ) → factor_of (number.Attr f key) ≡ plain_factor false
factor-Attr f key = ap factor_of (sym (number.rolls-Attr f key)) ∙ fold-roll-Number Factor factor_node (Number-F.Attr f key)

pub factor-Sum : (top : FeatureNo) (key : List ℕ) → factor_of (number.Sum top key) ≡ plain_factor false
factor-Sum top key = ap factor_of (sym (number.rolls-Sum top key)) ∙ fold-roll-Number Factor factor_node (Number-F.Sum top key)

pub features-Compare : (how : Cmp) (left right : Number) → features_of (rule.Compare how left right) ≡ []
features-Compare how left right = ap features_of (sym (rule.rolls-Compare how left right)) ∙ fold-roll-Rule (List FeatureNo) features_node (Rule-F.Compare how left right)

pub operands-Compare : (how : Cmp) (left right : Number) → right_operands (rule.Compare how left right) ≡ 0
operands-Compare how left right = ap right_operands (sym (rule.rolls-Compare how left right)) ∙ fold-roll-Rule ℕ operands_node (Rule-F.Compare how left right)

pub numbers-Compare : (how : Cmp) (left right : Number) → numbers_of (rule.Compare how left right) ≡ left ∷ right ∷ []
numbers-Compare how left right = ap numbers_of (sym (rule.rolls-Compare how left right)) ∙ fold-roll-Rule (List Number) numbers_node (Rule-F.Compare how left right)

pub numbers-Feature : (f : FeatureNo) → numbers_of (rule.Feature f) ≡ []
numbers-Feature f = ap numbers_of (sym (rule.rolls-Feature f)) ∙ fold-roll-Rule (List Number) numbers_node (Rule-F.Feature f)

pub numbers-Not : (operand : Rule) → numbers_of (rule.Not operand) ≡ numbers_of operand
numbers-Not operand = ap numbers_of (sym (rule.rolls-Not operand)) ∙ fold-roll-Rule (List Number) numbers_node (Rule-F.Not operand)

pub numbers-And : (left right : Rule) → numbers_of (rule.And left right) ≡ numbers_of left ++ numbers_of right
numbers-And left right = ap numbers_of (sym (rule.rolls-And left right)) ∙ fold-roll-Rule (List Number) numbers_node (Rule-F.And left right)

pub numbers-Or : (left right : Rule) → numbers_of (rule.Or left right) ≡ numbers_of left ++ numbers_of right
numbers-Or left right = ap numbers_of (sym (rule.rolls-Or left right)) ∙ fold-roll-Rule (List Number) numbers_node (Rule-F.Or left right)

pub numbers-Implies : (left right : Rule) → numbers_of (rule.Implies left right) ≡ numbers_of left ++ numbers_of right
numbers-Implies left right = ap numbers_of (sym (rule.rolls-Implies left right)) ∙ fold-roll-Rule (List Number) numbers_node (Rule-F.Implies left right)

pub numbers-Iff : (left right : Rule) → numbers_of (rule.Iff left right) ≡ numbers_of left ++ numbers_of right
numbers-Iff left right = ap numbers_of (sym (rule.rolls-Iff left right)) ∙ fold-roll-Rule (List Number) numbers_node (Rule-F.Iff left right)
