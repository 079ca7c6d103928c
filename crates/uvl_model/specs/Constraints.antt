-- What the rules of rows say: each is read as a constraint by the names of the features.
use Rattle.std.specs.Prelude.{ℕ, List, map}
use Rattle.uvl_model.specs.declared.rule.Cmp.{Cmp}
use Rattle.uvl_model.specs.declared.rule.Cmp.TheVariants as cmp
use Rattle.uvl_model.specs.declared.rule.Number.{Number}
use Rattle.uvl_model.specs.declared.rule.Number.TheOpen.{Number-F}
use Rattle.uvl_model.specs.declared.rule.Number.TheFolds.{fold-Number}
use Rattle.uvl_model.specs.declared.rule.Rule.{Rule}
use Rattle.uvl_model.specs.declared.rule.Rule.TheOpen.{Rule-F}
use Rattle.uvl_model.specs.declared.rule.Rule.TheFolds.{fold-Rule}
use Rattle.uvl_model.specs.Names.{feature_names, name_of}
use Rattle.uvl_model.specs.Rows.{Rows}
use Rattle.uvl_semantics.specs.Constraint.{Quantity, literal, attribute, total, plus, minus, times}
use Rattle.uvl_semantics.specs.Constraint.{Comparison, equal, differs, less, at_most, greater, at_least}
use Rattle.uvl_semantics.specs.Constraint.{Constraint, selected, negation, conjunction, disjunction, implication}
use Rattle.uvl_semantics.specs.Constraint.{equivalence, comparison}

-- how a rule compares
abbrev pub comparison_of : Cmp → Comparison
comparison_of cmp.Equal = equal
comparison_of cmp.Differs = differs
comparison_of cmp.Less = less
comparison_of cmp.AtMost = at_most
comparison_of cmp.Greater = greater
comparison_of cmp.AtLeast = at_least

-- a node of a number, where a quantity stands for each operand
abbrev pub quantity_node : List (List ℕ) → Number-F Quantity → Quantity
quantity_node names (Number-F.Literal millionths) = literal millionths
quantity_node names (Number-F.Attr f key) = attribute (name_of names f) key
quantity_node names (Number-F.Sum top key) = total (name_of names top) key
quantity_node names (Number-F.Plus left right) = plus left right
quantity_node names (Number-F.Minus left right) = minus left right
quantity_node names (Number-F.Times left right) = times left right

-- a number over the features with these names
abbrev pub quantity_of : List (List ℕ) → Number → Quantity
quantity_of names = fold-Number Quantity (quantity_node names)

-- a node of a rule, where a constraint stands for each operand
abbrev pub constraint_node : List (List ℕ) → Rule-F Constraint → Constraint
constraint_node names (Rule-F.Feature f) = selected (name_of names f)
constraint_node names (Rule-F.Not operand) = negation operand
constraint_node names (Rule-F.And left right) = conjunction left right
constraint_node names (Rule-F.Or left right) = disjunction left right
constraint_node names (Rule-F.Implies left right) = implication left right
constraint_node names (Rule-F.Iff left right) = equivalence left right
constraint_node names (Rule-F.Compare how left right) =
    comparison (comparison_of how) (quantity_of names left) (quantity_of names right)

-- a rule over the features with these names
abbrev pub constraint_of : List (List ℕ) → Rule → Constraint
constraint_of names = fold-Rule Constraint (constraint_node names)

-- the rules of rows, by the names of their features
abbrev pub constraints_of : Rows → List Constraint
constraints_of rows = map (constraint_of (feature_names rows)) rows.rules
