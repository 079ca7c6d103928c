-- Rules without comparisons.
use Rattle.std.specs.Prelude.{Bool, true, false, ◌&&◌, IsTrue}
use Rattle.std.specs.List.{list_all}
use Rattle.uvl_model.specs.declared.rule.Rule.{Rule}
use Rattle.uvl_model.specs.declared.rule.Rule.TheOpen.{Rule-F}
use Rattle.uvl_model.specs.declared.rule.Rule.TheFolds.{fold-Rule}
use Rattle.uvl_model.specs.Rows.{Rows}

-- a node is no comparison and has none below it, where this is told of each operand
abbrev pub boolean_node : Rule-F Bool → Bool
boolean_node (Rule-F.Feature f) = true
boolean_node (Rule-F.Not operand) = operand
boolean_node (Rule-F.And left right) = left && right
boolean_node (Rule-F.Or left right) = left && right
boolean_node (Rule-F.Implies left right) = left && right
boolean_node (Rule-F.Iff left right) = left && right
boolean_node (Rule-F.Compare how left right) = false

-- whether a rule has no comparison
abbrev pub has_no_comparison : Rule → Bool
has_no_comparison = fold-Rule Bool boolean_node

-- no rule of the rows has a comparison
abbrev pub HaveNoComparison : Rows → Type 0
HaveNoComparison rows = IsTrue (list_all has_no_comparison rows.rules)
