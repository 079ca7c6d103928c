-- The left operands of a rule, of a left operand, and so on: its spine.
use Rattle.std.specs.Prelude.{◌≡◌, List, [], ◌∷◌, Option, Some, None, map}
use Rattle.std.specs.Borrow.{Bor}
use Rattle.dd_store.specs.declared.row.Var.{Var}
use Rattle.dd_store.specs.Size.{Function}
use Rattle.uvl_model.specs.declared.rows.FeatureRow.{FeatureRow}
use Rattle.uvl_model.specs.declared.rule.Rule.{Rule}
use Rattle.uvl_model.specs.declared.rule.Rule.TheViews.{out-Rule}
use Rattle.uvl_model.specs.declared.rule.Rule.TheOpen.{Rule-F}
use Rattle.uvl_rule.specs.declared.connective.Connective.{Connective}
use Rattle.uvl_rule.specs.declared.connective.Connective.TheVariants.{And, Or, Implies, Iff}
use Rattle.uvl_rule.specs.Connectives.{connection_group}
use Rattle.uvl_functions.specs.Functions.{rule_function}
use Rattle.uvl_functions.specs.Groups.{rule_groups}
use Rattle.uvl_functions.specs.RuleParts.{group_of, opposite}

-- the operand of a node that is its left or its only one
abbrev pub left_node : Rule-F Rule → Option Rule
left_node (Rule-F.Feature f) = None
left_node (Rule-F.Not operand) = Some operand
left_node (Rule-F.And left right) = Some left
left_node (Rule-F.Or left right) = Some left
left_node (Rule-F.Implies left right) = Some left
left_node (Rule-F.Iff left right) = Some left
left_node (Rule-F.Compare how left right) = None

abbrev pub left_operand : Rule → Option Rule
left_operand rule = left_node (out-Rule rule)

-- the nodes from the top of a rule down its left operands, without the part in which they end
abbrev pub IsSpine : List Rule → Rule → Rule → Type 0
IsSpine [] part rule = part ≡ rule
IsSpine (node ∷ nodes) part rule =
    (node ≡ rule) × ((left : Rule) × (left_operand node ≡ Some left) × IsSpine nodes part left)

-- what references stand on
abbrev pub rules_at : List (Bor Rule) → List Rule
rules_at nodes = map (λ node. node.now) nodes

-- the groups of an operator and of its right operand, where its left one is held and has the function f
abbrev pub groups_beside : Connective → List Var → List FeatureRow → Function → Rule → List (List Function)
groups_beside c vars features f right =
    connection_group c f (rule_function vars features right) ∷ rule_groups vars features right

-- the groups of a node and of its right operand, where its left or only operand is held
abbrev pub above_node : List Var → List FeatureRow → Rule-F Rule → List (List Function)
above_node vars features (Rule-F.Feature f) = []
above_node vars features (Rule-F.Not operand) =
    group_of (opposite (rule_function vars features operand)) (rule_function vars features operand ∷ []) [] ∷ []
above_node vars features (Rule-F.And left right) =
    groups_beside And vars features (rule_function vars features left) right
above_node vars features (Rule-F.Or left right) =
    groups_beside Or vars features (rule_function vars features left) right
above_node vars features (Rule-F.Implies left right) =
    groups_beside Implies vars features (rule_function vars features left) right
above_node vars features (Rule-F.Iff left right) =
    groups_beside Iff vars features (rule_function vars features left) right
above_node vars features (Rule-F.Compare how left right) = []

abbrev pub groups_above : List Var → List FeatureRow → Rule → List (List Function)
groups_above vars features rule = above_node vars features (out-Rule rule)
