-- Runs of nodes on a rule's spine whose right operands are combined among themselves.
use Rattle.std.specs.Prelude.{◌≡◌, ◌⊎◌, ℕ, ◌+◌, Bool, true, false, List, [], ◌∷◌, length, Option, Some, None, IsTrue}
use Rattle.std.specs.List.{All}
use Rattle.dd_store.specs.declared.row.Var.{Var}
use Rattle.dd_store.specs.Size.{Function}
use Rattle.uvl_functions.specs.Functions.{rule_function}
use Rattle.uvl_model.specs.declared.rows.FeatureRow.{FeatureRow}
use Rattle.uvl_model.specs.declared.rule.Rule.{Rule}
use Rattle.uvl_model.specs.declared.rule.Rule.TheOpen.{Rule-F}
use Rattle.uvl_model.specs.declared.rule.Rule.TheViews.{out-Rule}
use Rattle.uvl_model.specs.Rules.{nodes_of}
use Rattle.uvl_rule.specs.declared.connective.Connective.{Connective}
use Rattle.uvl_rule.specs.declared.connective.Connective.TheVariants.{And, Or, Implies, Iff}
use Rattle.uvl_rule.specs.Connectives.{connection}

-- the operator of a node, where it has two operands
abbrev pub connective_node : Rule-F Rule → Option Connective
connective_node (Rule-F.Feature f) = None
connective_node (Rule-F.Not operand) = None
connective_node (Rule-F.And left right) = Some And
connective_node (Rule-F.Or left right) = Some Or
connective_node (Rule-F.Implies left right) = Some Implies
connective_node (Rule-F.Iff left right) = Some Iff
connective_node (Rule-F.Compare how left right) = None

abbrev pub connective_of : Rule → Option Connective
connective_of rule = connective_node (out-Rule rule)

-- the right operand of a node
abbrev pub right_node : Rule-F Rule → Option Rule
right_node (Rule-F.Feature f) = None
right_node (Rule-F.Not operand) = None
right_node (Rule-F.And left right) = Some right
right_node (Rule-F.Or left right) = Some right
right_node (Rule-F.Implies left right) = Some right
right_node (Rule-F.Iff left right) = Some right
right_node (Rule-F.Compare how left right) = None

abbrev pub right_operand : Rule → Option Rule
right_operand rule = right_node (out-Rule rule)

-- the function of an operand, and no where there is none
abbrev pub function_or_no : List Var → List FeatureRow → Option Rule → Function
function_or_no vars features None = λ a. false
function_or_no vars features (Some rule) = rule_function vars features rule

-- what a connective makes of the right operands of nodes; of none it is no
abbrev pub gathered : Connective → List Var → List FeatureRow → List Rule → Function
gathered c vars features [] = λ a. false
gathered c vars features (node ∷ []) = function_or_no vars features (right_operand node)
gathered c vars features (node ∷ next ∷ nodes) =
    connection c (function_or_no vars features (right_operand node)) (gathered c vars features (next ∷ nodes))

-- whether it makes no difference how a chain of the connective is grouped, and in which order it stands
abbrev pub regroups : Connective → Bool
regroups And = true
regroups Or = true
regroups Implies = false
regroups Iff = false

-- one node, or a chain of one such connective
abbrev pub IsRun : List Rule → Type 0
IsRun nodes =
    (length nodes ≡ 1) ⊎ ((c : Connective) × IsTrue (regroups c) × All (λ node. connective_of node ≡ Some c) nodes)

-- how many nodes the right operands have, with the nodes themselves
abbrev pub nodes_or_none : Option Rule → ℕ
nodes_or_none None = 0
nodes_or_none (Some rule) = nodes_of rule

abbrev pub weight : List Rule → ℕ
weight [] = 0
weight (node ∷ nodes) = 1 + nodes_or_none (right_operand node) + weight nodes
