-- The groups of functions of which one may be too much for a budget, for each call that makes a model's diagrams.
use Rattle.std.specs.Prelude.{List, [], ◌∷◌, ◌++◌, map}
use Rattle.dd_store.specs.declared.row.Var.{Var}
use Rattle.dd_store.specs.Size.{Function}
use Rattle.uvl_model.specs.declared.rows.FeatureRow.{FeatureRow}
use Rattle.uvl_model.specs.declared.rows.GroupRow.{GroupRow}
use Rattle.uvl_model.specs.declared.rule.Rule.{Rule}
use Rattle.uvl_model.specs.Rows.{Rows}
use Rattle.uvl_functions.specs.Functions.{at_least_lo, at_most_hi, between, none_of, with_parent, without_parent}
use Rattle.uvl_functions.specs.Functions.{group_function, root_function, tree_function, model_function}
use Rattle.uvl_functions.specs.RuleParts.{parts_of}

-- the parts of a group's row: the last is what the row says
abbrev pub row_parts : List Var → GroupRow → List Function
row_parts vars row =
    at_least_lo vars row ∷ at_most_hi vars row ∷ between vars row ∷ none_of vars row
    ∷ with_parent vars row ∷ without_parent vars row ∷ group_function vars row ∷ []

-- for each row its parts, with what the tree says of the rows behind it, and of these and it
abbrev pub rows_groups : List Var → List GroupRow → List (List Function)
rows_groups vars [] = []
rows_groups vars (row ∷ rows) =
    (row_parts vars row ++ tree_function vars rows ∷ tree_function vars (row ∷ rows) ∷ []) ∷ rows_groups vars rows

-- the groups of `compile_tree`: the root, and those of the rows
abbrev pub tree_groups : List Var → Rows → List (List Function)
tree_groups vars rows = (root_function vars ∷ []) ∷ rows_groups vars rows.groups

-- the groups of `compile_rule`: the parts of each subrule
abbrev pub rule_groups : List Var → List FeatureRow → Rule → List (List Function)
rule_groups vars features rule = (parts_of vars features rule).groups []

-- for each rule its groups, each with what the model says up to the rules in front of it, and up to it
abbrev pub rules_groups : List Var → Rows → (front rules : List Rule) → List (List Function)
rules_groups vars rows front [] = []
rules_groups vars rows front (rule ∷ rules) =
    map (λ group.
    group ++ model_function vars rows front ∷ model_function vars rows (front ++ rule ∷ []) ∷ [])
    (rule_groups vars rows.features rule)
    ++ rules_groups vars rows (front ++ rule ∷ []) rules

-- the groups of `compile`: those of the tree, and those of the rules in their order
abbrev pub compile_groups : List Var → Rows → List (List Function)
compile_groups vars rows = tree_groups vars rows ++ rules_groups vars rows [] rows.rules
