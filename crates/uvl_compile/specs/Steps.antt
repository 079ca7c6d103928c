-- The groups of one step of `compile`: a rule more.
use Rattle.std.specs.Prelude.{List, [], ◌∷◌, ◌++◌, map}
use Rattle.dd_store.specs.declared.row.Var.{Var}
use Rattle.dd_store.specs.Size.{Function}
use Rattle.uvl_model.specs.declared.rows.FeatureRow.{FeatureRow}
use Rattle.uvl_model.specs.declared.rule.Rule.{Rule}
use Rattle.uvl_functions.specs.Functions.{rule_function}
use Rattle.uvl_functions.specs.Groups.{rule_groups}
use Rattle.uvl_compile.specs.Conditions.{both}

-- those of the rule, each with what is held and what it becomes
abbrev pub step_groups : List Var → List FeatureRow → Function → Rule → List (List Function)
step_groups vars features f rule =
    map (λ group. group ++ f ∷ both f (rule_function vars features rule) ∷ []) (rule_groups vars features rule)
