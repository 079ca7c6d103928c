-- What a model says, as Boolean functions of its variables. Variables of other models have no say.
use Rattle.std.specs.Prelude.{◌==◌, not, ◌&&◌, nat_le, List, []}
use Rattle.std.specs.List.{list_all}
use Rattle.dd_store.specs.declared.row.Var.{Var}
use Rattle.dd_store.specs.Size.{Function}
use Rattle.uvl_model.specs.declared.rows.FeatureNo.{FeatureNo}
use Rattle.uvl_model.specs.declared.rows.FeatureRow.{FeatureRow}
use Rattle.uvl_model.specs.declared.rows.GroupRow.{GroupRow}
use Rattle.uvl_model.specs.declared.rule.Cmp.{Cmp}
use Rattle.uvl_model.specs.declared.rule.Number.{Number}
use Rattle.uvl_model.specs.declared.rule.Rule.{Rule}
use Rattle.uvl_model.specs.Amounts.{amount_of, rule_is_met}
use Rattle.uvl_model.specs.Check.{is_marked, marked_count, group_holds}
use Rattle.uvl_model.specs.Constraints.{comparison_of}
use Rattle.uvl_model.specs.Names.{chosen_names}
use Rattle.uvl_model.specs.Products.{Products}
use Rattle.uvl_model.specs.Rows.{Rows}
use Rattle.uvl_model.specs.Spelling.{numbered}
use Rattle.uvl_semantics.specs.Holding.{compares}
use Rattle.uvl_functions.specs.Variables.{marks_under}

-- whether the features with a true variable are a product
abbrev pub products_of : List Var → Rows → Function
products_of vars rows a = (Products rows).contains (chosen_names rows (marks_under vars a))

-- the model with its tree alone
abbrev pub without_rules : Rows → Rows
without_rules rows = record { features = rows.features; groups = rows.groups; rules = [] }

-- a feature is chosen
abbrev pub is_chosen : List Var → FeatureNo → Function
is_chosen vars f a = is_marked (marks_under vars a) f

-- at least `lo` members of the group are chosen
abbrev pub at_least_lo : List Var → GroupRow → Function
at_least_lo vars row a = nat_le row.lo (marked_count (marks_under vars a) row.members)

-- at most `hi` are
abbrev pub at_most_hi : List Var → GroupRow → Function
at_most_hi vars row a = nat_le (marked_count (marks_under vars a) row.members) row.hi

-- both hold
abbrev pub between : List Var → GroupRow → Function
between vars row a = at_least_lo vars row a && at_most_hi vars row a

-- no member is chosen
abbrev pub none_of : List Var → GroupRow → Function
none_of vars row a = marked_count (marks_under vars a) row.members == 0

-- the parent is chosen, and from `lo` to `hi` members are
abbrev pub with_parent : List Var → GroupRow → Function
with_parent vars row a = is_chosen vars row.parent a && between vars row a

-- neither the parent nor a member is
abbrev pub without_parent : List Var → GroupRow → Function
without_parent vars row a = not (is_chosen vars row.parent a) && none_of vars row a

-- the group holds: one of these two cases does
abbrev pub group_function : List Var → GroupRow → Function
group_function vars row a = group_holds (marks_under vars a) row

-- the root is chosen
abbrev pub root_function : List Var → Function
root_function vars = is_chosen vars (numbered 0)

-- the root is chosen, and each of the groups holds
abbrev pub tree_function : List Var → List GroupRow → Function
tree_function vars groups a = root_function vars a && list_all (group_holds (marks_under vars a)) groups

-- two numbers compare so, where the features have these rows
abbrev pub comparison_function : List Var → List FeatureRow → Cmp → Number → Number → Function
comparison_function vars features how left right a =
    compares (comparison_of how)
    (amount_of features (marks_under vars a) left).value (amount_of features (marks_under vars a) right).value

-- a rule holds
abbrev pub rule_function : List Var → List FeatureRow → Rule → Function
rule_function vars features rule a = rule_is_met features (marks_under vars a) rule

-- the root is chosen, and each of the model's groups and of the rules holds
abbrev pub model_function : List Var → Rows → List Rule → Function
model_function vars rows rules a =
    tree_function vars rows.groups a && list_all (rule_is_met rows.features (marks_under vars a)) rules
