-- The members of a group among the features of a model, and their variables.
use Rattle.std.specs.Prelude.{ℕ, suc, ◌<◌, ◌≤◌, List, [], ◌∷◌, map, slice_index_or}
use Rattle.std.specs.List.{All}
use Rattle.dd_store.specs.declared.row.Var.{Var}
use Rattle.dd_store.specs.Size.{Function}
use Rattle.dd_apply.specs.Split.{fork}
use Rattle.dd_count.specs.Cardinality.{cardinality}
use Rattle.uvl_model.specs.declared.rows.FeatureNo.{FeatureNo}
use Rattle.uvl_model.specs.declared.rows.GroupRow.{GroupRow}

-- the variable of a feature
abbrev pub variable_of : List Var → FeatureNo → Var
variable_of vars f = slice_index_or vars f.0 (record { 0 = 0 })

-- the variables of features
abbrev pub variables_of : List Var → List FeatureNo → List Var
variables_of vars features = map (variable_of vars) features

-- each feature stands behind the one in front of it in the document, and none before the first of all
abbrev pub IsRisingFrom : ℕ → List FeatureNo → Type 0
IsRisingFrom first [] = Unit {0}
IsRisingFrom first (f ∷ fs) = (first ≤ f.0) × IsRisingFrom (suc f.0) fs

-- The group's parent and members are among so many features, and no member stands twice.
pub record IsAmong (features : ℕ) (row : GroupRow) : Type 0 where
  pub parent : row.parent.0 < features
  pub members : All (λ f. f.0 < features) row.members
  pub rising : IsRisingFrom 0 row.members

-- The parts that are made of a row: the parent and members of it by their variables. Where the parent is true, from
-- `low` to `high` of the members are, and else none.
abbrev pub choice_by_parent : Var → List Var → ℕ → ℕ → Function
choice_by_parent parent members low high =
    fork parent.0 (cardinality members 0 0) (cardinality members low high)

abbrev pub made_parts : Var → List Var → ℕ → ℕ → List Function
made_parts parent members low high =
    cardinality members low high ∷ cardinality members 0 0 ∷ choice_by_parent parent members low high ∷ []
