-- The names of the features of a model's rows.
use Rattle.std.specs.Prelude.{ℕ, Bool, List, [], map, slice_get, unwrap_or}
use Rattle.uvl_model.specs.declared.rows.FeatureNo.{FeatureNo}
use Rattle.uvl_model.specs.Rows.{Rows}
use Rattle.uvl_semantics.specs.Family.{marked}

-- the names of the features, by number
abbrev pub feature_names : Rows → List (List ℕ)
feature_names rows = map (λ row. row.name) rows.features

-- the name with a number, and an empty one where there is none
abbrev pub name_of : List (List ℕ) → FeatureNo → List ℕ
name_of names f = unwrap_or (slice_get names f.0) []

-- the names of the chosen features, where a mark for each feature says whether it is chosen
abbrev pub chosen_names : Rows → List Bool → List (List ℕ)
chosen_names rows marks = marked (feature_names rows) marks
