-- Members of groups that seem optional and aren't. That these are the false-optional features is this project's own.
use Rattle.std.specs.Prelude.{ℕ, ◌<◌, Bool, not, ◌==◌, ◌&&◌, nat_lt, List, length, map, filter, if◌then◌else◌}
use Rattle.std.specs.List.{All, list_any, range_with_len}
use Rattle.uvl_model.specs.declared.rows.FeatureNo.{FeatureNo}
use Rattle.uvl_model.specs.declared.rows.GroupRow.{GroupRow}
use Rattle.uvl_model.specs.Names.{feature_names, name_of}
use Rattle.uvl_model.specs.Products.{Products}
use Rattle.uvl_model.specs.Rows.{Rows}
use Rattle.uvl_model.specs.Spelling.{numbered}
use Rattle.uvl_analyses.specs.Analyses.{is_dead, is_core, comes_with}

-- the features of a model, in document order
abbrev pub all_features : Rows → List FeatureNo
all_features rows = map numbered (range_with_len 0 (length rows.features))

-- the name of a feature
abbrev pub name_in : Rows → FeatureNo → List ℕ
name_in rows feature = name_of (feature_names rows) feature

-- a feature of a model is dead
abbrev pub is_dead_in : Rows → FeatureNo → Bool
is_dead_in rows feature = is_dead (Products rows) (name_in rows feature)

-- it is core
abbrev pub is_core_in : Rows → FeatureNo → Bool
is_core_in rows feature = is_core (Products rows) (name_in rows feature)

-- it is never there, or never absent
abbrev pub is_never : Rows → Bool → FeatureNo → Bool
is_never rows value feature = if value then is_dead_in rows feature else is_core_in rows feature

-- the feature is a member of the group
abbrev pub is_member : GroupRow → FeatureNo → Bool
is_member group feature = list_any (λ member. member.0 == feature.0) group.members

-- the group lets its parent leave out a member, by its bounds alone
abbrev pub leaves_out : GroupRow → Bool
leaves_out group = nat_lt group.lo (length group.members)

-- a member that the group seems to leave open, and that comes with its parent in every product
abbrev pub is_kept_in : Rows → GroupRow → FeatureNo → Bool
is_kept_in rows group feature =
    leaves_out group && is_member group feature
    && comes_with (Products rows) (name_in rows group.parent) (name_in rows feature)

-- the feature isn't dead, and there is such a group
abbrev pub is_false_optional : Rows → FeatureNo → Bool
is_false_optional rows feature =
    not (is_dead_in rows feature) && list_any (λ group. is_kept_in rows group feature) rows.groups

-- the names of the false-optional features of a model, in document order
abbrev pub false_optional_of : Rows → List (List ℕ)
false_optional_of rows = map (name_in rows) (filter (is_false_optional rows) (all_features rows))

-- each of the features is one of the model
abbrev pub AreThere : Rows → List FeatureNo → Type 0
AreThere rows features = All (λ feature. feature.0 < length rows.features) features
