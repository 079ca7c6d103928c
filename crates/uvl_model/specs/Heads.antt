-- What the numbers of rows are read from: their features, and those below one of them.
use Rattle.std.specs.Prelude.{ℕ, Bool, false, ◌||◌, List, [], ◌∷◌, ◌++◌, map, Option, Some, None}
use Rattle.std.specs.Str.{bytes_eq}
use Rattle.uvl_model.specs.declared.rows.FeatureNo.{FeatureNo}
use Rattle.uvl_model.specs.declared.rows.FeatureRow.{FeatureRow}
use Rattle.uvl_model.specs.Check.{is_marked}
use Rattle.uvl_model.specs.Rows.{Rows}
use Rattle.uvl_semantics.specs.Family.{marked}
use Rattle.uvl_semantics.specs.Tree.{Head}
use Rattle.uvl_semantics.specs.Values.{Heads}

-- what stands at the feature of a row
abbrev pub head_of_row : FeatureRow → Head
head_of_row row = record { name = row.name; attributes = row.attributes }

-- whether the parent is marked, where there is one
abbrev pub has_marked_parent : List Bool → Option FeatureNo → Bool
has_marked_parent marks None = false
has_marked_parent marks (Some parent) = is_marked marks parent

-- A feature is below `top` where it has this name, or where its parent is below it. These are the marks of the features
-- that are below it, where `marks` has those of the features in front of the rows.
abbrev pub marks_below : List ℕ → List Bool → List FeatureRow → List Bool
marks_below top marks [] = marks
marks_below top marks (row ∷ rows) =
    marks_below top (marks ++ (bytes_eq row.name top || has_marked_parent marks row.parent) ∷ []) rows

-- the features of rows that are below one with a name
abbrev pub heads_below_rows : Rows → List ℕ → List Head
heads_below_rows rows top = marked (map head_of_row rows.features) (marks_below top [] rows.features)

-- all features of rows, and those below a named one
abbrev pub heads_of_rows : Rows → Heads
heads_of_rows rows = record { all = map head_of_row rows.features; below = heads_below_rows rows }
