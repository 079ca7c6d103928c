-- The products of a model's rows, as a family of sets of features.
use Rattle.std.specs.Prelude.{ℕ, Bool, ◌&&◌, List, map}
use Rattle.std.specs.List.{list_all}
use Rattle.uvl_model.specs.Check.{groups_hold}
use Rattle.uvl_model.specs.Constraints.{constraints_of}
use Rattle.uvl_model.specs.Heads.{heads_of_rows}
use Rattle.uvl_model.specs.Names.{feature_names}
use Rattle.uvl_model.specs.Rows.{Rows}
use Rattle.uvl_semantics.specs.Family.{Family}
use Rattle.uvl_semantics.specs.Holding.{holds_by}
use Rattle.uvl_semantics.specs.Product.{has}

-- every rule of the rows holds in a set
abbrev pub rules_hold : Rows → List (List ℕ) → Bool
rules_hold rows set = list_all (λ constraint. holds_by (heads_of_rows rows) constraint set) (constraints_of rows)

-- A set is a product of rows: it has only names of the features, it has the root, each group holds, and so does each
-- rule. A group holds where of its members from lo to hi are in the set if its parent is, and else none.
unfoldable pub is_product_of : Rows → List (List ℕ) → Bool
is_product_of rows set =
    list_all (has (feature_names rows)) set && groups_hold rows (map (has set) (feature_names rows)) && rules_hold rows set

-- The products of a model's rows. They are those of the tree that the rows spell: see `RowsGiveProducts`.
abbrev pub Products : Rows → Family
Products rows = record { names = feature_names rows; contains = is_product_of rows }
