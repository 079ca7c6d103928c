-- The variables of a model's features, and which features an assignment chooses.
use Rattle.std.specs.Prelude.{◌≡◌, ℕ, Bool, List, length, map}
use Rattle.std.specs.List.{All}
use Rattle.dd_store.specs.declared.row.Var.{Var}
use Rattle.dd_store.specs.Order.{IsDistinct}
use Rattle.dd_store.specs.Table.{Table, IsVariable}
use Rattle.uvl_model.specs.Rows.{Rows}

-- The variables are a model's: one for each feature, by the feature's number. They are there and differ, and may stand in
-- the order in any way.
pub record HasVariables (t : Table) (rows : Rows) (vars : List Var) : Type 0 where
  pub count : length vars ≡ length rows.features
  pub there : All (λ v. IsVariable t v.0) vars
  pub distinct : IsDistinct vars

-- a mark for each feature: whether its variable is true
abbrev pub marks_under : List Var → (ℕ → Bool) → List Bool
marks_under vars a = map (λ v. a v.0) vars
