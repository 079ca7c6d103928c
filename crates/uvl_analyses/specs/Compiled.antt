-- A model with the diagram of its products.
use Rattle.std.specs.Prelude.{◌≡◌, ℕ, Bool, List}
use Rattle.dd_store.specs.declared.row.Var.{Var}
use Rattle.dd_store.specs.Table.{Table, IsLive, IsSound, value_of}
use Rattle.uvl_functions.specs.Functions.{products_of}
use Rattle.uvl_functions.specs.Variables.{HasVariables}
use Rattle.uvl_model.specs.Rows.{Rows}

-- The features have their variables in the table, and the value of the live handle is whether the features with a true
-- variable are a product.
pub record IsCompiled (rows : Rows) (t : Table) (vars : List Var) (products : ℕ) : Type 0 where
  pub sound : IsSound t
  pub variables : HasVariables t rows vars
  pub live : IsLive t products
  pub value : (a : ℕ → Bool) → value_of t products a ≡ products_of vars rows a
