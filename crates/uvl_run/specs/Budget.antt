-- When the budget of nodes is too small for a model.
use Rattle.std.specs.Prelude.{ℕ, ◌+◌, ◌<◌, List, [], ◌∷◌, length, codes}
use Rattle.dd_store.specs.declared.row.Var.{Var}
use Rattle.dd_store.specs.Short.{IsShort}
use Rattle.uvl_functions.specs.Enough.{enough}
use Rattle.uvl_functions.specs.Groups.{compile_groups}
use Rattle.uvl_imports.specs.declared.file_set.Loaded.{Loaded}
use Rattle.uvl_model.specs.Rows.{Rows}
use Rattle.uvl_resolve.specs.Flat.{Flat}

-- variables for the elements of a list, with the numbers from n on in their order
abbrev pub variables_from : {A : Type 0} → ℕ → List A → List Var
variables_from n [] = []
variables_from n (element ∷ elements) = record { 0 = n } ∷ variables_from (n + 1) elements

-- the variables of the main model: one for each feature, in document order
abbrev pub main_variables : Rows → List Var
main_variables rows = variables_from 0 rows.features

-- The budget is too small for what compiling a model makes, in document order and beside nothing that is held; so it is
-- below what is always enough.
pub record IsShortForRows (rows : Rows) (budget : ℕ) : Type 0 where
  pub few : budget < enough (length rows.features)
  pub short : IsShort (main_variables rows) budget [] (compile_groups (main_variables rows) rows)

-- so it is for the model that a set of files says
pub record IsShortFor (files : List Loaded) (budget : ℕ) : Type 0 where
  pub rows : Rows
  pub flat : Flat files rows
  pub of_rows : IsShortForRows rows budget

-- what is written then
unfoldable pub budget_line : List ℕ
budget_line = codes "refused budget\n"
