-- What holds of the functions and the groups of all models.
use Rattle.std.specs.Prelude.{◌≡◌, ◌≤◌, ◌<◌, ℕ, List, length}
use Rattle.dd_store.specs.declared.row.Var.{Var}
use Rattle.dd_store.specs.Short.{IsShort}
use Rattle.dd_store.specs.Size.{Function}
use Rattle.uvl_model.specs.Rows.{Rows}
use Rattle.uvl_model.specs.Sound.{IsSound}
use Rattle.uvl_functions.specs.Enough.{enough, most_held}
use Rattle.uvl_functions.specs.Functions.{products_of, without_rules, tree_function, model_function}
use Rattle.uvl_functions.specs.Groups.{compile_groups}

-- the features with a true variable are a product of sound rows exactly where the root is chosen and each group and each
-- rule holds
abbrev pub ModelsGiveProducts : Type 0
ModelsGiveProducts =
    (vars : List Var) (rows : Rows) → IsSound rows → products_of vars rows ≡ model_function vars rows rows.rules

-- and they are one of the tree alone where each group does
abbrev pub TreesGiveProducts : Type 0
TreesGiveProducts =
    (vars : List Var) (rows : Rows) → IsSound rows →
    products_of vars (without_rules rows) ≡ tree_function vars rows.groups

-- A budget that is too small for a model's groups, beside as many functions as are held at most, is not enough.
abbrev pub EnoughIsEnough : Type 0
EnoughIsEnough =
    (order vars : List Var) (rows : Rows) (budget : ℕ) (held : List Function) → IsSound rows → length held ≤ most_held →
    IsShort order budget held (compile_groups vars rows) → budget < enough (length order)
