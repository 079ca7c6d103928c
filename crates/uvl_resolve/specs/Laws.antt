-- What holds of all sets of files.
use Rattle.std.specs.Prelude.{◌≡◌, List, Some}
use Rattle.uvl_imports.specs.declared.file_set.Loaded.{Loaded}
use Rattle.uvl_model.specs.Products.{Products}
use Rattle.uvl_model.specs.Rows.{Rows}
use Rattle.uvl_placing.specs.Files.{main_tree, main_constraints}
use Rattle.uvl_resolve.specs.Flat.{Flat}
use Rattle.uvl_semantics.specs.Constraint.{Constraint}
use Rattle.uvl_semantics.specs.Family.{ProductsOf}
use Rattle.uvl_semantics.specs.Tree.{Tree}

-- the products of the model that files say are those of the main file's placed tree with its constraints
abbrev pub FlatKeepsProducts : Type 0
FlatKeepsProducts =
    (files : List Loaded) (rows : Rows) (tree : Tree) (constraints : List Constraint) → Flat files rows →
    main_tree files ≡ Some tree → main_constraints files ≡ Some constraints →
    Products rows ≡ ProductsOf tree constraints
