-- The model that a set of files says.
use Rattle.std.specs.Prelude.{List, Option}
use Rattle.uvl_imports.specs.declared.file_set.Loaded.{Loaded}
use Rattle.uvl_placing.specs.Files.{main_tree, main_constraints}
use Rattle.uvl_placing.specs.Options.{of_both}
use Rattle.uvl_semantics.specs.Family.{Family, ProductsOf}

-- the products of a set of files: those of the main file's placed tree with its constraints, where both are there
abbrev pub products_of : List Loaded → Option Family
products_of files = of_both ProductsOf (main_tree files) (main_constraints files)
