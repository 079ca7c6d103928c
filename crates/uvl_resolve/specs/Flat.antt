-- The model that a set of files says: the placed tree of its main file, as rows, with the constraints of that file.
use Rattle.std.specs.Prelude.{◌≡◌, List, Some}
use Rattle.uvl_imports.specs.declared.file_set.Loaded.{Loaded}
use Rattle.uvl_model.specs.Constraints.{constraints_of}
use Rattle.uvl_model.specs.Rows.{Rows}
use Rattle.uvl_model.specs.Spelling.{Spells}
use Rattle.uvl_placing.specs.Files.{main_tree, main_constraints}
use Rattle.uvl_semantics.specs.Tree.{Tree}

-- the rows of features and groups are the placed tree in document order, and the rules are its constraints
pub record Flat (files : List Loaded) (rows : Rows) : Type 0 where
  pub tree : Tree
  pub placed : main_tree files ≡ Some tree
  pub spelled : Spells tree rows
  pub constraints : main_constraints files ≡ Some (constraints_of rows)
