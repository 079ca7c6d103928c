-- What holds of all sets of files.
use Rattle.std.specs.Prelude.{◌≡◌, ℕ, List, Some, slice_get, take}
use Rattle.uvl_imports.specs.Sets.{IsWhole}
use Rattle.uvl_imports.specs.declared.file_set.Loaded.{Loaded}
use Rattle.uvl_placing.specs.Files.{placed, said, tree_of_file, constraints_of_file}

-- the tree of a file and its constraints, by those of the files in front of it
pub record IsReadInFront (files : List Loaded) (position : ℕ) (loaded : Loaded) : Type 0 where
  pub tree : slice_get (placed files) position ≡ Some (tree_of_file (placed (take position files)) loaded)
  pub constraints : slice_get (said files) position
      ≡ Some (constraints_of_file (placed (take position files)) (said (take position files)) loaded)

-- each file is read so
abbrev pub FilesAreReadInFront : Type 0
FilesAreReadInFront =
    (files : List Loaded) (position : ℕ) (loaded : Loaded) → slice_get files position ≡ Some loaded →
    IsReadInFront files position loaded

-- the tree of a file and its constraints, by those of all files of the set
pub record IsReadAmong (files : List Loaded) (position : ℕ) (loaded : Loaded) : Type 0 where
  pub tree : slice_get (placed files) position ≡ Some (tree_of_file (placed files) loaded)
  pub constraints : slice_get (said files) position ≡ Some (constraints_of_file (placed files) (said files) loaded)

-- each file of a whole set is read so too, since it imports files in front of it alone
abbrev pub FilesAreReadAmongAll : Type 0
FilesAreReadAmongAll =
    (files : List Loaded) (position : ℕ) (loaded : Loaded) → IsWhole files → slice_get files position ≡ Some loaded →
    IsReadAmong files position loaded
