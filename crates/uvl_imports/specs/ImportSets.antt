-- What a set of files is that a main file imports, in whatever order files are read. This project's own.
use Rattle.std.specs.Prelude.{◌≡◌, ⊤, ℕ, ◌+◌, ◌-◌, ◌<◌, List, [], ◌∷◌, Option, Some, length, slice_get}
use Rattle.std.specs.Str.{IsUtf8}
use Rattle.uvl_outside.specs.Files.{Contents}
use Rattle.uvl_ast.specs.declared.file.Import.{Import}
use Rattle.uvl_imports.specs.declared.file_set.Loaded.{Loaded}
use Rattle.uvl_imports.specs.Loading.{Loads}
use Rattle.uvl_imports.specs.Order.{StandInOrder}
use Rattle.uvl_imports.specs.Paths.{target_of}
use Rattle.uvl_imports.specs.Reading.{IsFileOf}
use Rattle.uvl_imports.specs.Sets.{IsWhole}
use Rattle.uvl_imports.specs.Walking.{path_of, paths_of}

-- the path of the file at a position
abbrev pub path_at : List Loaded → ℕ → Option (List ℕ)
path_at files position = slice_get (paths_of files) position

-- The lines of the file at a path have these targets: for each line, the position of the file at the path it names.
abbrev pub AreTargets : List Loaded → List ℕ → List Import → List ℕ → Type 0
AreTargets files path [] [] = ⊤
AreTargets files path [] (target ∷ targets) = ⊥
AreTargets files path (line ∷ lines) [] = ⊥
AreTargets files path (line ∷ lines) (target ∷ targets) =
    (path_at files target ≡ Some (target_of path line)) × AreTargets files path lines targets

-- a file of a set is what the bytes at its path say, and its targets are those of its lines
pub record IsMember (contents : Contents) (files : List Loaded) (loaded : Loaded) : Type 0 where
  pub bytes : List ℕ
  pub there : contents (path_of loaded) ≡ Some bytes
  pub says : IsFileOf bytes loaded.file
  pub targets : AreTargets files (path_of loaded) loaded.file.imports loaded.targets

-- each file of a set is
abbrev pub AreMembers : Contents → List Loaded → Type 0
AreMembers contents files =
    (position : ℕ) (loaded : Loaded) → slice_get files position ≡ Some loaded → IsMember contents files loaded

-- some file behind the position has it as the target of a line
pub record IsImported (files : List Loaded) (position : ℕ) : Type 0 where
  pub importer : ℕ
  pub behind : position < importer
  pub loaded : Loaded
  pub at : slice_get files importer ≡ Some loaded
  pub line : ℕ
  pub imports : slice_get loaded.targets line ≡ Some position

-- A set of files that a main file imports. It is whole: its paths differ, and targets stand in front of the files that
-- import them. Each file is what the bytes at its path say, and the set has each file that a line of it names. The last
-- is the main file, and each other is imported by one behind it, so that nothing else is in the set. They stand in the
-- order in which they come first where imports are unfolded.
pub record IsImportSet (contents : Contents) (main : List ℕ) (files : List Loaded) : Type 0 where
  pub whole : IsWhole files
  pub members : AreMembers contents files
  pub last : path_at files (length files - 1) ≡ Some main
  pub imported : (position : ℕ) → position + 1 < length files → IsImported files position
  pub order : StandInOrder files

-- files stand at texts alone
abbrev pub StandAtTexts : Contents → Type 0
StandAtTexts contents = (path bytes : List ℕ) → contents path ≡ Some bytes → IsUtf8 path

-- every set that is loaded is such a set
abbrev pub EachLoadedSetIsAnImportSet : Type 0
EachLoadedSetIsAnImportSet = (contents : Contents) (main : List ℕ) (files : List Loaded) → StandAtTexts contents
    → Loads contents main files → IsImportSet contents main files
