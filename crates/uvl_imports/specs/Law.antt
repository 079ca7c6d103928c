-- What holds of all files.
use Rattle.std.specs.Prelude.{◌≡◌, ◌⊎◌, ℕ, List, [], ◌∷◌, ◌++◌, slice_get, Some, chars}
use Rattle.uvl_outside.specs.Files.{Contents}
use Rattle.uvl_base.specs.declared.fault.ModelFault.{ModelFault}
use Rattle.uvl_ast.specs.declared.file.File.{File}
use Rattle.uvl_imports.specs.declared.file_set.Loaded.{Loaded}
use Rattle.uvl_imports.specs.Loading.{Loads, HasFirstFault}
use Rattle.uvl_imports.specs.Reading.{Reading, Reads, IsFileOf}
use Rattle.uvl_imports.specs.Walking.{loaded_file}

-- all bytes are read in one way
pub record IsReadOnce (bytes : List ℕ) : Type 0 where
  pub reading : Reading
  pub reads : Reads bytes reading
  pub one : (other : Reading) → Reads bytes other → other ≡ reading

abbrev pub AllBytesAreReadOnce : Type 0
AllBytesAreReadOnce = (bytes : List ℕ) → IsReadOnce bytes

-- the files load as one set, and have no first fault
pub record HasSet (contents : Contents) (main : List ℕ) : Type 0 where
  pub files : List Loaded
  pub loads : Loads contents main files
  pub one : (others : List Loaded) → Loads contents main others → others ≡ files
  pub no_fault : (fault : ModelFault) → HasFirstFault contents main fault → ⊥

-- the files have one first fault, and load as no set
pub record HasFault (contents : Contents) (main : List ℕ) : Type 0 where
  pub fault : ModelFault
  pub first : HasFirstFault contents main fault
  pub one : (other : ModelFault) → HasFirstFault contents main other → other ≡ fault
  pub no_set : (files : List Loaded) → Loads contents main files → ⊥

-- exactly one of the two holds, for one set or for one fault
abbrev pub AllFilesLoadOrHaveAFault : Type 0
AllFilesLoadOrHaveAFault = (contents : Contents) (main : List ℕ) → HasSet contents main ⊎ HasFault contents main

-- a file of a set is what the bytes at its path say
pub record IsSaid (contents : Contents) (loaded : Loaded) : Type 0 where
  pub path : List ℕ
  pub named : loaded.path ≡ chars path
  pub bytes : List ℕ
  pub there : contents path ≡ Some bytes
  pub says : IsFileOf bytes loaded.file

-- each file of a list is
abbrev pub AreSaid : Contents → List Loaded → Type 0
AreSaid contents files =
    (position : ℕ) (loaded : Loaded) → slice_get files position ≡ Some loaded → IsSaid contents loaded

-- each file of the set is what the bytes at its path say, and the last is the main file
pub record IsSetOf (contents : Contents) (main : List ℕ) (files : List Loaded) : Type 0 where
  pub said : AreSaid contents files
  pub front : List Loaded
  pub file : File
  pub targets : List ℕ
  pub last : files ≡ front ++ loaded_file main file targets ∷ []

-- so is every set that is loaded
abbrev pub EachSetIsSaid : Type 0
EachSetIsSaid =
    (contents : Contents) (main : List ℕ) (files : List Loaded) → Loads contents main files
    → IsSetOf contents main files
