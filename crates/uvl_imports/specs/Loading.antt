-- Which set of files is loaded, and which fault is the first. This project's own.
use Rattle.std.specs.Prelude.{◌≡◌, ⊤, ℕ, Bool, true, false, List, Option, IfSome, Result, Ok, Err}
use Rattle.uvl_outside.specs.Files.{Contents}
use Rattle.uvl_base.specs.declared.fault.ModelFault.{ModelFault}
use Rattle.uvl_imports.specs.declared.fault.LoadFault.{LoadFault}
use Rattle.uvl_imports.specs.declared.fault.LoadFault.TheVariants.{Model, ReadFault, OutOfMemory}
use Rattle.uvl_imports.specs.declared.file_set.Loaded.{Loaded}
use Rattle.uvl_imports.specs.Limits.{most_import_depth}
use Rattle.uvl_imports.specs.Reading.{Reading, ReadsEach}
use Rattle.uvl_imports.specs.Walking.{Met, nothing, Outcome, read_file}

-- reading from the main file on, where the bytes of each file are read so
abbrev pub from_main : Contents → (List ℕ → Reading) → List ℕ → Outcome ℕ
from_main contents read main = read_file contents read most_import_depth main nothing

-- the files with these contents load as this set
pub record Loads (contents : Contents) (main : List ℕ) (files : List Loaded) : Type 0 where
  pub read : List ℕ → Reading
  pub reads : ReadsEach read
  pub met : Met
  pub position : ℕ
  pub ends : from_main contents read main ≡ Ok (met, position)
  pub loaded : files ≡ met.loaded

-- the files with these contents have this first fault
pub record HasFirstFault (contents : Contents) (main : List ℕ) (fault : ModelFault) : Type 0 where
  pub read : List ℕ → Reading
  pub reads : ReadsEach read
  pub ends : from_main contents read main ≡ Err fault

-- what is told of the files loads as this set
abbrev pub LoadsAs : Option Contents → List ℕ → List Loaded → Type 0
LoadsAs told main files = IfSome told (λ contents. Loads contents main files)

-- a fault of the model is the first that the files have of which something is told
abbrev pub IsCauseOf : Option Contents → List ℕ → LoadFault → Type 0
IsCauseOf told main (Model fault) = IfSome told (λ contents. HasFirstFault contents main fault)
IsCauseOf told main ReadFault = ⊤
IsCauseOf told main OutOfMemory = ⊤

-- the host failed, and memory is not what is wanting
abbrev pub load_failed : {T : Type 0} → Result T LoadFault → Bool
load_failed (Ok _) = false
load_failed (Err (Model _)) = false
load_failed (Err ReadFault) = true
load_failed (Err OutOfMemory) = false
