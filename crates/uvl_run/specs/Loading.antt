-- Which set of files a main file is, and what is wrong first where there is none. This project's own.
use Rattle.std.specs.Prelude.{◌≡◌, ℕ, List, Option, IfSome}
use Rattle.uvl_outside.specs.Files.{Contents}
use Rattle.uvl_base.specs.declared.fault.FaultKind.TheVariants.{NotBuilt}
use Rattle.uvl_base.specs.declared.fault.ModelFault.{ModelFault}
use Rattle.uvl_imports.specs.declared.file_set.Loaded.{Loaded}
use Rattle.uvl_imports.specs.Loading.{Loads, LoadsAs}
use Rattle.uvl_imports.specs.Loading as loading
use Rattle.uvl_imports.specs.Reading.{first_place, fault_in}
use Rattle.uvl_imports.specs.Sets.{IsWhole}
use Rattle.uvl_scope.specs.Faults.{IsAccepted, IsNotBuilt}
use Rattle.uvl_scope.specs.Faults as scope

-- ---- what is at paths

-- the files with these contents load as this set, and nothing is wrong in it
pub record IsSetOf (contents : Contents) (main : List ℕ) (files : List Loaded) : Type 0 where
  pub loads : Loads contents main files
  pub accepted : IsAccepted files

-- What is wrong first: a fault in the loading, or else one in the set that is loaded. Where there is none and a rule
-- speaks of numbers, of which nothing is built yet, the main file has a fault as a whole.
pub data HasFault (contents : Contents) (main : List ℕ) (fault : ModelFault) : Type 0 where
  in_loading : loading.HasFirstFault contents main fault → HasFault contents main fault
  in_set : (files : List Loaded) → Loads contents main files → scope.HasFirstFault files fault
      → HasFault contents main fault
  not_built : (files : List Loaded) → Loads contents main files → IsNotBuilt files
      → fault ≡ fault_in main first_place NotBuilt → HasFault contents main fault

-- ---- what is told

-- what is told of the files loads as this set, which is whole, and nothing is wrong in it
pub record LoadsSet (told : Option Contents) (main : List ℕ) (files : List Loaded) : Type 0 where
  pub loads : LoadsAs told main files
  pub whole : IsWhole files
  pub accepted : IsAccepted files

-- what is told of the files has the fault
abbrev pub LoadsFault : Option Contents → List ℕ → ModelFault → Type 0
LoadsFault told main fault = IfSome told (λ contents. HasFault contents main fault)
