-- What holds of all sets of files.
use Rattle.std.specs.Prelude.{◌≡◌, ◌⊎◌, List}
use Rattle.uvl_base.specs.declared.fault.ModelFault.{ModelFault}
use Rattle.uvl_imports.specs.declared.file_set.Loaded.{Loaded}
use Rattle.uvl_scope.specs.Faults.{HasFirstFault, IsAccepted, IsNotBuilt}

-- a set has one first fault, is not accepted, and isn't left to what is not built
pub record HasOneFault (files : List Loaded) : Type 0 where
  pub fault : ModelFault
  pub first : HasFirstFault files fault
  pub one : (other : ModelFault) → HasFirstFault files other → other ≡ fault
  pub not_accepted : IsAccepted files → ⊥
  pub built : IsNotBuilt files → ⊥

-- a set is accepted, and has no fault
pub record IsFine (files : List Loaded) : Type 0 where
  pub accepted : IsAccepted files
  pub no_fault : (fault : ModelFault) → HasFirstFault files fault → ⊥
  pub built : IsNotBuilt files → ⊥

-- a set speaks of what is not built, has no fault, and is not accepted
pub record IsOpen (files : List Loaded) : Type 0 where
  pub not_built : IsNotBuilt files
  pub no_fault : (fault : ModelFault) → HasFirstFault files fault → ⊥
  pub not_accepted : IsAccepted files → ⊥

-- exactly one of the three holds, and a first fault is one
abbrev pub EachSetHasOneAnswer : Type 0
EachSetHasOneAnswer = (files : List Loaded) → HasOneFault files ⊎ IsFine files ⊎ IsOpen files
