-- What the answers of the loading say.
use Rattle.std.specs.Prelude.{◌≡◌, ⊤, ℕ, List, Option}
use Rattle.uvl_outside.specs.Files.{Contents}
use Rattle.uvl_base.specs.declared.fault.FaultKind.TheVariants.{NotBuilt}
use Rattle.uvl_imports.specs.declared.fault.LoadFault.{LoadFault}
use Rattle.uvl_imports.specs.declared.fault.LoadFault.TheVariants.{Model, ReadFault, OutOfMemory}
use Rattle.uvl_imports.specs.declared.file_set.Loaded.{Loaded}
use Rattle.uvl_imports.specs.Reading.{first_place, fault_in}
use Rattle.uvl_model.specs.Rows.{Rows}
use Rattle.uvl_resolve.specs.Flat.{Flat}
use Rattle.uvl_resolve.specs.declared.fault.ResolveFault.{ResolveFault}
use Rattle.uvl_resolve.specs.declared.fault.ResolveFault.TheVariants as resolving
use Rattle.uvl_run.specs.Loading.{LoadsSet, LoadsFault}

-- the rows are those of a set of files that is told at the path
pub record IsLoaded (told : Option Contents) (path : List ℕ) (rows : Rows) : Type 0 where
  pub files : List Loaded
  pub loads : LoadsSet told path files
  pub flat : Flat files rows

-- a fault of the model is the one that the files have
abbrev pub IsCauseOf : Option Contents → List ℕ → LoadFault → Type 0
IsCauseOf told path (Model fault) = LoadsFault told path fault
IsCauseOf told path ReadFault = ⊤
IsCauseOf told path OutOfMemory = ⊤

-- the fault of a main file as a whole, or want of memory for it
abbrev pub IsNotBuiltIn : List ℕ → LoadFault → Type 0
IsNotBuiltIn path (Model fault) = fault ≡ fault_in path first_place NotBuilt
IsNotBuiltIn path ReadFault = ⊥
IsNotBuiltIn path OutOfMemory = ⊤

-- the fault of a main file for a fault of the resolution
abbrev pub IsFaultOf : List ℕ → ResolveFault → LoadFault → Type 0
IsFaultOf path (resolving.Model fault) met = met ≡ Model fault
IsFaultOf path resolving.NotBuilt met = IsNotBuiltIn path met
IsFaultOf path resolving.OutOfMemory met = met ≡ OutOfMemory
