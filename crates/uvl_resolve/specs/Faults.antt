-- Why a set of files has no model.
use Rattle.std.specs.Prelude.{⊤, List}
use Rattle.uvl_imports.specs.declared.file_set.Loaded.{Loaded}
use Rattle.uvl_resolve.specs.declared.fault.ResolveFault.{ResolveFault}
use Rattle.uvl_resolve.specs.declared.fault.ResolveFault.TheVariants as fault
use Rattle.uvl_scope.specs.declared.fault.ScopeFault.{ScopeFault}
use Rattle.uvl_scope.specs.declared.fault.ScopeFault.TheVariants as met
use Rattle.uvl_scope.specs.Faults.{HasFirstFault, IsNotBuilt}

-- what is met with the names of the files is why they have no model
abbrev pub fault_of : ScopeFault → ResolveFault
fault_of (met.Model found) = fault.Model found
fault_of met.OutOfMemory = fault.OutOfMemory

-- The files have this fault first; or nothing is wrong with them, and some rule speaks of numbers, of which nothing is
-- built yet. Want of memory may stand for any cause.
abbrev pub IsCauseOf : List Loaded → ResolveFault → Type 0
IsCauseOf files (fault.Model found) = HasFirstFault files found
IsCauseOf files fault.NotBuilt = IsNotBuilt files
IsCauseOf files fault.OutOfMemory = ⊤

-- The files have this fault first. Want of memory may stand for any cause.
abbrev pub IsFirstFault : List Loaded → ResolveFault → Type 0
IsFirstFault files (fault.Model found) = HasFirstFault files found
IsFirstFault files fault.NotBuilt = ⊥
IsFirstFault files fault.OutOfMemory = ⊤
