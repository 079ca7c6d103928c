-- Why there is no model.
use Rattle.std.specs.Prelude.{List}
use Rattle.uvl_imports.specs.declared.file_set.Loaded.{Loaded}
use Rattle.uvl_resolve.specs.Faults.{IsCauseOf, IsFirstFault, fault_of}
use Rattle.uvl_resolve.specs.declared.fault.ResolveFault.{ResolveFault}
use Rattle.uvl_resolve.specs.declared.fault.ResolveFault.TheVariants as fault
use Rattle.uvl_scope.specs.declared.fault.ScopeFault.{ScopeFault}
use Rattle.uvl_scope.specs.declared.fault.ScopeFault.TheVariants as met
use Rattle.uvl_scope.specs.Faults as scope

-- what is met with the names is the cause
pub is_first : (files : List Loaded) (found : ScopeFault) → scope.IsCauseOf files found → IsFirstFault files (fault_of found)
is_first files (met.Model fault) h = h
is_first files met.OutOfMemory h = tt

-- and so it is where numbers are refused
pub is_cause : (files : List Loaded) (found : ResolveFault) → IsFirstFault files found → IsCauseOf files found
is_cause files (fault.Model found) h = h
is_cause files fault.NotBuilt h = absurd h
is_cause files fault.OutOfMemory h = tt
