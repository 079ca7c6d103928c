-- What is answered for a file of a set.
use Rattle.std.specs.Prelude.{◌≡◌, ⊤, Option, Some}
use Rattle.std.specs.Option.{option_map}
use Rattle.uvl_imports.specs.declared.file_set.Loaded.{Loaded}
use Rattle.uvl_scope.specs.declared.fault.FileFault.{FileFault}
use Rattle.uvl_scope.specs.declared.fault.FileFault.TheVariants as fault
use Rattle.uvl_scope.specs.declared.fault.ScopeFault.{ScopeFault}
use Rattle.uvl_scope.specs.declared.fault.ScopeFault.TheVariants as cause
use Rattle.uvl_scope.specs.Faults.{in_file}
use Rattle.uvl_scope.specs.LineFaults.{Finding, finding}

-- what is answered where this is found first in a file
abbrev pub IsCauseIn : Loaded → Option Finding → ScopeFault → Type 0
IsCauseIn loaded found (cause.Model fault) = option_map (in_file loaded) found ≡ Some fault
IsCauseIn loaded found cause.OutOfMemory = ⊤

-- what is answered where this is the fault of a file
abbrev pub IsFaultOf : Loaded → FileFault → ScopeFault → Type 0
IsFaultOf loaded (fault.At place kind) answer = IsCauseIn loaded (Some (finding kind place)) answer
IsFaultOf loaded fault.OutOfMemory answer = answer ≡ cause.OutOfMemory
