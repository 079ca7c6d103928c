-- What is said of the fault of a text.
use Rattle.std.specs.Prelude.{◌≡◌, ⊤}
use Rattle.uvl_base.specs.declared.place.Place.{Place}
use Rattle.uvl_base.specs.declared.fault.FaultKind.{FaultKind}
use Rattle.uvl_lexer.specs.declared.fault.LexFault.{LexFault}
use Rattle.uvl_lexer.specs.declared.fault.LexFault.TheVariants.{At, OutOfMemory}

-- what holds of the place and the kind of a fault; want of memory has neither
abbrev pub OnFault : LexFault → (Place → FaultKind → Type 0) → Type 0
OnFault (At place kind) P = P place kind
OnFault OutOfMemory P = ⊤

-- a fault is want of memory
abbrev pub IsOutOfMemory : LexFault → Type 0
IsOutOfMemory fault = fault ≡ OutOfMemory
