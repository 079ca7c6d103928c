-- What the answers of `put` say of the bytes that were written to a sink. This project's own.
use Rattle.std.specs.Prelude.{ℕ, Bool, true, false, List, take, Option, Result, Ok, Err}
use Rattle.std.specs.Io.KnownBytes.{Appends}
use Rattle.uvl_outside.specs.declared.sink.PutFault.{PutFault}
use Rattle.uvl_outside.specs.declared.sink.PutFault.TheVariants.{Failed, OutOfMemory}

-- the call answered a fault of the host, and no want of memory
abbrev pub put_failed : {T : Type 0} → Result T PutFault → Bool
put_failed (Ok _) = false
put_failed (Err Failed) = true
put_failed (Err OutOfMemory) = false

-- some front of the piece was written behind what was written before
abbrev pub AppendsFront : Option (List ℕ) → Option (List ℕ) → List ℕ → Type 0
AppendsFront before now piece = (count : ℕ) × Appends before now (take count piece)

-- what an answer of `put` says: the whole piece was written, or only a front of it
abbrev pub Puts : {T E : Type 0} → Option (List ℕ) → Option (List ℕ) → List ℕ → Result T E → Type 0
Puts before now piece (Ok _) = Appends before now piece
Puts before now piece (Err _) = AppendsFront before now piece
