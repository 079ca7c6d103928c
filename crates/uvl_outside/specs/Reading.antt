-- What reading a whole stream up to a limit says of its bytes. This project's own.
use Rattle.std.specs.Prelude.{◌≡◌, ℕ, ◌<◌, ◌≤◌, List, [], length, Option, IfSome, Result, Ok, Err}
use Rattle.std.specs.Io.KnownBytes.{Consumes}
use Rattle.uvl_outside.specs.declared.files.Fetched.{Fetched}
use Rattle.uvl_outside.specs.declared.files.Fetched.TheVariants.{Whole, Absent, TooLong}
use Rattle.uvl_outside.specs.declared.files.FetchFault.{FetchFault}

-- at most so many bytes were taken from the front of what was left
abbrev pub ConsumesAtMost : Option (List ℕ) → Option (List ℕ) → ℕ → Type 0
ConsumesAtMost before now most =
    (taken : List ℕ) × (length taken ≤ most) × Consumes before now taken

-- the buffer has all bytes that were left where they are at most `limit`, and else none
abbrev pub ReadsWhole : Option (List ℕ) → ℕ → List ℕ → Result Fetched FetchFault → Type 0
ReadsWhole left limit into (Ok Whole) = (length into ≤ limit) × IfSome left (λ bytes. into ≡ bytes)
ReadsWhole left limit into (Ok Absent) = ⊥
ReadsWhole left limit into (Ok TooLong) = (into ≡ []) × IfSome left (λ bytes. limit < length bytes)
ReadsWhole left limit into (Err _) = into ≡ []
