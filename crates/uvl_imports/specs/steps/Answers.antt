-- What the steps of loading answer, against the order in which files are read.
use Rattle.std.specs.Prelude.{◌≡◌, ⊤, ℕ, Bool, true, false, List, [], Option, Some, None, Result, Ok, Err, length, IfSome, nat_lt, MatchBool}
use Rattle.uvl_outside.specs.Files.{Contents}
use Rattle.uvl_base.specs.declared.fault.FaultKind.{FaultKind}
use Rattle.uvl_base.specs.declared.fault.FaultKind.TheVariants.{Absent, TooLong}
use Rattle.uvl_base.specs.declared.place.Place.{Place}
use Rattle.uvl_ast.specs.declared.file.File.{File}
use Rattle.uvl_lexer.specs.declared.fault.LexFault.{LexFault}
use Rattle.uvl_lexer.specs.declared.fault.LexFault.TheVariants as lexing
use Rattle.uvl_parser.specs.declared.fault.ParseFault.{ParseFault}
use Rattle.uvl_parser.specs.declared.fault.ParseFault.TheVariants as parsing
use Rattle.uvl_imports.specs.declared.fault.ReadingFault.{ReadingFault}
use Rattle.uvl_imports.specs.declared.fault.ReadingFault.TheVariants as reading
use Rattle.uvl_imports.specs.declared.fault.LoadFault.{LoadFault}
use Rattle.uvl_imports.specs.declared.fault.LoadFault.TheVariants as loading
use Rattle.uvl_imports.specs.Reading.{Reading, says, wrong, ReadsEach, HasFaultIn, first_place, fault_in}
use Rattle.uvl_imports.specs.Walking.{Met, Outcome, ReadsFile, after, ended, read_content, read_lines}

-- a fault of the lexer stands where the lexer says
abbrev pub of_lexer : LexFault → ReadingFault
of_lexer (lexing.At place kind) = reading.At place kind
of_lexer lexing.OutOfMemory = reading.OutOfMemory

-- so does one of the parser
abbrev pub of_parser : ParseFault → ReadingFault
of_parser (parsing.At place kind) = reading.At place kind
of_parser parsing.OutOfMemory = reading.OutOfMemory

-- the host failed, and memory is not what is wanting
abbrev pub reading_failed : {T : Type 0} → Result T ReadingFault → Bool
reading_failed (Ok _) = false
reading_failed (Err (reading.At _ _)) = false
reading_failed (Err reading.Host) = true
reading_failed (Err reading.OutOfMemory) = false

-- bytes have the fault that is answered of them
abbrev pub IsFaultIn : List ℕ → ReadingFault → Type 0
IsFaultIn bytes (reading.At place kind) = HasFaultIn bytes place kind
IsFaultIn bytes reading.Host = ⊥
IsFaultIn bytes reading.OutOfMemory = ⊤

-- the fault of a file's content
abbrev pub IsFaultOfContent : (List ℕ → Reading) → ℕ → Place → FaultKind → Option (List ℕ) → Type 0
IsFaultOfContent read limit place kind None = (place ≡ first_place) × (kind ≡ Absent)
IsFaultOfContent read limit place kind (Some bytes) =
    MatchBool (nat_lt limit (length bytes)) ((place ≡ first_place) × (kind ≡ TooLong)) (read bytes ≡ wrong place kind)

-- what is answered of a file's content: the file and how many bytes it has, or its fault
abbrev pub IsContentRead : (List ℕ → Reading) → ℕ → Option (List ℕ) → Result (File × ℕ) ReadingFault → Type 0
IsContentRead read limit content (Ok pair) =
    (bytes : List ℕ) × (content ≡ Some bytes) × (nat_lt limit (length bytes) ≡ false) × (read bytes ≡ says pair.0)
    × (pair.1 ≡ length bytes)
IsContentRead read limit content (Err (reading.At place kind)) = IsFaultOfContent read limit place kind content
IsContentRead read limit content (Err reading.Host) = ⊤
IsContentRead read limit content (Err reading.OutOfMemory) = ⊤

-- what is answered for an outcome: its value and what is met, or its fault
abbrev pub IsAnswer : {A : Type 0} → Outcome A → Met → Result A LoadFault → Type 0
IsAnswer outcome met (Ok value) = outcome ≡ Ok (met, value)
IsAnswer outcome met (Err (loading.Model fault)) = outcome ≡ Err fault
IsAnswer outcome met (Err loading.ReadFault) = ⊤
IsAnswer outcome met (Err loading.OutOfMemory) = ⊤

-- what is answered for a fault of the file at a path
abbrev pub IsFaultOf : List ℕ → ReadingFault → LoadFault → Type 0
IsFaultOf path (reading.At place kind) (loading.Model fault) = fault ≡ fault_in path place kind
IsFaultOf path (reading.At place kind) loading.ReadFault = ⊥
IsFaultOf path (reading.At place kind) loading.OutOfMemory = ⊤
IsFaultOf path reading.Host (loading.Model fault) = ⊥
IsFaultOf path reading.Host loading.ReadFault = ⊤
IsFaultOf path reading.Host loading.OutOfMemory = ⊥
IsFaultOf path reading.OutOfMemory (loading.Model fault) = ⊥
IsFaultOf path reading.OutOfMemory loading.ReadFault = ⊥
IsFaultOf path reading.OutOfMemory loading.OutOfMemory = ⊤

-- the fault at which reading ends is one of the file at a path
abbrev pub IsRefusal : List ℕ → Place → FaultKind → LoadFault → Type 0
IsRefusal path place kind (loading.Model fault) = fault ≡ fault_in path place kind
IsRefusal path place kind loading.ReadFault = ⊥
IsRefusal path place kind loading.OutOfMemory = ⊤

-- what a call answers, where something is told of the files: what is answered for the outcome of reading them
abbrev pub Answers : {A : Type 0} → Option Contents → (Contents → (List ℕ → Reading) → Outcome A) → Met
    → Result A LoadFault → Type 0
Answers told outcome met result =
    IfSome told (λ contents. (read : List ℕ → Reading) → ReadsEach read → IsAnswer (outcome contents read) met result)

-- what is answered of a file that is begun, for its content: the file and what is met then, or the fault at which
-- reading ends
abbrev pub IsBegun : (List ℕ → Reading) → List ℕ → Met → Option (List ℕ) → Met → Result File LoadFault → Type 0
IsBegun read path before content met (Ok file) =
    (deeper : Option ReadsFile) → read_content read deeper path before content
    ≡ after (read_lines deeper path [] file.imports [] met) (ended before.way path file)
IsBegun read path before content met (Err (loading.Model fault)) =
    (deeper : Option ReadsFile) → read_content read deeper path before content ≡ Err fault
IsBegun read path before content met (Err loading.ReadFault) = ⊤
IsBegun read path before content met (Err loading.OutOfMemory) = ⊤
