-- What was said of a script by the ending of its run, and which endings are faults. This project's own.
use Rattle.std.specs.Prelude.{◌≡◌, ℕ, ◌<◌, ◌≤◌, ◌⊎◌, Bool, true, false, List, length, take, Option, IfSome}
use Rattle.std.specs.Io.KnownBytes.{Consumes, Appends}
use Rattle.uvl_base.specs.Limits.{most_script_bytes}
use Rattle.uvl_outside.specs.declared.sink.PutFault.{PutFault}
use Rattle.uvl_outside.specs.declared.sink.PutFault.TheVariants as putting
use Rattle.uvl_lines.specs.declared.answerer.AnswerFault.{AnswerFault}
use Rattle.uvl_lines.specs.declared.answerer.AnswerFault.TheVariants as answering
use Rattle.uvl_lines.specs.declared.ending.Ending.{Ending}
use Rattle.uvl_lines.specs.declared.ending.Ending.TheVariants.{Done, TooMuch, InputFailed, FetchFailed, WriteFailed, NoMemory}
use Rattle.uvl_lines.specs.Answers.{Replies, Fetching}
use Rattle.uvl_lines.specs.Lines.{ended_lines, script_lines}
use Rattle.uvl_lines.specs.Runs.{Goes, Stops, Breaks, flat}

-- all bytes of the input were taken, where it tells them
abbrev pub TakesAll : Option (List ℕ) → List ℕ → Type 0
TakesAll input taken = IfSome input (λ bytes. bytes ≡ taken)

-- The lines of what was taken of the input: those that ended in it, and where it is all of the input also its last
-- line.
abbrev pub AreLinesOf : Option (List ℕ) → List ℕ → List (List ℕ) → Type 0
AreLinesOf input taken lines = (lines ≡ ended_lines taken) ⊎ (TakesAll input taken × (lines ≡ script_lines taken))

-- each of the lines is answered, and this is said
abbrev pub IsAnswered : {A : Type 0} → Replies A → A → List (List ℕ) → List ℕ → Type 0
IsAnswered R s lines said = (texts : List (List ℕ)) × (t : _) × Goes R s lines texts t × (said ≡ flat texts)

-- What was said of a script of which these bytes were taken, by the ending.
abbrev pub Ends : {A : Type 0} → Replies A → Fetching A → A → Option (List ℕ) → List ℕ → List ℕ → Ending → Type 0
Ends R F s input taken said Done =
    TakesAll input taken × (length taken ≤ most_script_bytes) × IsAnswered R s (script_lines taken) said
Ends R F s input taken said TooMuch =
    (most_script_bytes < length taken) × IsAnswered R s (ended_lines (take most_script_bytes taken)) said
Ends R F s input taken said InputFailed =
    (length taken ≤ most_script_bytes) × IsAnswered R s (ended_lines taken) said
Ends R F s input taken said FetchFailed =
    (length taken ≤ most_script_bytes) × (lines : List (List ℕ)) × AreLinesOf input taken lines
    × Breaks R F s lines said
Ends R F s input taken said WriteFailed =
    (length taken ≤ most_script_bytes) × (lines : List (List ℕ)) × AreLinesOf input taken lines × Stops R s lines said
Ends R F s input taken said NoMemory =
    (length taken ≤ most_script_bytes) × (lines : List (List ℕ)) × AreLinesOf input taken lines × Stops R s lines said

-- Some bytes were taken from the front of the input, and what was said was written behind what was written before,
-- where source and sink tell their bytes.
pub record AnswersLines {A : Type 0} (R : Replies A) (F : Fetching A) (s : A)
    (input left written_before written : Option (List ℕ)) (ending : Ending) : Type 0 where
  pub taken : List ℕ
  pub said : List ℕ
  pub moved : Consumes input left taken
  pub wrote : Appends written_before written said
  pub ends : Ends R F s input taken said ending

-- the host failed while the input was read
abbrev pub is_input_failed : Ending → Bool
is_input_failed Done = false
is_input_failed TooMuch = false
is_input_failed InputFailed = true
is_input_failed FetchFailed = false
is_input_failed WriteFailed = false
is_input_failed NoMemory = false

-- the host failed while a file was fetched
abbrev pub is_fetch_failed : Ending → Bool
is_fetch_failed Done = false
is_fetch_failed TooMuch = false
is_fetch_failed InputFailed = false
is_fetch_failed FetchFailed = true
is_fetch_failed WriteFailed = false
is_fetch_failed NoMemory = false

-- the host failed while a reply was written
abbrev pub is_write_failed : Ending → Bool
is_write_failed Done = false
is_write_failed TooMuch = false
is_write_failed InputFailed = false
is_write_failed FetchFailed = false
is_write_failed WriteFailed = true
is_write_failed NoMemory = false

-- how a run ends with a fault of the sink
abbrev pub ending_of_put : PutFault → Ending
ending_of_put putting.Failed = WriteFailed
ending_of_put putting.OutOfMemory = NoMemory

-- how a run ends with a fault of what answers
abbrev pub ending_of_answer : AnswerFault → Ending
ending_of_answer answering.FetchFailed = FetchFailed
ending_of_answer answering.OutOfMemory = NoMemory
