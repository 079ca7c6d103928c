-- The statuses of a run: their numbers, and which of them each ending has.
use Rattle.std.specs.Prelude.{ℕ, Option, Some, None}
use Rattle.uvl_lines.specs.declared.ending.Ending.{Ending}
use Rattle.uvl_lines.specs.declared.ending.Ending.TheVariants as lines
use Rattle.uvl_run.specs.Outside.{Object, the_files, the_input, the_output}
use Rattle.uvl_run.specs.declared.status.Status.{Status}
use Rattle.uvl_run.specs.declared.status.Status.TheVariants.{Done, Usage, Model, ReadFault, WriteFault, OverBudget, NoMemory, TooMuchInput}

-- the exit status of the program
abbrev pub number_of : Status → ℕ
number_of Done = 0
number_of Usage = 2
number_of Model = 3
number_of ReadFault = 4
number_of WriteFault = 5
number_of OverBudget = 6
number_of NoMemory = 7
number_of TooMuchInput = 8

-- how a run ends: its status, and the object whose fault ended it, if one did
pub record Outcome : Type 0 where
  pub status : Status
  pub failed : Option Object

-- no object failed
abbrev pub unhindered : Status → Outcome
unhindered status = record { status = status; failed = None }

-- the status where an object failed
abbrev pub fault_status : Object → Status
fault_status the_files = ReadFault
fault_status the_input = ReadFault
fault_status the_output = WriteFault

-- an object failed
abbrev pub failure_of : Object → Outcome
failure_of object = record { status = fault_status object; failed = Some object }

-- what each ending of a script is to the run
abbrev pub outcome_of : Ending → Outcome
outcome_of lines.Done = unhindered Done
outcome_of lines.TooMuch = unhindered TooMuchInput
outcome_of lines.InputFailed = failure_of the_input
outcome_of lines.FetchFailed = failure_of the_files
outcome_of lines.WriteFailed = failure_of the_output
outcome_of lines.NoMemory = unhindered NoMemory
