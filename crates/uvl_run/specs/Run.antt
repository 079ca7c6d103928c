-- What a run of the program writes, and how it ends, for every command line, every file and every script.
use Rattle.std.specs.Prelude.{◌≡◌, ℕ, ◌⊎◌, List, [], ◌++◌, Option, Some, None, codes}
use Rattle.std.specs.Io.KnownBytes.{Consumes, Appends}
use Rattle.uvl_outside.specs.Files.{Contents}
use Rattle.uvl_outside.specs.declared.sink.PutFault.{PutFault}
use Rattle.uvl_base.specs.declared.fault.ModelFault.{ModelFault}
use Rattle.uvl_base.specs.Fault.{fault_text}
use Rattle.uvl_lines.specs.declared.ending.Ending.{Ending}
use Rattle.uvl_lines.specs.declared.ending.Ending.TheVariants.{FetchFailed, NoMemory}
use Rattle.uvl_lines.specs.Endings.{Ends, ending_of_put}
use Rattle.uvl_lines.specs.Runs.{IsFrontOf}
use Rattle.uvl_imports.specs.declared.file_set.Loaded.{Loaded}
use Rattle.uvl_words.specs.CommandLine.{for_model, request_of, usage_line}
use Rattle.uvl_run.specs.declared.status.Status.{Status}
use Rattle.uvl_run.specs.declared.status.Status.TheVariants.{Usage, Model, OverBudget}
use Rattle.uvl_run.specs.Budget.{IsShortFor, budget_line}
use Rattle.uvl_run.specs.Loading.{LoadsSet, LoadsFault}
use Rattle.uvl_run.specs.Outside.{Object, Outside, AreCounted}
use Rattle.uvl_run.specs.Replies.{Reply, Fetches}
use Rattle.uvl_run.specs.State.{State, IsStart}
use Rattle.uvl_run.specs.Status.{Outcome, unhindered, outcome_of}

-- ---- what the words name

-- the words are refused
abbrev pub IsRefused : List (List ℕ) → Type 0
IsRefused words = request_of words ≡ None

-- the words name the model whose main file is at the path, with a table that may hold so many nodes
abbrev pub NamesModel : List (List ℕ) → List ℕ → ℕ → Type 0
NamesModel words path budget = request_of words ≡ Some (for_model path budget)

-- the words name the main file of this set, with this budget
pub record IsAccepted (words : List (List ℕ)) (told : Option Contents) (files : List Loaded) (budget : ℕ) :
    Type 0 where
  pub path : List ℕ
  pub named : NamesModel words path budget
  pub loads : LoadsSet told path files

-- the words name a main file, and it has the fault
pub record IsFaulty (words : List (List ℕ)) (told : Option Contents) (fault : ModelFault) : Type 0 where
  pub path : List ℕ
  pub budget : ℕ
  pub named : NamesModel words path budget
  pub faulty : LoadsFault told path fault

-- what is written of a fault of the model
unfoldable pub fault_line : ModelFault → List ℕ
fault_line fault = codes "fault " ++ fault_text fault ++ codes "\n"

-- ---- how a run ends

-- nothing was taken, and nothing was said
abbrev pub IsUntouched : List ℕ → List ℕ → Type 0
IsUntouched taken said = (taken ≡ []) × (said ≡ [])

-- one line is the whole run, which then has this status; or only a front of it was said, as writing it failed
abbrev pub SaysLine : List ℕ → Status → List ℕ → Outcome → Type 0
SaysLine line status said outcome =
    ((said ≡ line) × (outcome ≡ unhindered status))
    ⊎ ((fault : PutFault) × IsFrontOf said line × (outcome ≡ outcome_of (ending_of_put fault)))

-- What was said by a run that took these bytes of its input, and its outcome. Refused words give the usage line, a fault
-- of the model its line, and a budget that is too small for its products may give the line for that: nothing is taken of
-- the input then. Else the lines of the script have their replies, as the ending of the script says.
pub data EndsRun (words : List (List ℕ)) (told : Option Contents) (input : Option (List ℕ)) (taken said : List ℕ)
    (outcome : Outcome) : Type 0 where
  words_refused : IsRefused words → taken ≡ [] → SaysLine usage_line Usage said outcome
      → EndsRun words told input taken said outcome
  model_faulty : (fault : ModelFault) → IsFaulty words told fault → taken ≡ []
      → SaysLine (fault_line fault) Model said outcome → EndsRun words told input taken said outcome
  over_budget : (files : List Loaded) (budget : ℕ) → IsAccepted words told files budget → IsShortFor files budget
      → taken ≡ [] → SaysLine budget_line OverBudget said outcome → EndsRun words told input taken said outcome
  -- the host failed while the files of the model were read
  model_unread : (path : List ℕ) (budget : ℕ) → NamesModel words path budget → IsUntouched taken said
      → outcome ≡ outcome_of FetchFailed → EndsRun words told input taken said outcome
  -- memory was wanting in front of the script
  starved : IsUntouched taken said → outcome ≡ outcome_of NoMemory → EndsRun words told input taken said outcome
  script_answered : (files : List Loaded) (budget : ℕ) (start : State) (ending : Ending)
      → IsAccepted words told files budget → IsStart files budget start
      → Ends Reply Fetches start input taken said ending → outcome ≡ outcome_of ending
      → EndsRun words told input taken said outcome

-- Some bytes were taken from the front of the input, and what was said was written behind what was written before, where
-- source and sink tell their bytes. A fault ends the run: so the count of the object that failed rose, where one did, and
-- no other.
pub record Answers (words : List (List ℕ)) (told : Option Contents) (before now : Outside) (status : Status) :
    Type 0 where
  pub taken : List ℕ
  pub said : List ℕ
  pub failed : Option Object
  pub moved : Consumes before.left now.left taken
  pub wrote : Appends before.written now.written said
  pub ends : EndsRun words told before.left taken said (record { status = status; failed = failed })
  pub counted : AreCounted failed before now
