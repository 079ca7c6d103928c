-- The run over files, a script and a sink in memory: what it writes and its status, by the files and the script alone.
use Rattle.std.specs.Prelude.{◌≡◌, ℕ, ◌<◌, ◌≤◌, List, [], length, take, Some}
use Rattle.uvl_outside.specs.Files.{Contents}
use Rattle.uvl_base.specs.declared.fault.ModelFault.{ModelFault}
use Rattle.uvl_base.specs.Limits.{most_script_bytes}
use Rattle.uvl_lines.specs.declared.ending.Ending.TheVariants as lines
use Rattle.uvl_lines.specs.Endings.{Ends, IsAnswered}
use Rattle.uvl_lines.specs.Lines.{ended_lines, script_lines}
use Rattle.uvl_lines.specs.Runs.{IsFrontOf}
use Rattle.uvl_imports.specs.declared.file_set.Loaded.{Loaded}
use Rattle.uvl_words.specs.CommandLine.{usage_line}
use Rattle.uvl_run.specs.declared.status.Status.{Status}
use Rattle.uvl_run.specs.declared.status.Status.TheVariants.{Done, Usage, Model, ReadFault, WriteFault, OverBudget, NoMemory, TooMuchInput}
use Rattle.uvl_run.specs.Budget.{IsShortFor, budget_line}
use Rattle.uvl_run.specs.Loading.{IsSetOf, HasFault}
use Rattle.uvl_run.specs.Replies.{Reply, Fetches}
use Rattle.uvl_run.specs.Run.{IsRefused, NamesModel, fault_line}
use Rattle.uvl_run.specs.State.{State, IsStart}

-- the words name the main file of this set, with this budget
pub record HasFiles (words : List (List ℕ)) (contents : Contents) (files : List Loaded) (budget : ℕ) : Type 0 where
  pub path : List ℕ
  pub named : NamesModel words path budget
  pub is : IsSetOf contents path files

-- the words name a main file with a fault, of which this is the line
pub record HasFaultLine (words : List (List ℕ)) (contents : Contents) (line : List ℕ) : Type 0 where
  pub path : List ℕ
  pub budget : ℕ
  pub named : NamesModel words path budget
  pub fault : ModelFault
  pub is : HasFault contents path fault
  pub spelled : line ≡ fault_line fault

-- the budget is too small for the products of the files that the words name
pub record HasShortBudget (words : List (List ℕ)) (contents : Contents) : Type 0 where
  pub files : List Loaded
  pub budget : ℕ
  pub has : HasFiles words contents files budget
  pub short : IsShortFor files budget

-- each of the lines is answered by the products of the files
abbrev pub IsAnsweredFrom : List Loaded → ℕ → List (List ℕ) → List ℕ → Type 0
IsAnsweredFrom files budget lines said =
    (start : State) × IsStart files budget start × IsAnswered Reply start lines said

-- What a run has said where memory is wanting: nothing; or a front of the one line that would be the whole run; or
-- whole replies to lines of the script, and perhaps a front of the next. These stand in a front of the script which is
-- no longer than a script may be.
pub data IsCutShort (words : List (List ℕ)) (contents : Contents) (script said : List ℕ) : Type 0 where
  nothing : said ≡ [] → IsCutShort words contents script said
  in_usage : IsRefused words → IsFrontOf said usage_line → IsCutShort words contents script said
  in_fault : (line : List ℕ) → HasFaultLine words contents line → IsFrontOf said line
      → IsCutShort words contents script said
  in_budget : HasShortBudget words contents → IsFrontOf said budget_line → IsCutShort words contents script said
  in_script : (files : List Loaded) (budget : ℕ) (start : State) (taken : List ℕ)
      → HasFiles words contents files budget → IsStart files budget start → IsFrontOf taken script
      → Ends Reply Fetches start (Some script) taken said lines.NoMemory
      → IsCutShort words contents script said

-- Refused words give the usage line, a fault of the model its line, and a budget that is too small for its products may
-- give the line for that. Else the lines of the script have their replies: all of them, or those that end within the
-- bytes that a script may have.
abbrev pub IsRun : List (List ℕ) → Contents → List ℕ → List ℕ → Status → Type 0
IsRun words contents script said Done =
    (files : List Loaded) × (budget : ℕ) × HasFiles words contents files budget
    × (length script ≤ most_script_bytes) × IsAnsweredFrom files budget (script_lines script) said
IsRun words contents script said Usage = IsRefused words × (said ≡ usage_line)
IsRun words contents script said Model = HasFaultLine words contents said
IsRun words contents script said ReadFault = ⊥
IsRun words contents script said WriteFault = ⊥
IsRun words contents script said OverBudget = HasShortBudget words contents × (said ≡ budget_line)
IsRun words contents script said NoMemory = IsCutShort words contents script said
IsRun words contents script said TooMuchInput =
    (files : List Loaded) × (budget : ℕ) × HasFiles words contents files budget
    × (most_script_bytes < length script)
    × IsAnsweredFrom files budget (ended_lines (take most_script_bytes script)) said
