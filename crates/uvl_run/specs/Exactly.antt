-- When each status comes, in both directions.
use Rattle.std.specs.Prelude.{◌≡◌, ℕ, ◌<◌, ◌≤◌, ◌⊎◌, List, [], ◌∷◌, length, Option, Some, None, IfSome}
use Rattle.uvl_outside.specs.Files.{Contents}
use Rattle.uvl_base.specs.declared.fault.ModelFault.{ModelFault}
use Rattle.uvl_base.specs.Limits.{most_script_bytes}
use Rattle.uvl_imports.specs.declared.file_set.Loaded.{Loaded}
use Rattle.uvl_run.specs.declared.status.Status.{Status}
use Rattle.uvl_run.specs.declared.status.Status.TheVariants.{Done, Usage, Model, ReadFault, WriteFault, OverBudget, NoMemory, TooMuchInput}
use Rattle.uvl_run.specs.Budget.{IsShortFor}
use Rattle.uvl_run.specs.Loading.{IsSetOf, HasFault}
use Rattle.uvl_run.specs.Outside.{Object, the_files, the_input, the_output, Outside, AreCounted}
use Rattle.uvl_run.specs.Run.{NamesModel, IsRefused, IsAccepted, IsFaulty}
use Rattle.uvl_run.specs.Status.{fault_status}

-- ---- the cause of a status

-- the words name a main file, and nothing is wrong in its set
abbrev pub HasAcceptedModel : List (List ℕ) → Option Contents → Type 0
HasAcceptedModel words told = (files : List Loaded) × (budget : ℕ) × IsAccepted words told files budget

-- what is known where a run has this status; want of memory has no cause
abbrev pub HasCause : List (List ℕ) → Option Contents → Outside → Outside → Status → Type 0
HasCause words told before now Done =
    HasAcceptedModel words told × IfSome before.left (λ bytes. length bytes ≤ most_script_bytes)
    × AreCounted None before now
HasCause words told before now Usage = IsRefused words × AreCounted None before now
HasCause words told before now Model =
    (fault : ModelFault) × IsFaulty words told fault × AreCounted None before now
HasCause words told before now ReadFault =
    AreCounted (Some the_files) before now ⊎ AreCounted (Some the_input) before now
HasCause words told before now WriteFault = AreCounted (Some the_output) before now
HasCause words told before now OverBudget =
    (files : List Loaded) × (budget : ℕ) × IsAccepted words told files budget × IsShortFor files budget
    × AreCounted None before now
HasCause words told before now NoMemory = AreCounted None before now
HasCause words told before now TooMuchInput =
    HasAcceptedModel words told × IfSome before.left (λ bytes. most_script_bytes < length bytes)
    × AreCounted None before now

-- ---- where a status comes

-- The words name a main file that is told to be that of a set in which nothing is wrong, and give a budget.
pub record HasModel (words : List (List ℕ)) (told : Option Contents) : Type 0 where
  pub path : List ℕ
  pub budget : ℕ
  pub named : NamesModel words path budget
  pub contents : Contents
  pub tells : told ≡ Some contents
  pub files : List Loaded
  pub is : IsSetOf contents path files

-- The words name a main file that is told to have a fault.
pub record HasFaultyModel (words : List (List ℕ)) (told : Option Contents) : Type 0 where
  pub path : List ℕ
  pub budget : ℕ
  pub named : NamesModel words path budget
  pub contents : Contents
  pub tells : told ≡ Some contents
  pub fault : ModelFault
  pub is : HasFault contents path fault

-- one of these objects failed, which was counted, and the status is that of its fault
abbrev pub HasFailed : List Object → Outside → Outside → Status → Type 0
HasFailed [] before now status = ⊥
HasFailed (object ∷ objects) before now status =
    ((status ≡ fault_status object) × AreCounted (Some object) before now) ⊎ HasFailed objects before now status

-- the status is this one, unless memory is wanting, or one of these objects failed before it came to that
abbrev pub ComesUnless : List Object → Outside → Outside → Status → Status → Type 0
ComesUnless objects before now expected status =
    (status ≡ expected) ⊎ (status ≡ NoMemory) ⊎ HasFailed objects before now status

-- The same of a status that needs the products of the model: where the budget is too small for them, OverBudget may come
-- in its place.
abbrev pub ComesOfProducts : List (List ℕ) → Option Contents → Outside → Outside → Status → Status → Type 0
ComesOfProducts words told before now expected status = (model : HasModel words told)
    → (IsShortFor model.files model.budget × (status ≡ OverBudget))
    ⊎ ComesUnless (the_files ∷ the_input ∷ the_output ∷ []) before now expected status

-- Each status comes only where its cause is. Where the cause of one is with which a run ends by itself, that status
-- comes, unless a counted fault or want of memory is in its way; a fault of the input is in the way of no model. So each
-- line of a script that is not too long has its reply where the budget is not too small, but for these.
pub record IsExact (words : List (List ℕ)) (told : Option Contents) (before now : Outside) (status : Status) :
    Type 0 where
  pub cause : HasCause words told before now status
  pub usage : IsRefused words → ComesUnless (the_output ∷ []) before now Usage status
  pub model : HasFaultyModel words told → ComesUnless (the_files ∷ the_output ∷ []) before now Model status
  pub done : (bytes : List ℕ) → before.left ≡ Some bytes → length bytes ≤ most_script_bytes
      → ComesOfProducts words told before now Done status
  pub too_much_input : (bytes : List ℕ) → before.left ≡ Some bytes → most_script_bytes < length bytes
      → ComesOfProducts words told before now TooMuchInput status
