-- How each end of a run comes about.
use Rattle.std.proofs.Common.{◌≡◌, ℕ, Bool, true, false, IsFalse, List, [], take, Option, Some, None, Err, inl, inr, refl, sym, ap, ◌∙◌, subst, arith}
use Rattle.std.specs.Prelude.{⊤}
use Rattle.std.specs.Io.KnownBytes.{Appends}
use Rattle.uvl_outside.specs.Faults.{Counts}
use Rattle.uvl_outside.specs.Files.{Contents}
use Rattle.uvl_outside.specs.Sink.{AppendsFront, put_failed}
use Rattle.uvl_outside.specs.declared.sink.PutFault.{PutFault}
use Rattle.uvl_outside.specs.declared.sink.PutFault.TheVariants as putting
use Rattle.uvl_lines.specs.declared.ending.Ending.{Ending}
use Rattle.uvl_lines.specs.declared.ending.Ending.TheVariants as lines
use Rattle.uvl_lines.specs.Endings.{AnswersLines, ending_of_put, is_input_failed, is_fetch_failed, is_write_failed}
use Rattle.uvl_base.specs.declared.fault.ModelFault.{ModelFault}
use Rattle.uvl_imports.specs.declared.file_set.Loaded.{Loaded}
use Rattle.uvl_model.specs.Constraints.{constraints_of}
use Rattle.uvl_model.specs.Products.{Products}
use Rattle.uvl_model.specs.Rows.{Rows}
use Rattle.uvl_placing.specs.Files.{main_constraints}
use Rattle.uvl_placing.specs.Options.{of_both}
use Rattle.uvl_resolve.specs.Flat.{Flat}
use Rattle.uvl_resolve.specs.Laws.{FlatKeepsProducts}
use Rattle.uvl_semantics.specs.Constraint.{Constraint}
use Rattle.uvl_semantics.specs.Family.{Family, ProductsOf}
use Rattle.uvl_semantics.specs.Tree.{Tree}
use Rattle.uvl_words.specs.CommandLine.{request_of, usage_line}
use Rattle.uvl_run.specs.declared.status.Status.{Status}
use Rattle.uvl_run.specs.declared.status.Status.TheVariants.{Usage, Model, OverBudget}
use Rattle.uvl_run.specs.Budget.{IsShortFor, budget_line}
use Rattle.uvl_run.specs.Loading.{LoadsSet, LoadsFault}
use Rattle.uvl_run.specs.Models.{products_of}
use Rattle.uvl_run.specs.Outside.{Object, Outside, the_files, the_input, the_output, has_failed, seen}
use Rattle.uvl_run.specs.Replies.{Reply, Fetches}
use Rattle.uvl_run.specs.Run.{NamesModel, IsFaulty, IsAccepted, SaysLine, EndsRun, Answers, fault_line, words_refused, model_faulty, over_budget, model_unread, starved, script_answered}
use Rattle.uvl_run.specs.State.{State, start_of, IsStart}
use Rattle.uvl_run.specs.Status.{Outcome, outcome_of}
use Rattle.uvl_run.specs.steps.Says.{WritesLine}
use Rattle.uvl_run.proofs.Told.{appends_nothing, consumes_nothing, take-IsFrontOf}

-- ---- counts

-- a count that nothing was done to
pub uncounted : (n : ℕ) → Counts n n false
uncounted n = record { never_falls = omega arith; rises = tt; stays = refl }

uncounted_by : (n : ℕ) (failed : Bool) → IsFalse failed → Counts n n failed
uncounted_by n failed is = let P : Bool → Type 0 = λ b. Counts n n b in subst P (sym is) (uncounted n)

-- the object that an ending names
fetch_failed_is : (ending : Ending) → is_fetch_failed ending ≡ has_failed the_files (outcome_of ending).failed
fetch_failed_is lines.Done = refl
fetch_failed_is lines.TooMuch = refl
fetch_failed_is lines.InputFailed = refl
fetch_failed_is lines.FetchFailed = refl
fetch_failed_is lines.WriteFailed = refl
fetch_failed_is lines.NoMemory = refl

input_failed_is : (ending : Ending) → is_input_failed ending ≡ has_failed the_input (outcome_of ending).failed
input_failed_is lines.Done = refl
input_failed_is lines.TooMuch = refl
input_failed_is lines.InputFailed = refl
input_failed_is lines.FetchFailed = refl
input_failed_is lines.WriteFailed = refl
input_failed_is lines.NoMemory = refl

write_failed_is : (ending : Ending) → is_write_failed ending ≡ has_failed the_output (outcome_of ending).failed
write_failed_is lines.Done = refl
write_failed_is lines.TooMuch = refl
write_failed_is lines.InputFailed = refl
write_failed_is lines.FetchFailed = refl
write_failed_is lines.WriteFailed = refl
write_failed_is lines.NoMemory = refl

-- a fault of the sink, as an ending names it
pub put_failed_is : (fault : PutFault) (before now : ℕ) → Counts before now (put_failed {T = ⊤} (Err fault)) → Counts before now (has_failed the_output (outcome_of (ending_of_put fault)).failed)
put_failed_is putting.Failed before now counted = counted
put_failed_is putting.OutOfMemory before now counted = counted

-- ---- outcomes

abbrev pub outcome : Status → Option Object → Outcome
outcome status failed = record { status = status; failed = failed }

whole_outcome : (ending : Ending) → outcome (outcome_of ending).status (outcome_of ending).failed ≡ outcome_of ending
whole_outcome lines.Done = refl
whole_outcome lines.TooMuch = refl
whole_outcome lines.InputFailed = refl
whole_outcome lines.FetchFailed = refl
whole_outcome lines.WriteFailed = refl
whole_outcome lines.NoMemory = refl

-- an outcome with the status of an ending, and with the object that it names
pub outcome_is : (ending : Ending) (status : Status) → status ≡ (outcome_of ending).status → outcome status (outcome_of ending).failed ≡ outcome_of ending
outcome_is ending status is = ap (λ (s : Status). outcome s (outcome_of ending).failed) is ∙ whole_outcome ending

-- ---- the one line of a run

module _ (line : List ℕ) (whole : Status) (before now : Option (List ℕ)) (faults_before faults : ℕ) where
  -- it was written
  pub written_whole : Appends before now line → Counts faults_before faults false → WritesLine line whole before now faults_before faults whole
  written_whole wrote counted = record {
    said = line;
    failed = None;
    wrote = wrote;
    says = inl (refl, refl);
    output = counted;
    no_files = refl;
    no_input = refl;
  }

  -- writing it failed
  pub written_partly : (fault : PutFault) (status : Status) → status ≡ (outcome_of (ending_of_put fault)).status → AppendsFront before now line
      → Counts faults_before faults (has_failed the_output (outcome_of (ending_of_put fault)).failed) → WritesLine line whole before now faults_before faults status
  written_partly putting.Failed status is wrote counted = record {
    said = take wrote.0 line;
    failed = Some the_output;
    wrote = wrote.1;
    says = inr (putting.Failed, take-IsFrontOf wrote.0 line, outcome_is lines.WriteFailed status is);
    output = counted;
    no_files = refl;
    no_input = refl;
  }
  written_partly putting.OutOfMemory status is wrote counted = record {
    said = take wrote.0 line;
    failed = None;
    wrote = wrote.1;
    says = inr (putting.OutOfMemory, take-IsFrontOf wrote.0 line, outcome_is lines.NoMemory status is);
    output = counted;
    no_files = refl;
    no_input = refl;
  }

-- ---- the ends

module _ (words : List (List ℕ)) (told : Option Contents) (left w w' : Option (List ℕ)) (files input output output' : ℕ) where
  -- a run that says one line, and takes nothing of its input
  says_once : (line : List ℕ) (whole status : Status) → ((said : List ℕ) (o : Outcome) → SaysLine line whole said o → EndsRun words told left [] said o)
      → WritesLine line whole w w' output output' status → Answers words told (seen left w files input output) (seen left w' files input output') status
  says_once line whole status ends writes = record {
    taken = [];
    said = writes.said;
    failed = writes.failed;
    moved = consumes_nothing left;
    wrote = writes.wrote;
    ends = ends writes.said (outcome status writes.failed) writes.says;
    counted = record {
      files = uncounted_by files (has_failed the_files writes.failed) writes.no_files;
      input = uncounted_by input (has_failed the_input writes.failed) writes.no_input;
      output = writes.output;
    };
  }

  -- the words were refused
  pub refused : (status : Status) → request_of words ≡ None → WritesLine usage_line Usage w w' output output' status
      → Answers words told (seen left w files input output) (seen left w' files input output') status
  refused status none = says_once usage_line Usage status (λ said o says. words_refused none refl says)

  -- the model has a fault
  pub faulty : (path : List ℕ) (budget : ℕ) (fault : ModelFault) (status : Status) → NamesModel words path budget → LoadsFault told path fault
      → WritesLine (fault_line fault) Model w w' output output' status → Answers words told (seen left w files input output) (seen left w' files input output') status
  faulty path budget fault status named has =
      let is : IsFaulty words told fault = record { path = path; budget = budget; named = named; faulty = has } in
      says_once (fault_line fault) Model status (λ said o says. model_faulty fault is refl says)

  -- the budget is too small for the products of the model
  pub short : (path : List ℕ) (budget : ℕ) (set : List Loaded) (status : Status) → NamesModel words path budget → LoadsSet told path set → IsShortFor set budget
      → WritesLine budget_line OverBudget w w' output output' status → Answers words told (seen left w files input output) (seen left w' files input output') status
  short path budget set status named loads few =
      let is : IsAccepted words told set budget = record { path = path; named = named; loads = loads } in
      says_once budget_line OverBudget status (λ said o says. over_budget set budget is few refl says)

module _ (words : List (List ℕ)) (told : Option Contents) (left w : Option (List ℕ)) (files files' input output : ℕ) where
  -- the host failed while the model was read
  pub unread : (path : List ℕ) (budget : ℕ) (status : Status) → NamesModel words path budget → status ≡ (outcome_of lines.FetchFailed).status → Counts files files' true
      → Answers words told (seen left w files input output) (seen left w files' input output) status
  unread path budget status named is counted = record {
    taken = [];
    said = [];
    failed = Some the_files;
    moved = consumes_nothing left;
    wrote = appends_nothing w;
    ends = model_unread path budget named (refl, refl) (outcome_is lines.FetchFailed status is);
    counted = record { files = counted; input = uncounted input; output = uncounted output };
  }

module _ (words : List (List ℕ)) (told : Option Contents) (left w : Option (List ℕ)) (files input output : ℕ) where
  -- memory was wanting before anything was taken or said
  pub no_memory : (status : Status) → status ≡ (outcome_of lines.NoMemory).status → Answers words told (seen left w files input output) (seen left w files input output) status
  no_memory status is = record {
    taken = [];
    said = [];
    failed = None;
    moved = consumes_nothing left;
    wrote = appends_nothing w;
    ends = starved (refl, refl) (outcome_is lines.NoMemory status is);
    counted = record { files = uncounted files; input = uncounted input; output = uncounted output };
  }

counted_as : (before now : ℕ) (a b : Bool) → a ≡ b → Counts before now a → Counts before now b
counted_as before now a b same counted = let P : Bool → Type 0 = λ failed. Counts before now failed in subst P same counted

module _ (words : List (List ℕ)) (told : Option Contents) (left left' w w' : Option (List ℕ)) (files files' input input' output output' : ℕ) where
  -- the script was answered
  pub answered : (path : List ℕ) (budget : ℕ) (set : List Loaded) (start : State) (ending : Ending) (status : Status) → NamesModel words path budget → LoadsSet told path set
      → IsStart set budget start → AnswersLines Reply Fetches start left left' w w' ending → status ≡ (outcome_of ending).status
      → Counts files files' (is_fetch_failed ending) → Counts input input' (is_input_failed ending) → Counts output output' (is_write_failed ending)
      → Answers words told (seen left w files input output) (seen left' w' files' input' output') status
  answered path budget set start ending status named loads starts run is files_counted input_counted output_counted =
      let accepted : IsAccepted words told set budget = record { path = path; named = named; loads = loads } in
      record {
        taken = run.taken;
        said = run.said;
        failed = (outcome_of ending).failed;
        moved = run.moved;
        wrote = run.wrote;
        ends = script_answered set budget start ending accepted starts run.ends (outcome_is ending status is);
        counted = record {
          files = counted_as files files' _ _ (fetch_failed_is ending) files_counted;
          input = counted_as input input' _ _ (input_failed_is ending) input_counted;
          output = counted_as output output' _ _ (write_failed_is ending) output_counted;
        };
      }

-- what is answered from the moment on at which a model was loaded is answered from before, where no fault was counted
pub from_loaded : (words : List (List ℕ)) (told told' : Option Contents) (left w : Option (List ℕ)) (files files' input output : ℕ) (now : Outside) (status : Status) → told' ≡ told → files' ≡ files
    → Answers words told' (seen left w files' input output) now status → Answers words told (seen left w files input output) now status
from_loaded words told told' left w files files' input output now status same_told same_files answers =
    let P : ℕ → Type 0 = λ n. Answers words told' (seen left w n input output) now status in
    let Q : Option Contents → Type 0 = λ t. Answers words t (seen left w files input output) now status in
    subst Q same_told (subst P same_files answers)

-- ---- the model

-- the products of the rows that a set of files says are those of the set
pub products_are : FlatKeepsProducts → (files : List Loaded) (rows : Rows) → Flat files rows → products_of files ≡ Some (Products rows)
products_are keeps files rows flat =
    ap (λ (t : Option Tree). of_both ProductsOf t (main_constraints files)) flat.placed
    ∙ ap (λ (cs : Option (List Constraint)). of_both ProductsOf (Some flat.tree) cs) flat.constraints
    ∙ ap (λ (f : Family). Some f) (sym (keeps files rows flat.tree (constraints_of rows) flat flat.placed flat.constraints))

-- and the state of such rows is one in front of the first line
pub starts_with : FlatKeepsProducts → (files : List Loaded) (rows : Rows) (budget : ℕ) (state : State) → Flat files rows → state ≡ start_of rows budget → IsStart files budget state
starts_with keeps files rows budget state flat is =
    let P : State → Type 0 = λ s. Flat files s.main in
    record { flat = subst P (sym is) flat; products = products_are keeps files rows flat ∙ ap (λ (s : State). Some (Products s.main)) (sym is); table = ap (λ (s : State). s.budget) is }
