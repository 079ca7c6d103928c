-- Over objects that tell everything and never fail, what a run answers is the run of its files and its script.
use Rattle.std.proofs.Common.{◌≡◌, ℕ, ◌<◌, ◌≤◌, List, ◌++◌, length, take, Some, inl, inr, refl, sym, ap, ◌∙◌, subst, arith, length-append}
use Rattle.std.proofs.lemmas.List.{take-append-le}
use Rattle.uvl_outside.specs.Files.{Contents}
use Rattle.uvl_outside.specs.declared.sink.PutFault.{PutFault}
use Rattle.uvl_outside.specs.declared.sink.PutFault.TheVariants as putting
use Rattle.uvl_base.specs.Limits.{most_script_bytes}
use Rattle.uvl_lines.specs.declared.ending.Ending.{Ending}
use Rattle.uvl_lines.specs.declared.ending.Ending.TheVariants as lines
use Rattle.uvl_lines.specs.Endings.{Ends, IsAnswered, ending_of_put}
use Rattle.uvl_lines.specs.Lines.{ended_lines, script_lines}
use Rattle.uvl_lines.specs.Runs.{IsFrontOf}
use Rattle.uvl_base.specs.declared.fault.ModelFault.{ModelFault}
use Rattle.uvl_imports.specs.declared.file_set.Loaded.{Loaded}
use Rattle.uvl_run.specs.declared.status.Status.{Status}
use Rattle.uvl_run.specs.declared.status.Status.TheVariants.{Usage, Model, OverBudget}
use Rattle.uvl_run.specs.InMemory.{HasFiles, HasFaultLine, HasShortBudget, IsCutShort, IsRun, nothing, in_usage, in_fault, in_budget, in_script}
use Rattle.uvl_run.specs.Budget.{IsShortFor}
use Rattle.uvl_run.specs.Outside.{Object, the_files, the_input, the_output, Outside, seen, AreCounted}
use Rattle.uvl_run.specs.Replies.{Reply, Fetches}
use Rattle.uvl_run.specs.Run.{IsAccepted, IsFaulty, SaysLine, EndsRun, Answers, fault_line, words_refused, model_faulty, over_budget, model_unread, starved, script_answered}
use Rattle.uvl_run.specs.State.{State, IsStart}
use Rattle.uvl_run.specs.Status.{Outcome, unhindered, outcome_of}

module _ (words : List (List ℕ)) (contents : Contents) (script left written_before written : List ℕ) where
  -- the objects before and now: none has failed
  abbrev before : Outside
  before = seen (Some script) (Some written_before) 0 0 0

  abbrev now : Outside
  now = seen (Some left) (Some written) 0 0 0

  -- no object has failed
  none_failed : (object : Object) → AreCounted (Some object) before now → ⊥
  none_failed the_files counted = let rose = counted.files.rises in absurd (omega arith)
  none_failed the_input counted = let rose = counted.input.rises in absurd (omega arith)
  none_failed the_output counted = let rose = counted.output.rises in absurd (omega arith)

  -- what is known of an outcome, the counts with it
  abbrev Plain : List ℕ → Outcome → Type 0
  Plain said o = AreCounted o.failed before now → IsRun words contents script said o.status

  plain_as : (said : List ℕ) (o given : Outcome) → o ≡ given → Plain said given → Plain said o
  plain_as said o given is plain = let P : Outcome → Type 0 = λ x. Plain said x in subst P (sym is) plain

  files_at : (files : List Loaded) (budget : ℕ) → IsAccepted words (Some contents) files budget → HasFiles words contents files budget
  files_at files budget accepted = record { path = accepted.path; named = accepted.named; is = record { loads = accepted.loads.loads; accepted = accepted.loads.accepted } }

  by_put : (said : List ℕ) (fault : PutFault) → IsCutShort words contents script said → Plain said (outcome_of (ending_of_put fault))
  by_put said putting.Failed short counted = absurd (none_failed the_output counted)
  by_put said putting.OutOfMemory short counted = short

  -- the one line of a run was written, or memory was wanting for it
  by_line : (line said : List ℕ) (status : Status) (o : Outcome) → SaysLine line status said o → (said ≡ line → IsRun words contents script said status)
      → (IsFrontOf said line → IsCutShort words contents script said) → Plain said o
  by_line line said status o (inl whole) run short = plain_as said o (unhindered status) whole.1 (λ counted. run whole.0)
  by_line line said status o (inr front) run short = plain_as said o (outcome_of (ending_of_put front.0)) front.2 (by_put said front.0 (short front.1))

  -- the first bytes of a script are those of what was taken of it
  front_of_taken : (taken : List ℕ) → script ≡ taken ++ left → most_script_bytes < length taken → take most_script_bytes taken ≡ take most_script_bytes script
  front_of_taken taken moved long =
      let fits : most_script_bytes ≤ length taken = omega arith in
      sym (ap (take most_script_bytes) moved ∙ take-append-le most_script_bytes taken left fits)

  by_ending : (files : List Loaded) (budget : ℕ) (start : State) (taken said : List ℕ) (ending : Ending) → script ≡ taken ++ left → IsAccepted words (Some contents) files budget → IsStart files budget start
      → Ends Reply Fetches start (Some script) taken said ending → Plain said (outcome_of ending)
  by_ending files budget start taken said lines.Done moved accepted starts ends counted =
      let P : List ℕ → Type 0 = λ bytes. IsAnswered Reply start (script_lines bytes) said in
      (files, budget, files_at files budget accepted, omega (arith, ap length ends.0, ends.1), (start, starts, subst P (sym ends.0) ends.2))
  by_ending files budget start taken said lines.TooMuch moved accepted starts ends counted =
      let P : List ℕ → Type 0 = λ bytes. IsAnswered Reply start (ended_lines bytes) said in
      let long : most_script_bytes < length script = omega (arith, ends.0, ap length moved, length-append taken left) in
      (files, budget, files_at files budget accepted, long, (start, starts, subst P (front_of_taken taken moved ends.0) ends.1))
  by_ending files budget start taken said lines.InputFailed moved accepted starts ends counted = absurd (none_failed the_input counted)
  by_ending files budget start taken said lines.FetchFailed moved accepted starts ends counted = absurd (none_failed the_files counted)
  by_ending files budget start taken said lines.WriteFailed moved accepted starts ends counted = absurd (none_failed the_output counted)
  by_ending files budget start taken said lines.NoMemory moved accepted starts ends counted =
      in_script files budget start taken (files_at files budget accepted) starts (left, sym moved) ends

  fault_line_of : (fault : ModelFault) (line : List ℕ) → IsFaulty words (Some contents) fault → line ≡ fault_line fault → HasFaultLine words contents line
  fault_line_of fault line faulty is =
      record { path = faulty.path; budget = faulty.budget; named = faulty.named; fault = fault; is = faulty.faulty; spelled = is }

  short_budget_of : (files : List Loaded) (budget : ℕ) → IsAccepted words (Some contents) files budget → IsShortFor files budget → HasShortBudget words contents
  short_budget_of files budget accepted short = record { files = files; budget = budget; has = files_at files budget accepted; short = short }

  plain : (taken said : List ℕ) (o : Outcome) → script ≡ taken ++ left → EndsRun words (Some contents) (Some script) taken said o → Plain said o
  plain taken said o moved (words_refused refused none says) = by_line _ said Usage o says (λ is. (refused, is)) (λ front. in_usage refused front)
  plain taken said o moved (model_faulty fault faulty none says) =
      by_line _ said Model o says (λ is. fault_line_of fault said faulty is) (λ front. in_fault _ (fault_line_of fault _ faulty refl) front)
  plain taken said o moved (over_budget files budget accepted short none says) =
      let has = short_budget_of files budget accepted short in
      by_line _ said OverBudget o says (λ is. (has, is)) (λ front. in_budget has front)
  plain taken said o moved (model_unread path budget named untouched is) = plain_as said o (outcome_of lines.FetchFailed) is (λ counted. absurd (none_failed the_files counted))
  plain taken said o moved (starved untouched is) = plain_as said o (outcome_of lines.NoMemory) is (λ counted. nothing untouched.1)
  plain taken said o moved (script_answered files budget start ending accepted starts ends is) = plain_as said o (outcome_of ending) is (by_ending files budget start taken said ending moved accepted starts ends)

  -- what was said is the run's, and stands behind what was written before
  pub in_memory : (status : Status) → Answers words (Some contents) before now status → (said : List ℕ) × (written ≡ written_before ++ said) × IsRun words contents script said status
  in_memory status run = (run.said, run.wrote, plain run.taken run.said (record { status = status; failed = run.failed }) run.moved run.ends run.counted)
