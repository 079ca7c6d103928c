-- The causes of the statuses exclude one another.
use Rattle.std.proofs.Common.{◌≡◌, ℕ, ◌<◌, ◌≤◌, ◌⊎◌, List, [], ◌∷◌, length, Option, Some, None, IfSome, inl, inr, refl, sym, ap, ◌∙◌, subst, arith, length-append}
use Rattle.std.proofs.lemmas.Option.{same_Some}
use Rattle.std.specs.Io.KnownBytes.{Consumes}
use Rattle.uvl_outside.specs.Files.{Contents}
use Rattle.uvl_outside.specs.declared.sink.PutFault.{PutFault}
use Rattle.uvl_outside.specs.declared.sink.PutFault.TheVariants as putting
use Rattle.uvl_base.specs.Limits.{most_script_bytes}
use Rattle.uvl_lines.specs.declared.ending.Ending.{Ending}
use Rattle.uvl_lines.specs.declared.ending.Ending.TheVariants as lines
use Rattle.uvl_lines.specs.Endings.{Ends, TakesAll, ending_of_put}
use Rattle.uvl_base.specs.declared.fault.ModelFault.{ModelFault}
use Rattle.uvl_imports.specs.declared.file_set.Loaded.{Loaded}
use Rattle.uvl_imports.specs.Loading.{LoadsAs}
use Rattle.uvl_words.specs.CommandLine.{Request, for_model}
use Rattle.uvl_run.specs.declared.status.Status.{Status}
use Rattle.uvl_run.specs.declared.status.Status.TheVariants.{Done, Usage, Model, WriteFault, OverBudget, TooMuchInput}
use Rattle.uvl_run.specs.Budget.{IsShortFor}
use Rattle.uvl_run.specs.Loading.{IsSetOf, HasFault, LoadsSet, LoadsFault}
use Rattle.uvl_run.specs.Outside.{Object, the_files, the_input, the_output, Outside, AreCounted}
use Rattle.uvl_run.specs.Replies.{Reply, Fetches}
use Rattle.uvl_run.specs.Run.{NamesModel, IsRefused, IsAccepted, IsFaulty, SaysLine, EndsRun, Answers, words_refused, model_faulty, over_budget, model_unread, starved, script_answered}
use Rattle.uvl_run.specs.Laws.{EachMainFileIsLoadedOnce}
use Rattle.uvl_run.specs.Exactly.{HasCause, HasModel, HasFaultyModel, HasFailed, ComesUnless, IsExact}
use Rattle.uvl_run.specs.State.{State}
use Rattle.uvl_run.specs.Status.{Outcome, unhindered, outcome_of}

-- ---- what the words name

-- words that are refused name nothing
no_request : (words : List (List ℕ)) (path : List ℕ) (budget : ℕ) → IsRefused words → NamesModel words path budget → ⊥
no_request words path budget refused named = let both : None ≡ Some (for_model path budget) = sym refused ∙ named in cc

path_of : Request → List ℕ
path_of (for_model path budget) = path

budget_of : Request → ℕ
budget_of (for_model path budget) = budget

-- words name one model, and give one budget
one_path : (words : List (List ℕ)) (p q : List ℕ) (m n : ℕ) → NamesModel words p m → NamesModel words q n → p ≡ q
unfolding path_of
one_path words p q m n first second = ap path_of (same_Some (for_model p m) (for_model q n) (sym first ∙ second))

one_budget : (words : List (List ℕ)) (p q : List ℕ) (m n : ℕ) → NamesModel words p m → NamesModel words q n → m ≡ n
unfolding budget_of
one_budget words p q m n first second = ap budget_of (same_Some (for_model p m) (for_model q n) (sym first ∙ second))

-- ---- the causes

module _ (words : List (List ℕ)) (told : Option Contents) (before now : Outside) where
  -- what is known of an outcome, the counts with it
  abbrev Caused : Outcome → Type 0
  Caused o = AreCounted o.failed before now → HasCause words told before now o.status

  caused_as : (o given : Outcome) → o ≡ given → Caused given → Caused o
  caused_as o given is caused = let P : Outcome → Type 0 = λ x. Caused x in subst P (sym is) caused

  -- a fault of the sink has its cause, whatever the line is
  by_put : (fault : PutFault) → Caused (outcome_of (ending_of_put fault))
  by_put putting.Failed counted = counted
  by_put putting.OutOfMemory counted = counted

  by_line : (line said : List ℕ) (status : Status) (o : Outcome) → SaysLine line status said o → Caused (unhindered status) → Caused o
  by_line line said status o (inl whole) caused = caused_as o (unhindered status) whole.1 caused
  by_line line said status o (inr front) caused = caused_as o (outcome_of (ending_of_put front.0)) front.2 (by_put front.0)

  all_within : (input : Option (List ℕ)) (taken : List ℕ) → TakesAll input taken → length taken ≤ most_script_bytes → IfSome input (λ bytes. length bytes ≤ most_script_bytes)
  all_within None taken all short = tt
  all_within (Some bytes) taken all short = omega (arith, ap length all)

  beyond : (input left : Option (List ℕ)) (taken : List ℕ) → Consumes input left taken → most_script_bytes < length taken → IfSome input (λ bytes. most_script_bytes < length bytes)
  beyond None left taken moved long = tt
  beyond (Some bytes) None taken moved long = absurd moved
  beyond (Some bytes) (Some rest) taken moved long = omega (arith, ap length moved, length-append taken rest)

  by_ending : (files : List Loaded) (budget : ℕ) (start : State) (taken said : List ℕ) (ending : Ending) → Consumes before.left now.left taken → IsAccepted words told files budget
      → Ends Reply Fetches start before.left taken said ending → Caused (outcome_of ending)
  by_ending files budget start taken said lines.Done moved accepted ends counted = ((files, budget, accepted), all_within before.left taken ends.0 ends.1, counted)
  by_ending files budget start taken said lines.TooMuch moved accepted ends counted = ((files, budget, accepted), beyond before.left now.left taken moved ends.0, counted)
  by_ending files budget start taken said lines.InputFailed moved accepted ends counted = inr counted
  by_ending files budget start taken said lines.FetchFailed moved accepted ends counted = inl counted
  by_ending files budget start taken said lines.WriteFailed moved accepted ends counted = counted
  by_ending files budget start taken said lines.NoMemory moved accepted ends counted = counted

  cause : (taken said : List ℕ) (o : Outcome) → Consumes before.left now.left taken → EndsRun words told before.left taken said o → Caused o
  cause taken said o moved (words_refused refused none says) = by_line _ said Usage o says (λ counted. (refused, counted))
  cause taken said o moved (model_faulty fault faulty none says) = by_line _ said Model o says (λ counted. (fault, faulty, counted))
  cause taken said o moved (over_budget files budget accepted short none says) = by_line _ said OverBudget o says (λ counted. (files, budget, accepted, short, counted))
  cause taken said o moved (model_unread path budget named untouched is) = caused_as o (outcome_of lines.FetchFailed) is (λ counted. inl counted)
  cause taken said o moved (starved untouched is) = caused_as o (outcome_of lines.NoMemory) is (λ counted. counted)
  cause taken said o moved (script_answered files budget start ending accepted starts ends is) = caused_as o (outcome_of ending) is (by_ending files budget start taken said ending moved accepted ends)

  -- ---- what comes where a cause is

  -- what comes of an outcome, the counts with it
  abbrev Comes : List Object → Status → Outcome → Type 0
  Comes objects expected o = AreCounted o.failed before now → ComesUnless objects before now expected o.status

  comes_as : (objects : List Object) (expected : Status) (o given : Outcome) → o ≡ given → Comes objects expected given → Comes objects expected o
  comes_as objects expected o given is comes = let P : Outcome → Type 0 = λ x. Comes objects expected x in subst P (sym is) comes

  -- the output is the last of some objects, that may have failed
  abbrev MayFailToWrite : List Object → Type 0
  MayFailToWrite objects = AreCounted (Some the_output) before now → HasFailed objects before now WriteFault

  put_comes : (objects : List Object) (expected : Status) (fault : PutFault) → MayFailToWrite objects → Comes objects expected (outcome_of (ending_of_put fault))
  put_comes objects expected putting.Failed may counted = inr (inr (may counted))
  put_comes objects expected putting.OutOfMemory may counted = inr (inl refl)

  -- the line has the status that is expected
  line_comes : (objects : List Object) (line said : List ℕ) (status : Status) (o : Outcome) → MayFailToWrite objects → SaysLine line status said o → Comes objects status o
  line_comes objects line said status o may (inl whole) = comes_as objects status o (unhindered status) whole.1 (λ counted. inl refl)
  line_comes objects line said status o may (inr front) = comes_as objects status o (outcome_of (ending_of_put front.0)) front.2 (put_comes objects status front.0 may)

  starved_comes : (objects : List Object) (expected : Status) (o : Outcome) → o ≡ outcome_of lines.NoMemory → Comes objects expected o
  starved_comes objects expected o is = comes_as objects expected o (outcome_of lines.NoMemory) is (λ counted. inr (inl refl))

  -- the host failed while the model was read, and the files are the first of the objects
  unread_comes : (objects : List Object) (expected : Status) (o : Outcome) → o ≡ outcome_of lines.FetchFailed → Comes (the_files ∷ objects) expected o
  unread_comes objects expected o is = comes_as (the_files ∷ objects) expected o (outcome_of lines.FetchFailed) is (λ counted. inr (inr (inl (refl, counted))))

  usage_where : (taken said : List ℕ) (o : Outcome) → EndsRun words told before.left taken said o → IsRefused words → Comes (the_output ∷ []) Usage o
  usage_where taken said o (words_refused none empty says) refused = line_comes (the_output ∷ []) _ said Usage o (λ counted. inl (refl, counted)) says
  usage_where taken said o (model_faulty fault faulty empty says) refused = absurd (no_request words faulty.path faulty.budget refused faulty.named)
  usage_where taken said o (over_budget files budget accepted short empty says) refused = absurd (no_request words accepted.path budget refused accepted.named)
  usage_where taken said o (model_unread path budget named untouched is) refused = absurd (no_request words path budget refused named)
  usage_where taken said o (starved untouched is) refused = starved_comes (the_output ∷ []) Usage o is
  usage_where taken said o (script_answered files budget start ending accepted starts ends is) refused = absurd (no_request words accepted.path budget refused accepted.named)

  module _ (law : EachMainFileIsLoadedOnce) where
    -- a set in which nothing is wrong has no fault
    no_fault : (contents : Contents) (main : List ℕ) (files : List Loaded) (fault : ModelFault) → IsSetOf contents main files → HasFault contents main fault → ⊥
    no_fault contents main files fault set has =
        elim (law contents main) [ inl one ↦ one.no_fault fault has | inr one ↦ one.no_set files set ]

    -- a main file is that of one set
    same_files : (contents : Contents) (main : List ℕ) (a b : List Loaded) → IsSetOf contents main a → IsSetOf contents main b → a ≡ b
    same_files contents main a b first second =
        elim (law contents main) [ inl one ↦ one.one a first ∙ sym (one.one b second) | inr one ↦ absurd (one.no_set a first) ]

    module _ (contents : Contents) (tells : told ≡ Some contents) where
      -- a set that loads of what is told is that of the contents
      told_set : (path : List ℕ) (files : List Loaded) → LoadsSet told path files → IsSetOf contents path files
      told_set path files loads =
          let P : Option Contents → Type 0 = λ t. LoadsAs t path files in
          record { loads = subst P tells loads.loads; accepted = loads.accepted }

      -- a fault that is told at the path is that of the contents
      told_fault : (path : List ℕ) (fault : ModelFault) → LoadsFault told path fault → HasFault contents path fault
      told_fault path fault has = let P : Option Contents → Type 0 = λ t. LoadsFault t path fault in subst P tells has

    -- an accepted model has no fault
    not_faulty : (files : List Loaded) (budget : ℕ) → IsAccepted words told files budget → HasFaultyModel words told → ⊥
    not_faulty files budget accepted faulty =
        let P : List ℕ → Type 0 = λ p. IsSetOf faulty.contents p files in
        let set = subst P (one_path words accepted.path faulty.path budget faulty.budget accepted.named faulty.named) (told_set faulty.contents faulty.tells accepted.path files accepted.loads) in
        no_fault faulty.contents faulty.path files faulty.fault set faulty.is

    -- a model that is told to be one is not faulty
    not_modelled : (fault : ModelFault) → IsFaulty words told fault → HasModel words told → ⊥
    not_modelled fault faulty model =
        let P : List ℕ → Type 0 = λ p. HasFault model.contents p fault in
        let has = subst P (one_path words faulty.path model.path faulty.budget model.budget faulty.named model.named) (told_fault model.contents model.tells faulty.path fault faulty.faulty) in
        no_fault model.contents model.path model.files fault model.is has

    -- a budget that is too small for an accepted model is so for the one that is told
    short_too : (files : List Loaded) (budget : ℕ) → IsAccepted words told files budget → (model : HasModel words told) → IsShortFor files budget → IsShortFor model.files model.budget
    short_too files budget accepted model short =
        let P : List ℕ → Type 0 = λ p. IsSetOf model.contents p files in
        let set = subst P (one_path words accepted.path model.path budget model.budget accepted.named model.named) (told_set model.contents model.tells accepted.path files accepted.loads) in
        let Q : List Loaded → Type 0 = λ fs. IsShortFor fs model.budget in
        let R : ℕ → Type 0 = λ n. IsShortFor files n in
        subst Q (same_files model.contents model.path files model.files set model.is) (subst R (one_budget words accepted.path model.path budget model.budget accepted.named model.named) short)

    model_where : (taken said : List ℕ) (o : Outcome) → EndsRun words told before.left taken said o → HasFaultyModel words told → Comes (the_files ∷ the_output ∷ []) Model o
    model_where taken said o (words_refused none empty says) model = absurd (no_request words model.path model.budget none model.named)
    model_where taken said o (model_faulty fault faulty empty says) model = line_comes (the_files ∷ the_output ∷ []) _ said Model o (λ counted. inr (inl (refl, counted))) says
    model_where taken said o (over_budget files budget accepted short empty says) model = absurd (not_faulty files budget accepted model)
    model_where taken said o (model_unread path budget named untouched is) model = unread_comes (the_output ∷ []) Model o is
    model_where taken said o (starved untouched is) model = starved_comes (the_files ∷ the_output ∷ []) Model o is
    model_where taken said o (script_answered files budget start ending accepted starts ends is) model = absurd (not_faulty files budget accepted model)

    -- any of the objects may be in the way of a script
    abbrev each_object : List Object
    each_object = the_files ∷ the_input ∷ the_output ∷ []

    -- what comes of an outcome where the budget may be too small
    abbrev ComesOr : HasModel words told → Status → Outcome → Type 0
    ComesOr model expected o =
        AreCounted o.failed before now → (IsShortFor model.files model.budget × (o.status ≡ OverBudget)) ⊎ ComesUnless each_object before now expected o.status

    comes_or : (model : HasModel words told) (expected : Status) (o : Outcome) → Comes each_object expected o → ComesOr model expected o
    comes_or model expected o comes counted = inr (comes counted)

    -- the line for the budget was written, or not
    short_or : (model : HasModel words told) (expected : Status) (line said : List ℕ) (o : Outcome) → IsShortFor model.files model.budget → SaysLine line OverBudget said o → ComesOr model expected o
    short_or model expected line said o short (inl whole) counted = inl (short, ap (λ (x : Outcome). x.status) whole.1)
    short_or model expected line said o short (inr front) counted =
        inr (comes_as each_object expected o (outcome_of (ending_of_put front.0)) front.2 (put_comes each_object expected front.0 (λ rose. inr (inr (inl (refl, rose))))) counted)

    -- what comes of a run whose model is told is what comes of its script, or the budget is too small
    script_where : (expected : Status) → ((start : State) (taken said : List ℕ) (ending : Ending) → Consumes before.left now.left taken
        → Ends Reply Fetches start before.left taken said ending → Comes each_object expected (outcome_of ending))
        → (taken said : List ℕ) (o : Outcome) → Consumes before.left now.left taken → EndsRun words told before.left taken said o
        → (model : HasModel words told) → ComesOr model expected o
    script_where expected comes taken said o moved (words_refused none empty says) model = absurd (no_request words model.path model.budget none model.named)
    script_where expected comes taken said o moved (model_faulty fault faulty empty says) model = absurd (not_modelled fault faulty model)
    script_where expected comes taken said o moved (over_budget files budget accepted short empty says) model =
        short_or model expected _ said o (short_too files budget accepted model short) says
    script_where expected comes taken said o moved (model_unread path budget named untouched is) model = comes_or model expected o (unread_comes (the_input ∷ the_output ∷ []) expected o is)
    script_where expected comes taken said o moved (starved untouched is) model = comes_or model expected o (starved_comes each_object expected o is)
    script_where expected comes taken said o moved (script_answered files budget start ending accepted starts ends is) model =
        comes_or model expected o (comes_as each_object expected o (outcome_of ending) is (comes start taken said ending moved ends))

    told_bytes : (P : List ℕ → Type 0) (input : Option (List ℕ)) (bytes : List ℕ) → input ≡ Some bytes → IfSome input P → P bytes
    told_bytes P input bytes is known = let Q : Option (List ℕ) → Type 0 = λ o. IfSome o P in subst Q is known

    done_comes : (bytes : List ℕ) → before.left ≡ Some bytes → length bytes ≤ most_script_bytes → (start : State) (taken said : List ℕ) (ending : Ending)
        → Consumes before.left now.left taken → Ends Reply Fetches start before.left taken said ending → Comes each_object Done (outcome_of ending)
    done_comes bytes is short start taken said lines.Done moved ends counted = inl refl
    done_comes bytes is short start taken said lines.TooMuch moved ends counted =
        let long = told_bytes (λ b. most_script_bytes < length b) before.left bytes is (beyond before.left now.left taken moved ends.0) in
        absurd (omega arith)
    done_comes bytes is short start taken said lines.InputFailed moved ends counted = inr (inr (inr (inl (refl, counted))))
    done_comes bytes is short start taken said lines.FetchFailed moved ends counted = inr (inr (inl (refl, counted)))
    done_comes bytes is short start taken said lines.WriteFailed moved ends counted = inr (inr (inr (inr (inl (refl, counted)))))
    done_comes bytes is short start taken said lines.NoMemory moved ends counted = inr (inl refl)

    too_much_comes : (bytes : List ℕ) → before.left ≡ Some bytes → most_script_bytes < length bytes → (start : State) (taken said : List ℕ) (ending : Ending)
        → Consumes before.left now.left taken → Ends Reply Fetches start before.left taken said ending → Comes each_object TooMuchInput (outcome_of ending)
    too_much_comes bytes is long start taken said lines.Done moved ends counted =
        let short = told_bytes (λ b. length b ≤ most_script_bytes) before.left bytes is (all_within before.left taken ends.0 ends.1) in
        absurd (omega arith)
    too_much_comes bytes is long start taken said lines.TooMuch moved ends counted = inl refl
    too_much_comes bytes is long start taken said lines.InputFailed moved ends counted = inr (inr (inr (inl (refl, counted))))
    too_much_comes bytes is long start taken said lines.FetchFailed moved ends counted = inr (inr (inl (refl, counted)))
    too_much_comes bytes is long start taken said lines.WriteFailed moved ends counted = inr (inr (inr (inr (inl (refl, counted)))))
    too_much_comes bytes is long start taken said lines.NoMemory moved ends counted = inr (inl refl)

    -- what a run answers says exactly when each status comes
    pub exactly : (status : Status) → Answers words told before now status → IsExact words told before now status
    exactly status run =
        let o : Outcome = record { status = status; failed = run.failed } in
        record {
          cause = cause run.taken run.said o run.moved run.ends run.counted;
          usage = λ refused. usage_where run.taken run.said o run.ends refused run.counted;
          model = λ model. model_where run.taken run.said o run.ends model run.counted;
          done = λ bytes is short model. script_where Done (done_comes bytes is short) run.taken run.said o run.moved run.ends model run.counted;
          too_much_input = λ bytes is long model. script_where TooMuchInput (too_much_comes bytes is long) run.taken run.said o run.moved run.ends model run.counted;
        }
