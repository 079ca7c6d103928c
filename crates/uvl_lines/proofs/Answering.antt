-- What came of answering lines, line by line and piece by piece.
use Rattle.std.proofs.Common.{◌≡◌, ℕ, List, [], ◌∷◌, ◌++◌, take, Option, Err, Result, sym, refl, ◌∙◌, subst, append-nil}
use Rattle.std.specs.Io.KnownBytes.{Appends}
use Rattle.uvl_outside.specs.Sink.{AppendsFront}
use Rattle.uvl_outside.specs.declared.sink.PutFault.{PutFault}
use Rattle.uvl_outside.specs.declared.sink.PutFault.TheVariants.{Failed, OutOfMemory}
use Rattle.uvl_script.specs.declared.command.Command.{Command}
use Rattle.uvl_script.specs.declared.fault.LineFault.{LineFault}
use Rattle.uvl_script.specs.Lines.{reading_of}
use Rattle.uvl_lines.specs.declared.answerer.AnswerFault.{AnswerFault}
use Rattle.uvl_lines.specs.declared.answerer.AnswerFault.TheVariants as answering
use Rattle.uvl_lines.specs.declared.ending.Ending.{Ending}
use Rattle.uvl_lines.specs.declared.ending.Ending.TheVariants.{Done, TooMuch, InputFailed, FetchFailed, WriteFailed, NoMemory}
use Rattle.uvl_lines.specs.Answers.{Replies, Fetching}
use Rattle.uvl_lines.specs.Endings.{ending_of_put, ending_of_answer}
use Rattle.uvl_lines.specs.Replies.{Line, ReadLine}
use Rattle.uvl_lines.specs.Runs.{Goes, here, inside, FetchesAt, flat}
use Rattle.uvl_lines.specs.steps.Answering.{Replied, Halts, Halted, Answering}
use Rattle.uvl_lines.proofs.Runs.{Goes-append, Goes-Stops, Goes-Breaks, Stops-longer, Breaks-longer, flat-append}
use Rattle.uvl_lines.proofs.Told.{appends_nothing, appends_both, take-IsFrontOf}

module _ {A : Type 0} (R : Replies A) (F : Fetching A) where
  -- no line was answered yet
  pub Replied-nil : (s : A) (written : Option (List ℕ)) → Replied R s s written written []
  Replied-nil s written = record { texts = []; goes = refl; wrote = appends_nothing written }

  -- one line was answered
  pub Replied-one : (s t : A) (before now : Option (List ℕ)) (line text : List ℕ) → Line R s line text t → Appends before now text → Replied R s t before now (line ∷ [])
  Replied-one s t before now line text reply wrote =
      let P : List ℕ → Type 0 = λ all. Appends before now all in
      record { texts = text ∷ []; goes = (t, reply, refl); wrote = subst P (sym (append-nil text)) wrote }

  -- and then more lines
  pub Replied-append : (s m t : A) (a b c : Option (List ℕ)) (xs ys : List (List ℕ)) → Replied R s m a b xs → Replied R m t b c ys → Replied R s t a c (xs ++ ys)
  Replied-append s m t a b c xs ys first second =
      let P : List ℕ → Type 0 = λ all. Appends a c all in
      record {
        texts = first.texts ++ second.texts;
        goes = Goes-append R F s m t xs ys first.texts second.texts first.goes second.goes;
        wrote = subst P (sym (flat-append first.texts second.texts)) (appends_both a b c (flat first.texts) (flat second.texts) first.wrote second.wrote);
      }

  -- behind lines that were answered more were not
  Goes-Halts : (s m : A) (xs ys texts : List (List ℕ)) (said : List ℕ) (ending : Ending) → Goes R s xs texts m → Halts R F m ys said ending → Halts R F s (xs ++ ys) (flat texts ++ said) ending
  Goes-Halts s m xs ys texts said Done goes halts = absurd halts
  Goes-Halts s m xs ys texts said TooMuch goes halts = absurd halts
  Goes-Halts s m xs ys texts said InputFailed goes halts = absurd halts
  Goes-Halts s m xs ys texts said FetchFailed goes halts = Goes-Breaks R F s m xs ys texts said goes halts
  Goes-Halts s m xs ys texts said WriteFailed goes halts = Goes-Stops R F s m xs ys texts said goes halts
  Goes-Halts s m xs ys texts said NoMemory goes halts = Goes-Stops R F s m xs ys texts said goes halts

  pub Replied-Halted : (s m : A) (a b c : Option (List ℕ)) (xs ys : List (List ℕ)) (ending : Ending) → Replied R s m a b xs → Halted R F m b c ys ending → Halted R F s a c (xs ++ ys) ending
  Replied-Halted s m a b c xs ys ending first second = record {
    said = flat first.texts ++ second.said;
    wrote = appends_both a b c (flat first.texts) second.said first.wrote second.wrote;
    halts = Goes-Halts s m xs ys first.texts second.said ending first.goes second.halts;
  }

  -- lines that are not reached may be there
  Halts-longer : (s : A) (xs ys : List (List ℕ)) (said : List ℕ) (ending : Ending) → Halts R F s xs said ending → Halts R F s (xs ++ ys) said ending
  Halts-longer s xs ys said Done halts = absurd halts
  Halts-longer s xs ys said TooMuch halts = absurd halts
  Halts-longer s xs ys said InputFailed halts = absurd halts
  Halts-longer s xs ys said FetchFailed halts = Breaks-longer R F s xs ys said halts
  Halts-longer s xs ys said WriteFailed halts = Stops-longer R F s xs ys said halts
  Halts-longer s xs ys said NoMemory halts = Stops-longer R F s xs ys said halts

  pub Halted-longer : (s : A) (a b : Option (List ℕ)) (xs ys : List (List ℕ)) (ending : Ending) → Halted R F s a b xs ending → Halted R F s a b (xs ++ ys) ending
  Halted-longer s a b xs ys ending halted = record {
    said = halted.said;
    wrote = halted.wrote;
    halts = Halts-longer s xs ys halted.said ending halted.halts;
  }

  -- memory was wanting in front of any line
  pub Halted-nothing : (s : A) (written : Option (List ℕ)) (lines : List (List ℕ)) → Halted R F s written written lines NoMemory
  Halted-nothing s written lines = record { said = []; wrote = appends_nothing written; halts = here s lines }

  -- a line fetches a file, and the host failed
  pub Halted-fetch : (s : A) (written : Option (List ℕ)) (line : List ℕ) → FetchesAt F s line → Halted R F s written written (line ∷ []) FetchFailed
  Halted-fetch s written line fetches = record {
    said = [];
    wrote = appends_nothing written;
    halts = record { answered = []; line = line; others = []; texts = []; state = s; are = refl; goes = refl; all = refl; fetches = fetches };
  }

  -- the reply to a line was not written whole
  pub Halted-put : (s t : A) (before now : Option (List ℕ)) (line text : List ℕ) (fault : PutFault) → Line R s line text t → AppendsFront before now text → Halted R F s before now (line ∷ []) (ending_of_put fault)
  Halted-put s t before now line text Failed reply put = record {
    said = take put.0 text;
    wrote = put.1;
    halts = inside s t line text (take put.0 text) [] reply (take-IsFrontOf put.0 text);
  }
  Halted-put s t before now line text OutOfMemory reply put = record {
    said = take put.0 text;
    wrote = put.1;
    halts = inside s t line text (take put.0 text) [] reply (take-IsFrontOf put.0 text);
  }

  -- a line that is read alike has the same replies
  pub Line-alike : (s t : A) (line other text : List ℕ) → reading_of other ≡ reading_of line → Line R s line text t → Line R s other text t
  Line-alike s t line other text alike reply =
      let P : Result (Option Command) LineFault → Type 0 = λ reading. ReadLine R s reading text t in
      subst P (sym alike) reply

  pub FetchesAt-alike : (s : A) (line other : List ℕ) → reading_of other ≡ reading_of line → FetchesAt F s line → FetchesAt F s other
  FetchesAt-alike s line other alike fetches = (fetches.0, alike ∙ fetches.1, fetches.2)

  -- where what answers a line failed, the run ends so
  pub Halted-answer : (s : A) (written : Option (List ℕ)) (line other : List ℕ) (fault : AnswerFault) → reading_of other ≡ reading_of line → (fault ≡ answering.FetchFailed → FetchesAt F s line) → Halted R F s written written (other ∷ []) (ending_of_answer fault)
  Halted-answer s written line other answering.FetchFailed alike fetching = Halted-fetch s written other (FetchesAt-alike s line other alike (fetching refl))
  Halted-answer s written line other answering.OutOfMemory alike fetching = Halted-nothing s written (other ∷ [])

  -- where not all lines were answered, that is what came of answering them
  pub Answering-err : {T : Type 0} (s t : A) (before now : Option (List ℕ)) (lines : List (List ℕ)) (result : Result T Ending) (given ending : Ending) → result ≡ Err given → given ≡ ending → Halted R F s before now lines ending → Answering R F s t before now lines result
  Answering-err {T = T} s t before now lines result given ending is_err is halted =
      let P : Result T Ending → Type 0 = λ r. Answering R F s t before now lines r in
      let Q : Ending → Type 0 = λ e. Halted R F s before now lines e in
      subst P (sym is_err) (subst Q (sym is) halted)
