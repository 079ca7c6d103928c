-- How far a script has been read and answered, and how each ending comes about.
use Rattle.std.proofs.Common.{◌≡◌, ℕ, ◌+◌, ◌<◌, ◌≤◌, List, [], ◌++◌, length, take, Option, Result, Ok, Err, inl, inr, refl, sym, ap, ◌∙◌, subst, append-nil, arith, length-append}
use Rattle.std.specs.Io.KnownBytes.{Keeps, Consumes, IsAtEnd}
use Rattle.uvl_base.specs.Limits.{most_script_bytes}
use Rattle.uvl_lines.specs.declared.ending.Ending.{Ending}
use Rattle.uvl_lines.specs.declared.ending.Ending.TheVariants.{Done, TooMuch, InputFailed, FetchFailed, WriteFailed, NoMemory}
use Rattle.uvl_lines.specs.Answers.{Replies, Fetching}
use Rattle.uvl_lines.specs.Endings.{AreLinesOf, AnswersLines, Ends}
use Rattle.uvl_lines.specs.Lines.{ended_lines, ended_lines_from, open_line, open_line_from, script_lines, last_line}
use Rattle.uvl_lines.specs.Runs.{Goes, flat}
use Rattle.uvl_lines.specs.steps.Answering.{Replied, Halts, Halted, Answering, ending_of}
use Rattle.uvl_lines.specs.steps.Kept.{kept}
use Rattle.uvl_lines.proofs.Answering.{Replied-nil, Replied-append, Replied-Halted}
use Rattle.uvl_lines.proofs.Cutting.{ended_lines_from-append, open_line_from-append}
use Rattle.uvl_lines.proofs.Kept.{kept-nil}
use Rattle.uvl_lines.proofs.Told.{consumes_nothing, consumes_both, consumes_kept, took_all, take_length}

-- So many bytes were taken, the lines that end in them are answered, and of the line that has begun what matters is kept.
pub record SoFar {A : Type 0} (R : Replies A) (s t : A) (input left before now : Option (List ℕ)) (line : List ℕ) (count : ℕ) : Type 0 where
  pub taken : List ℕ
  pub counted : length taken ≡ count
  pub moved : Consumes input left taken
  pub begun : line ≡ kept (open_line taken)
  pub replied : Replied R s t before now (ended_lines taken)

module _ {A : Type 0} (R : Replies A) (F : Fetching A) (s : A) (input before : Option (List ℕ)) where
  -- nothing was taken yet
  pub starts : (line : List ℕ) → line ≡ [] → SoFar R s s input input before before line 0
  starts line fresh = record {
    taken = [];
    counted = refl;
    moved = consumes_nothing input;
    begun = fresh ∙ sym kept-nil;
    replied = Replied-nil R F s before;
  }

  -- some lines were not answered, of as many bytes as a script may have
  halted : (taken said : List ℕ) (lines : List (List ℕ)) (ending : Ending) → length taken ≤ most_script_bytes → AreLinesOf input taken lines → Halts R F s lines said ending → Ends R F s input taken said ending
  halted taken said lines Done within are halts = absurd halts
  halted taken said lines TooMuch within are halts = absurd halts
  halted taken said lines InputFailed within are halts = absurd halts
  halted taken said lines FetchFailed within are halts = (within, lines, are, halts)
  halted taken said lines WriteFailed within are halts = (within, lines, are, halts)
  halted taken said lines NoMemory within are halts = (within, lines, are, halts)

  module _ (m : A) (left now : Option (List ℕ)) (line : List ℕ) (count : ℕ) (within : count ≤ most_script_bytes) (so_far : SoFar R s m input left before now line count) where
    -- the lines that end in what was taken and in the next piece
    lines_of_both : (piece : List ℕ) → ended_lines so_far.taken ++ ended_lines_from (open_line so_far.taken) piece ≡ ended_lines (so_far.taken ++ piece)
    lines_of_both piece = sym (ended_lines_from-append [] so_far.taken piece)

    -- a piece was taken, and its lines are answered
    pub goes_on : (t : A) (left' now' : Option (List ℕ)) (line' piece : List ℕ) → Consumes left left' piece → line' ≡ kept (open_line_from (open_line so_far.taken) piece) → Replied R m t now now' (ended_lines_from (open_line so_far.taken) piece) → SoFar R s t input left' before now' line' (count + length piece)
    goes_on t left' now' line' piece moved begun replied = record {
      taken = so_far.taken ++ piece;
      counted = length-append so_far.taken piece ∙ ap (λ (n : ℕ). n + length piece) so_far.counted;
      moved = consumes_both input left left' so_far.taken piece so_far.moved moved;
      begun = begun ∙ sym (ap kept (open_line_from-append [] so_far.taken piece));
      replied =
          let P : List (List ℕ) → Type 0 = λ lines. Replied R s t before now' lines in
          subst P (lines_of_both piece) (Replied-append R F s m t before now now' (ended_lines so_far.taken) (ended_lines_from (open_line so_far.taken) piece) so_far.replied replied);
    }

    -- a piece was taken, and not all of its lines are answered
    pub halts : (left' now' : Option (List ℕ)) (piece : List ℕ) (ending : Ending) → count + length piece ≤ most_script_bytes → Consumes left left' piece → Halted R F m now now' (ended_lines_from (open_line so_far.taken) piece) ending → AnswersLines R F s input left' before now' ending
    halts left' now' piece ending fits moved halted_at =
        let all = Replied-Halted R F s m before now now' (ended_lines so_far.taken) (ended_lines_from (open_line so_far.taken) piece) ending so_far.replied halted_at in
        let size = length-append so_far.taken piece in
        record {
          taken = so_far.taken ++ piece;
          said = all.said;
          moved = consumes_both input left left' so_far.taken piece so_far.moved moved;
          wrote = all.wrote;
          ends = halted (so_far.taken ++ piece) all.said (ended_lines so_far.taken ++ ended_lines_from (open_line so_far.taken) piece) ending (omega (arith, so_far.counted)) (inl (lines_of_both piece)) all.halts;
        }

    -- the source could not give more
    pub input_failed : (left' : Option (List ℕ)) → Keeps left left' → AnswersLines R F s input left' before now InputFailed
    input_failed left' kept_left = record {
      taken = so_far.taken;
      said = flat so_far.replied.texts;
      moved = consumes_kept input left left' so_far.taken so_far.moved kept_left;
      wrote = so_far.replied.wrote;
      ends = (omega (arith, so_far.counted), (so_far.replied.texts, m, so_far.replied.goes, refl));
    }

    -- as many bytes were taken as a script may have, and then more
    pub too_much : (left' : Option (List ℕ)) (piece : List ℕ) → count ≡ most_script_bytes → 0 < length piece → Consumes left left' piece → AnswersLines R F s input left' before now TooMuch
    too_much left' piece full some moved =
        let front = ap (λ (n : ℕ). take n (so_far.taken ++ piece)) (sym (so_far.counted ∙ full)) ∙ take_length so_far.taken piece in
        let P : List ℕ → Type 0 = λ bytes. (texts : List (List ℕ)) × (t : A) × Goes R s (ended_lines bytes) texts t × (flat so_far.replied.texts ≡ flat texts) in
        let answered = subst P (sym front) (so_far.replied.texts, m, so_far.replied.goes, refl) in
        record {
          taken = so_far.taken ++ piece;
          said = flat so_far.replied.texts;
          moved = consumes_both input left left' so_far.taken piece so_far.moved moved;
          wrote = so_far.replied.wrote;
          ends = (omega (arith, so_far.counted, length-append so_far.taken piece), answered);
        }

    consumes_end : (left' : Option (List ℕ)) → Consumes left left' [] → Consumes input left' so_far.taken
    consumes_end left' moved =
        let P : List ℕ → Type 0 = λ bytes. Consumes input left' bytes in
        subst P (append-nil so_far.taken) (consumes_both input left left' so_far.taken [] so_far.moved moved)

    -- the input is at its end, and its last line is answered, or not
    pub at_end : {T : Type 0} (t : A) (left' now' : Option (List ℕ)) (result : Result T Ending) → IsAtEnd left → Consumes left left' [] → Answering R F m t now now' (last_line (open_line so_far.taken)) result → AnswersLines R F s input left' before now' (ending_of result)
    at_end t left' now' (Ok value) ended moved replied =
        let all = Replied-append R F s m t before now now' (ended_lines so_far.taken) (last_line (open_line so_far.taken)) so_far.replied replied in
        record {
          taken = so_far.taken;
          said = flat all.texts;
          moved = consumes_end left' moved;
          wrote = all.wrote;
          ends = (took_all input left so_far.taken so_far.moved ended, omega (arith, so_far.counted), (all.texts, t, all.goes, refl));
        }
    at_end t left' now' (Err ending) ended moved halted_at =
        let all = Replied-Halted R F s m before now now' (ended_lines so_far.taken) (last_line (open_line so_far.taken)) ending so_far.replied halted_at in
        record {
          taken = so_far.taken;
          said = all.said;
          moved = consumes_end left' moved;
          wrote = all.wrote;
          ends = halted so_far.taken all.said (script_lines so_far.taken) ending (omega (arith, so_far.counted)) (inr (took_all input left so_far.taken so_far.moved ended, refl)) all.halts;
        }
