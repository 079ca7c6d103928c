-- How far the lines of a piece have been answered.
use Rattle.std.proofs.Common.{◌≡◌, ℕ, false, List, [], ◌∷◌, ◌++◌, Option, refl, sym, ap, ◌∙◌, subst, append_assoc, append-nil}
use Rattle.uvl_lines.specs.declared.ending.Ending.{Ending}
use Rattle.uvl_lines.specs.declared.ending.Ending.TheVariants.{NoMemory}
use Rattle.uvl_lines.specs.Answers.{Replies, Fetching}
use Rattle.uvl_lines.specs.Lines.{has_lf, ended_lines_from, open_line_from}
use Rattle.uvl_lines.specs.steps.Answering.{Replied, Halted}
use Rattle.uvl_lines.specs.steps.FirstLine.{BeginsWithLine}
use Rattle.uvl_lines.specs.steps.Kept.{kept}
use Rattle.uvl_lines.proofs.Answering.{Replied-nil, Replied-append, Replied-Halted, Halted-longer, Halted-nothing}
use Rattle.uvl_lines.proofs.Cutting.{ended_lines_from-line, ended_lines_from-none, open_line_from-line, open_line_from-none}
use Rattle.uvl_lines.proofs.Kept.{kept-nil}

-- Of a piece behind the begun line some lines were answered; those of the rest behind what is kept of its own begun line are ahead.
pub record Progress {A : Type 0} (R : Replies A) (s t : A) (before now : Option (List ℕ)) (begun piece line rest : List ℕ) : Type 0 where
  pub next : List ℕ
  pub answered : List (List ℕ)
  pub is_kept : line ≡ kept next
  pub lines : ended_lines_from begun piece ≡ answered ++ ended_lines_from next rest
  pub opens : open_line_from begun piece ≡ open_line_from next rest
  pub replied : Replied R s t before now answered

module _ {A : Type 0} (R : Replies A) (F : Fetching A) where
  -- no line was answered yet
  pub starts : (s : A) (written : Option (List ℕ)) (begun piece line : List ℕ) → line ≡ kept begun → Progress R s s written written begun piece line piece
  starts s written begun piece line is_kept = record {
    next = begun;
    answered = [];
    is_kept = is_kept;
    lines = refl;
    opens = refl;
    replied = Replied-nil R F s written;
  }

  module _ (s m : A) (a b : Option (List ℕ)) (begun piece line rest : List ℕ) (so_far : Progress R s m a b begun piece line rest) where
    -- the lines ahead begin with the first that ends in the rest
    lines_behind : (front behind : List ℕ) → BeginsWithLine rest front behind → ended_lines_from begun piece ≡ (so_far.answered ++ (so_far.next ++ front) ∷ []) ++ ended_lines_from [] behind
    lines_behind front behind begins =
        so_far.lines
        ∙ ap (λ (r : List ℕ). so_far.answered ++ ended_lines_from so_far.next r) begins.spelled
        ∙ ap (λ (ls : List (List ℕ)). so_far.answered ++ ls) (ended_lines_from-line so_far.next front behind begins.one_line)
        ∙ sym (append_assoc so_far.answered ((so_far.next ++ front) ∷ []) (ended_lines_from [] behind))

    -- the first of them was answered
    pub goes_on : (t : A) (c : Option (List ℕ)) (front behind line' : List ℕ) → BeginsWithLine rest front behind → line' ≡ [] → Replied R m t b c ((so_far.next ++ front) ∷ []) → Progress R s t a c begun piece line' behind
    goes_on t c front behind line' begins cleared replied = record {
      next = [];
      answered = so_far.answered ++ (so_far.next ++ front) ∷ [];
      is_kept = cleared ∙ sym kept-nil;
      lines = lines_behind front behind begins;
      opens = so_far.opens ∙ ap (open_line_from so_far.next) begins.spelled ∙ open_line_from-line so_far.next front behind begins.one_line;
      replied = Replied-append R F s m t a b c so_far.answered ((so_far.next ++ front) ∷ []) so_far.replied replied;
    }

    -- it was not answered
    pub halts : (c : Option (List ℕ)) (front behind : List ℕ) (ending : Ending) → BeginsWithLine rest front behind → Halted R F m b c ((so_far.next ++ front) ∷ []) ending → Halted R F s a c (ended_lines_from begun piece) ending
    halts c front behind ending begins halted =
        let P : List (List ℕ) → Type 0 = λ lines. Halted R F s a c lines ending in
        subst P (sym (lines_behind front behind begins)) (
        Halted-longer R F s a c (so_far.answered ++ (so_far.next ++ front) ∷ []) (ended_lines_from [] behind) ending (
        Replied-Halted R F s m a b c so_far.answered ((so_far.next ++ front) ∷ []) ending so_far.replied halted
        )
        )

    -- no line ends in the rest
    no_more : has_lf rest ≡ false → ended_lines_from begun piece ≡ so_far.answered
    no_more none = so_far.lines ∙ ap (λ (ls : List (List ℕ)). so_far.answered ++ ls) (ended_lines_from-none so_far.next rest none) ∙ append-nil so_far.answered

    -- so all were answered
    pub ends : has_lf rest ≡ false → Replied R s m a b (ended_lines_from begun piece)
    ends none = let P : List (List ℕ) → Type 0 = λ lines. Replied R s m a b lines in subst P (sym (no_more none)) so_far.replied

    -- and what is kept of the rest is kept of the open line
    pub keeps : (line' : List ℕ) → has_lf rest ≡ false → ((next : List ℕ) → line ≡ kept next → line' ≡ kept (next ++ rest)) → line' ≡ kept (open_line_from begun piece)
    keeps line' none kept_on = kept_on so_far.next so_far.is_kept ∙ ap kept (sym (so_far.opens ∙ open_line_from-none so_far.next rest none))

    -- or it could not be kept
    pub starves : has_lf rest ≡ false → Halted R F s a b (ended_lines_from begun piece) NoMemory
    starves none =
        let P : List (List ℕ) → Type 0 = λ lines. Halted R F s a b lines NoMemory in
        subst P (append-nil (ended_lines_from begun piece)) (
        Replied-Halted R F s m a b b (ended_lines_from begun piece) [] NoMemory (ends none) (Halted-nothing R F m b [])
        )
