-- How a script is read on, and how each end of it is reached.
use Rattle.std.proofs.Common.{◌≡◌, ◌+◌, ◌<◌, ◌≤◌, ℕ, Option, length, take, refl, sym, subst, ◌∙◌, arith}
use Rattle.std.proofs.lemmas.Result.{err_from_is_err_and}
use Rattle.std.proofs.lemmas.List.{length-take, length-take-le}
use Rattle.uvl_base.specs.Limits.{most_script_bytes}
use Rattle.uvl_outside.specs.Files.{Contents}
use Rattle.uvl_lines.specs.declared.ending.Ending.{Ending}
use Rattle.uvl_lines.specs.Lines.{open_line, ended_lines_from, last_line}
use Rattle.uvl_lines.specs.steps.Answering.{Replied, Halted, Answering}
use Rattle.uvl_lines.proofs.SoFar.{SoFar, starts, goes_on, halts, too_much, at_end}
use Rattle.uvl_lines.proofs.Told.{nothing_left}
use Rattle.uvl_lines.proofs.script.Script.read.Goals as goal

pub loop-self-init : goal.loop-self-init
loop-self-init g c =
    let R = g.A.Answerer.replies (g.F.Files.told c.args.files.now) in
    record {
      within = omega arith;
      same_told = refl;
      same_files = refl;
      same_input = refl;
      same_out = refl;
      so_far = starts R g.A.Answerer.fetches _ _ _ _ c.requires.fresh;
    }

pub returns-in-Ok-eq0-clause-answers : goal.returns-in-Ok-eq0-clause-answers
returns-in-Ok-eq0-clause-answers g c =
    let l = c.loop-self in
    let R = g.A.Answerer.replies (g.F.Files.told c.args.files.now) in
    let F = g.A.Answerer.fetches in
    let so_far = l.invariant.so_far in
    let none = nothing_left (g.S.Source.left l.input) (g.S.Source.left c.take.new.self) c.take.new.into c.in-Ok-eq0.field-0 c.in-Ok-eq0.field-0-test c.in-Ok-eq0.ensures.moves in
    let P : Option Contents → Type 0 = λ told. Answering (g.A.Answerer.replies told) F l.answerer c.finish.new.answerer (g.K.Sink.written l.out) (g.K.Sink.written c.finish.new.out) (last_line (open_line so_far.taken)) c.finish.result in
    let answered = subst P l.invariant.same_told (c.finish.ensures.answered (open_line so_far.taken) so_far.begun) in
    at_end R F _ _ _ _ _ _ l.self.line.items l.count l.invariant.within so_far _ _ _ c.finish.result none.0 none.1 answered

pub returns-then-count-eq-MOST_SCRIPT_BYTES-clause-answers : goal.returns-then-count-eq-MOST_SCRIPT_BYTES-clause-answers
returns-then-count-eq-MOST_SCRIPT_BYTES-clause-answers g c =
    let l = c.loop-self in
    let R = g.A.Answerer.replies (g.F.Files.told c.args.files.now) in
    let piece = take c.in-Ok.taken c.take.new.into in
    let whole : length piece ≡ c.in-Ok.taken = length-take-le c.in-Ok.taken c.take.new.into c.in-Ok.ensures.within in
    let some : 0 < length piece = omega (arith, c.in-Ok.taken-test) in
    too_much R g.A.Answerer.fetches _ _ _ _ _ _ l.self.line.items l.count l.invariant.within l.invariant.so_far _ piece c.if-count-eq-MOST_SCRIPT_BYTES.true some c.in-Ok.ensures.moves.front

pub returns-in_err-answer_piece-in-Ok-clause-answers : goal.returns-in_err-answer_piece-in-Ok-clause-answers
returns-in_err-answer_piece-in-Ok-clause-answers g c =
    let l = c.loop-self in
    let R = g.A.Answerer.replies (g.F.Files.told c.args.files.now) in
    let F = g.A.Answerer.fetches in
    let so_far = l.invariant.so_far in
    let piece = take c.in-Ok.taken c.take.new.into in
    let whole : length piece ≡ c.in-Ok.taken = length-take-le c.in-Ok.taken c.take.new.into c.in-Ok.ensures.within in
    let fits : l.count + length piece ≤ most_script_bytes = omega (arith, l.invariant.within, c.if-count-eq-MOST_SCRIPT_BYTES.false, c.max-room.ensures, c.min.ensures, c.in-Ok.ensures.within, length-take c.max-room.result l.buffer) in
    let from = err_from_is_err_and c.from_residual.result c.from_residual.ensures.1 in
    let P : Option Contents → Type 0 = λ told. Halted (g.A.Answerer.replies told) F l.answerer (g.K.Sink.written l.out) (g.K.Sink.written c.answer_piece.new.out) (ended_lines_from (open_line so_far.taken) piece) c.in_err-answer_piece-in-Ok.field-0.0 in
    let halted = subst P l.invariant.same_told (c.in_err-answer_piece-in-Ok.ensures.answered (open_line so_far.taken) so_far.begun) in
    let Q : Ending → Type 0 = λ ending. Halted R F l.answerer (g.K.Sink.written l.out) (g.K.Sink.written c.answer_piece.new.out) (ended_lines_from (open_line so_far.taken) piece) ending in
    rw from.1 (halts R F _ _ _ _ _ _ l.self.line.items l.count l.invariant.within so_far _ _ piece from.0 fits c.in-Ok.ensures.moves.front (subst Q (sym from.2) halted))

pub loop-self-preserved : goal.loop-self-preserved
loop-self-preserved g c =
    let l = c.loop-self in
    let R = g.A.Answerer.replies (g.F.Files.told c.args.files.now) in
    let F = g.A.Answerer.fetches in
    let so_far = l.invariant.so_far in
    let piece = take c.in-Ok.taken c.take.new.into in
    let whole : length piece ≡ c.in-Ok.taken = length-take-le c.in-Ok.taken c.take.new.into c.in-Ok.ensures.within in
    let P : ℕ → Type 0 = λ n. SoFar R c.args.answerer.now c.answer_piece.new.answerer (g.S.Source.left c.args.input.now) (g.S.Source.left c.take.new.self) (g.K.Sink.written c.args.out.now) (g.K.Sink.written c.answer_piece.new.out) c.answer_piece.new.self.line.items (l.count + n) in
    let Q : Option Contents → Type 0 = λ told. Replied (g.A.Answerer.replies told) l.answerer c.answer_piece.new.answerer (g.K.Sink.written l.out) (g.K.Sink.written c.answer_piece.new.out) (ended_lines_from (open_line so_far.taken) piece) in
    let replied = subst Q l.invariant.same_told (c.in_ok-answer_piece-in-Ok.ensures.answered (open_line so_far.taken) so_far.begun) in
    record {
      within = omega (arith, l.invariant.within, c.if-count-eq-MOST_SCRIPT_BYTES.false, c.max-room.ensures, c.min.ensures, c.in-Ok.ensures.within, length-take c.max-room.result l.buffer);
      same_told = c.in_ok-answer_piece-in-Ok.ensures.same_files ∙ l.invariant.same_told;
      same_files = c.in_ok-answer_piece-in-Ok.ensures.files_counted.stays ∙ l.invariant.same_files;
      same_input = c.in-Ok.ensures.counted.stays ∙ l.invariant.same_input;
      same_out = c.in_ok-answer_piece-in-Ok.ensures.out_counted.stays ∙ l.invariant.same_out;
      so_far = subst P whole (goes_on R F _ _ _ _ _ _ l.self.line.items l.count l.invariant.within so_far _ _ _ _ piece c.in-Ok.ensures.moves.front (c.in_ok-answer_piece-in-Ok.ensures.begun (open_line so_far.taken) so_far.begun) replied);
    }
