-- Line by line through a piece, and what is left of it.
use Rattle.std.proofs.Common.{[], ◌∷◌, ◌++◌, Option, ◌∙◌, subst}
use Rattle.std.proofs.lemmas.Result.{err_from_is_err_and}
use Rattle.uvl_outside.specs.Files.{Contents}
use Rattle.uvl_lines.specs.steps.Answering.{Replied, Halted}
use Rattle.uvl_lines.proofs.Answering.{Answering-err}
use Rattle.uvl_lines.proofs.Progress.{goes_on, halts, ends, keeps, starves}
use Rattle.uvl_lines.proofs.script.Script.answer_piece.Goals as goal

pub returns-in_err-end_line-clause-answered : goal.returns-in_err-end_line-clause-answered
returns-in_err-end_line-clause-answered g c = λ begun is.
    let l = c.loop-front in
    let R = g.A.Answerer.replies (g.F.Files.told c.args.files.now) in
    let F = g.A.Answerer.fetches in
    let from = err_from_is_err_and c.from_residual.result c.from_residual.ensures.1 in
    let so_far = l.invariant.answered begun is in
    let P : Option Contents → Type 0 = λ told. Halted (g.A.Answerer.replies told) F l.answerer (g.K.Sink.written l.out) (g.K.Sink.written c.end_line.new.out) ((so_far.next ++ c.in-Some.front.now) ∷ []) c.in_err-end_line.field-0.0 in
    let halted = subst P l.invariant.same_told (c.in_err-end_line.ensures.answered so_far.next so_far.is_kept) in
    Answering-err R F _ _ _ _ _ _ from.0 _ from.1 from.2 (halts R F _ _ _ _ begun c.args.piece.now l.self.line.items l.rest.now so_far _ c.in-Some.front.now c.in-Some.behind.now _ c.in-Some.ensures halted)

pub loop-front-preserved : goal.loop-front-preserved
loop-front-preserved g c =
    let l = c.loop-front in
    let R = g.A.Answerer.replies (g.F.Files.told c.args.files.now) in
    let F = g.A.Answerer.fetches in
    record {
      same_told = c.in_ok-end_line.ensures.same_files ∙ l.invariant.same_told;
      same_files = c.in_ok-end_line.ensures.files_counted.stays ∙ l.invariant.same_files;
      same_out = c.in_ok-end_line.ensures.out_counted.stays ∙ l.invariant.same_out;
      answered = λ begun is.
          let so_far = l.invariant.answered begun is in
          let P : Option Contents → Type 0 = λ told. Replied (g.A.Answerer.replies told) l.answerer c.end_line.new.answerer (g.K.Sink.written l.out) (g.K.Sink.written c.end_line.new.out) ((so_far.next ++ c.in-Some.front.now) ∷ []) in
          let replied = subst P l.invariant.same_told (c.in_ok-end_line.ensures.answered so_far.next so_far.is_kept) in
          goes_on R F _ _ _ _ begun c.args.piece.now l.self.line.items l.rest.now so_far _ _ c.in-Some.front.now c.in-Some.behind.now _ c.in-Some.ensures c.in_ok-end_line.ensures.begun replied;
    }

pub returns-in_err-keep-clause-answered : goal.returns-in_err-keep-clause-answered
returns-in_err-keep-clause-answered g c = λ begun is.
    let l = c.loop-front in
    let R = g.A.Answerer.replies (g.F.Files.told c.args.files.now) in
    let F = g.A.Answerer.fetches in
    let from = err_from_is_err_and c.from_residual-in_err-keep.result c.from_residual-in_err-keep.ensures.1 in
    Answering-err R F _ _ _ _ _ _ from.0 _ from.1 from.2 (starves R F _ _ _ _ begun c.args.piece.now l.self.line.items l.rest.now (l.invariant.answered begun is) c.in_default.ensures)

pub returns-clause-begun : goal.returns-clause-begun
returns-clause-begun g c = λ begun is.
    let l = c.loop-front in
    let R = g.A.Answerer.replies (g.F.Files.told c.args.files.now) in
    keeps R g.A.Answerer.fetches _ _ _ _ begun c.args.piece.now l.self.line.items l.rest.now (l.invariant.answered begun is) _ c.in_default.ensures c.in_ok-keep.ensures

pub returns-clause-answered : goal.returns-clause-answered
returns-clause-answered g c = λ begun is.
    let l = c.loop-front in
    let R = g.A.Answerer.replies (g.F.Files.told c.args.files.now) in
    ends R g.A.Answerer.fetches _ _ _ _ begun c.args.piece.now l.self.line.items l.rest.now (l.invariant.answered begun is) c.in_default.ensures
