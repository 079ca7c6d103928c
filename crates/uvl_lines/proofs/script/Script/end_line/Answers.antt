-- What is kept of the line is read as the line.
use Rattle.std.proofs.Common.{◌≡◌, ℕ, List, ◌++◌, length, vec_len, sym, ap, ◌∙◌, arith}
use Rattle.std.proofs.lemmas.Bool.Decides.{nat_tests}
use Rattle.std.proofs.lemmas.Result.{err_from_is_err_and}
use Rattle.uvl_script.specs.Lines.{reading_of}
use Rattle.uvl_lines.proofs.Answering.{Halted-nothing, Answering-err}
use Rattle.uvl_lines.proofs.Kept.{kept-none, no_items, reading-kept}
use Rattle.uvl_lines.proofs.script.Script.end_line.Goals as goal

pub returns-then-is_empty-clause-answered : goal.returns-then-is_empty-clause-answered
returns-then-is_empty-clause-answered g c = λ begun is.
    let line = c.args.self.now.line in
    let size : length line.items ≡ vec_len line = let counted = line.ok.0 in grind (arith, nat_tests) in
    let none = no_items line.items _ c.is_empty.result size c.is_empty.ensures c.if-is_empty.true in
    c.answer_line.ensures.answered (begun ++ c.args.end.now) (ap (λ (front : List ℕ). reading_of (front ++ c.args.end.now)) (kept-none begun (sym is ∙ none)))

pub returns-in_err-keep-clause-answered : goal.returns-in_err-keep-clause-answered
returns-in_err-keep-clause-answered g c = λ begun is.
    let R = g.A.Answerer.replies (g.F.Files.told c.args.files.now) in
    let F = g.A.Answerer.fetches in
    let from = err_from_is_err_and c.from_residual.result c.from_residual.ensures.1 in
    Answering-err R F _ _ _ _ _ _ from.0 _ from.1 from.2 (Halted-nothing R F _ _ _)

pub returns-in_err-answer_line-clause-answered : goal.returns-in_err-answer_line-clause-answered
returns-in_err-answer_line-clause-answered g c = λ begun is.
    let R = g.A.Answerer.replies (g.F.Files.told c.args.files.now) in
    let F = g.A.Answerer.fetches in
    let from = err_from_is_err_and c.from_residual-in_err-answer_line.result c.from_residual-in_err-answer_line.ensures.1 in
    let alike = sym (ap reading_of (c.deref.ensures.value ∙ c.in_ok-keep.ensures begun is) ∙ reading-kept (begun ++ c.args.end.now)) in
    Answering-err R F _ _ _ _ _ _ from.0 _ from.1 from.2 (c.in_err-answer_line.ensures.answered (begun ++ c.args.end.now) alike)

pub returns-clause-answered : goal.returns-clause-answered
returns-clause-answered g c = λ begun is.
    let alike = sym (ap reading_of (c.deref.ensures.value ∙ c.in_ok-keep.ensures begun is) ∙ reading-kept (begun ++ c.args.end.now)) in
    c.in_ok-answer_line.ensures.answered (begun ++ c.args.end.now) alike
