-- The last line is what is kept of it, where there is one.
use Rattle.std.proofs.Common.{◌≡◌, ℕ, List, length, vec_len, sym, ap, ◌∙◌, subst, arith}
use Rattle.std.proofs.lemmas.Bool.Decides.{nat_tests}
use Rattle.uvl_script.specs.Lines.{reading_of}
use Rattle.uvl_lines.specs.Lines.{last_line}
use Rattle.uvl_lines.specs.steps.Answering.{Replied, Answering}
use Rattle.uvl_lines.proofs.Answering.{Replied-nil}
use Rattle.uvl_lines.proofs.Kept.{kept-none, no_items, some_items, last_line-kept, reading-kept}
use Rattle.uvl_lines.proofs.script.Script.finish.Goals as goal

pub returns-then-is_empty-clause-answered : goal.returns-then-is_empty-clause-answered
returns-then-is_empty-clause-answered g c = λ begun is.
    let R = g.A.Answerer.replies (g.F.Files.told c.args.files.now) in
    let line = c.args.self.now.line in
    let size : length line.items ≡ vec_len line = let counted = line.ok.0 in grind (arith, nat_tests) in
    let none = no_items line.items _ c.is_empty.result size c.is_empty.ensures c.if-is_empty.true in
    let P : List (List ℕ) → Type 0 = λ lines. Replied R c.args.answerer.now c.args.answerer.now (g.K.Sink.written c.args.out.now) (g.K.Sink.written c.args.out.now) lines in
    subst P (sym (ap last_line (kept-none begun (sym is ∙ none)))) (Replied-nil R g.A.Answerer.fetches _ _)

pub returns-clause-answered : goal.returns-clause-answered
returns-clause-answered g c = λ begun is.
    let R = g.A.Answerer.replies (g.F.Files.told c.args.files.now) in
    let line = c.args.self.now.line in
    let size : length line.items ≡ vec_len line = let counted = line.ok.0 in grind (arith, nat_tests) in
    let some = some_items line.items _ c.is_empty.result size c.is_empty.ensures c.if-is_empty.false in
    let P : List (List ℕ) → Type 0 = λ lines. Answering R g.A.Answerer.fetches c.args.answerer.now c.answer_line.new.answerer (g.K.Sink.written c.args.out.now) (g.K.Sink.written c.answer_line.new.out) lines c.answer_line.result in
    let alike = sym (ap reading_of (c.deref.ensures.value ∙ is) ∙ reading-kept begun) in
    subst P (sym (last_line-kept begun line.items is some)) (c.answer_line.ensures.answered begun alike)
