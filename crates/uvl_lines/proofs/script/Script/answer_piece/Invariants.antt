-- How far the piece has been answered.
use Rattle.std.proofs.Common.{◌≡◌, ℕ, List, length}
use Rattle.uvl_lines.specs.steps.Kept.{kept}
use Rattle.uvl_lines.proofs.Progress.{Progress}
use Rattle.uvl_lines.proofs.script.Script.answer_piece.Given as goal

abbrev pub invariant-loop-front : goal.invariant-loop-front
invariant-loop-front g l = record {
  same_told : g.F.Files.told l.files ≡ g.F.Files.told l.initial.files;
  same_files : g.F.Files.faults l.files ≡ g.F.Files.faults l.initial.files;
  same_out : g.K.Sink.faults l.out ≡ g.K.Sink.faults l.initial.out;
  answered : (begun : List ℕ) → l.initial.self.line.items ≡ kept begun →
      Progress (g.A.Answerer.replies (g.F.Files.told l.initial.files)) l.initial.answerer l.answerer (g.K.Sink.written l.initial.out) (g.K.Sink.written l.out) begun l.piece l.self.line.items l.rest;
}

abbrev pub decreases-loop-front : goal.decreases-loop-front
decreases-loop-front g l = length l.rest
