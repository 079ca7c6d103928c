-- How far the script has been read.
use Rattle.std.proofs.Common.{◌≡◌, ◌≤◌, ◌-◌}
use Rattle.uvl_base.specs.Limits.{most_script_bytes}
use Rattle.uvl_lines.proofs.SoFar.{SoFar}
use Rattle.uvl_lines.proofs.script.Script.read.Given as goal

abbrev pub invariant-loop-self : goal.invariant-loop-self
invariant-loop-self g l = record {
  within : l.count ≤ most_script_bytes;
  same_told : g.F.Files.told l.files ≡ g.F.Files.told l.initial.files;
  same_files : g.F.Files.faults l.files ≡ g.F.Files.faults l.initial.files;
  same_input : g.S.Source.faults l.input ≡ g.S.Source.faults l.initial.input;
  same_out : g.K.Sink.faults l.out ≡ g.K.Sink.faults l.initial.out;
  so_far : SoFar (g.A.Answerer.replies (g.F.Files.told l.initial.files)) l.initial.answerer l.answerer (g.S.Source.left l.initial.input) (g.S.Source.left l.input) (g.K.Sink.written l.initial.out) (g.K.Sink.written l.out) l.self.line.items l.count;
}

abbrev pub decreases-loop-self : goal.decreases-loop-self
decreases-loop-self g l = most_script_bytes - l.count
