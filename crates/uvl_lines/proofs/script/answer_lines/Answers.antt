-- Without memory for a piece nothing is taken or said.
use Rattle.std.proofs.Common.{[], inl, refl, arith}
use Rattle.uvl_lines.specs.Runs.{here}
use Rattle.uvl_lines.proofs.Told.{appends_nothing, consumes_nothing}
use Rattle.uvl_lines.proofs.script.answer_lines.Goals as goal

pub returns-in_default-clause-answers : goal.returns-in_default-clause-answers
returns-in_default-clause-answers g c = record {
  taken = [];
  said = [];
  moved = consumes_nothing _;
  wrote = appends_nothing _;
  ends = (omega arith, [], inl refl, here _ _);
}
