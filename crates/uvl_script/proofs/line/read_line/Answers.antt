-- A line that isn't too long is read by its words.
use Rattle.std.proofs.Common.{Option, Result, sym, subst}
use Rattle.uvl_script.specs.Lines.{reading_of}
use Rattle.uvl_script.specs.steps.Answers.{IsAnswered}
use Rattle.uvl_script.specs.declared.command.Command.{Command}
use Rattle.uvl_script.specs.declared.fault.LineFault.{LineFault}
use Rattle.uvl_script.proofs.Commands.{reading_is, answer_is, cause_is, refusal_is}
use Rattle.uvl_script.proofs.line.read_line.Goals as goal

answered : (c : goal.After-read_words) → IsAnswered (reading_of c.args.line.now) c.read_words.result
answered c =
    let P : Result (Option Command) LineFault → Type 0 = λ reading. IsAnswered reading c.read_words.result in
    subst P (sym (reading_is c.args.line.now c.without_cr-bare.result.now c.without_cr-bare.ensures c.if-bare-gt-MOST_LINE_BYTES.false)) c.read_words.ensures

pub returns-clause-answer : goal.returns-clause-answer
returns-clause-answer c = answer_is _ _ (answered c)

pub returns-clause-cause : goal.returns-clause-cause
returns-clause-cause c = cause_is _ _ (answered c)

pub returns-clause-refused : goal.returns-clause-refused
returns-clause-refused c = refusal_is _ _ (answered c)
