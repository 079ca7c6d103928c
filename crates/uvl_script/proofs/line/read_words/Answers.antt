-- The first word names the command.
use Rattle.std.proofs.Common.{Ok, Err, Option, Result, sym, subst}
use Rattle.uvl_script.specs.Lines.{reading_of_words, words_of_line}
use Rattle.uvl_script.specs.steps.Answers.{IsAnswered}
use Rattle.uvl_script.specs.declared.command.Command.{Command}
use Rattle.uvl_script.specs.declared.fault.LineFault.{LineFault}
use Rattle.uvl_script.proofs.Commands.{IsSome-behind, answered_line, error_is}
use Rattle.uvl_script.proofs.line.read_words.Goals as goal

pub command_of-requires : goal.command_of-requires
command_of-requires c =
    let first = rw c.in-Some.is at c.in_ok-name.ensures.first in
    IsSome-behind _ _ _ first c.in_ok-text_of_words.ensures.cut

pub returns-in_err-command_of-in-Some : goal.returns-in_err-command_of-in-Some
returns-in_err-command_of-in-Some c =
    let line = c.args.line.now in
    let first = rw c.in-Some.is at c.in_ok-name.ensures.first in
    let fault = c.in_err-command_of-in-Some.field-0.0 in
    let residual = c.from_residual-in_err-command_of-in-Some in
    let P : Result (Option Command) LineFault → Type 0 = λ r. IsAnswered (reading_of_words (words_of_line line)) r in
    subst P (sym (error_is residual.result fault residual.ensures.1))
    (answered_line line _ _ _ (Err fault) first c.in_ok-text_of_words.ensures.cut c.in_ok-text_of_words.ensures.words c.in_err-command_of-in-Some.ensures)

pub returns-in_ok-command_of-in-Some : goal.returns-in_ok-command_of-in-Some
returns-in_ok-command_of-in-Some c =
    let first = rw c.in-Some.is at c.in_ok-name.ensures.first in
    answered_line c.args.line.now _ _ _ (Ok c.in_ok-command_of-in-Some.field-0) first c.in_ok-text_of_words.ensures.cut c.in_ok-text_of_words.ensures.words c.in_ok-command_of-in-Some.ensures
