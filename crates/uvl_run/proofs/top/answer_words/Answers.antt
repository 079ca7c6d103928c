-- What is asked for, or that nothing is.
use Rattle.std.proofs.Common.{sym}
use Rattle.uvl_words.specs.CommandLine.{usage_line}
use Rattle.uvl_run.proofs.Runs.{refused, no_memory}
use Rattle.uvl_run.proofs.top.answer_words.Goals as goal

pub returns-in-Ok-None-clause-answers : goal.returns-in-Ok-None-clause-answers
unfolding usage_line
returns-in-Ok-None-clause-answers g c =
    refused _ _ _ _ _ _ _ _ _ c.write_line.result (sym (rw c.in-Ok-None.field-0-is at c.in-Ok-None.ensures.request)) c.write_line.ensures

pub returns-in-Err-clause-answers : goal.returns-in-Err-clause-answers
returns-in-Err-clause-answers g c = no_memory _ _ _ _ _ _ _ c.from.result c.from.ensures
