-- The marks stand for the names up to now.
use Rattle.std.proofs.Common.{take}
use Rattle.dd_store.specs.Follow.{assignment_of}
use Rattle.uvl_functions.specs.Variables.{marks_under}
use Rattle.uvl_model.specs.Marks.{StandFor}
use Rattle.uvl_model.specs.Products.{Products}
use Rattle.uvl_run.proofs.state.mark.Given as goal

abbrev pub invariant-loop-name : goal.invariant-loop-name
invariant-loop-name l =
    StandFor (Products l.model).names (marks_under l.vars (assignment_of l.assignment)) (take l.name-index l.names)
