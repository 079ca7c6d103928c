-- Each way through a run with a model, and the end that it comes to.
use Rattle.std.proofs.Common.{Option, sym, refl, subst}
use Rattle.uvl_outside.specs.Files.{Contents}
use Rattle.uvl_run.specs.steps.Loads.{IsLoaded}
use Rattle.uvl_run.proofs.Runs.{faulty, unread, no_memory, from_loaded}
use Rattle.uvl_run.proofs.top.answer_model.Goals as goal

pub returns-in-Ok-clause-answers : goal.returns-in-Ok-clause-answers
returns-in-Ok-clause-answers g c = λ words named.
    let P : Option Contents → Type 0 = λ told. IsLoaded told c.args.path.now c.in-Ok.model in
    let loaded = subst P (sym c.load_model.ensures.same) c.in-Ok.ensures.model in
    from_loaded words _ _ _ _ _ _ _ _ _ c.answer_by_model.result c.load_model.ensures.same c.in-Ok.ensures.counted.stays (c.answer_by_model.ensures.answers words c.args.path.now named loaded)

pub returns-in-Err-Model-clause-answers : goal.returns-in-Err-Model-clause-answers
returns-in-Err-Model-clause-answers g c = λ words named.
    let counted = rw c.in-Err-Model.field-0-is at c.in-Err-Model.ensures.counted in
    from_loaded words _ _ _ _ _ _ _ _ _ c.report.result refl counted.stays
    (faulty words _ _ _ _ _ _ _ _ c.args.path.now c.args.budget c.in-Err-Model.fault c.report.result named (rw c.in-Err-Model.field-0-is at c.in-Err-Model.ensures.fault) c.report.ensures)

pub returns-in-Err-ReadFault-clause-answers : goal.returns-in-Err-ReadFault-clause-answers
returns-in-Err-ReadFault-clause-answers g c = λ words named.
    unread words _ _ _ _ _ _ _ c.args.path.now c.args.budget c.from.result named c.from.ensures (rw c.in-Err-ReadFault.field-0-is at c.in-Err-ReadFault.ensures.counted)

pub returns-in-Err-OutOfMemory-clause-answers : goal.returns-in-Err-OutOfMemory-clause-answers
returns-in-Err-OutOfMemory-clause-answers g c = λ words named.
    let counted = rw c.in-Err-OutOfMemory.field-0-is at c.in-Err-OutOfMemory.ensures.counted in
    from_loaded words _ _ _ _ _ _ _ _ _ c.from-in-Err-OutOfMemory.result refl counted.stays (no_memory words _ _ _ _ _ _ c.from-in-Err-OutOfMemory.result c.from-in-Err-OutOfMemory.ensures)
