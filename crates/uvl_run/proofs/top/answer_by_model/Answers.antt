-- The model is compiled, or the budget is too small for that.
use Rattle.uvl_run.specs.Budget.{IsShortFor, budget_line}
use Rattle.uvl_run.proofs.Runs.{short, answered, no_memory, starts_with}
use Rattle.uvl_run.proofs.top.answer_by_model.Goals as goal

pub returns-in-Ok-clause-answers : goal.returns-in-Ok-clause-answers
returns-in-Ok-clause-answers g c = λ words path named loaded.
    answered words _ _ _ _ _ _ _ _ _ _ _ path c.args.budget loaded.files _ c.answer_lines.result c.from.result named loaded.loads
    (starts_with c.flat_keeps_products.ensures loaded.files c.args.model c.args.budget _ loaded.flat c.in-Ok.ensures.start) c.answer_lines.ensures.answers c.from.ensures
    c.answer_lines.ensures.files_counted c.answer_lines.ensures.input_counted c.answer_lines.ensures.out_counted

pub returns-in-Err-OverBudget-clause-answers : goal.returns-in-Err-OverBudget-clause-answers
unfolding budget_line
returns-in-Err-OverBudget-clause-answers g c = λ words path named loaded.
    let few = rw c.in-Err-OverBudget.field-0-is at c.in-Err-OverBudget.ensures.cause in
    let is : IsShortFor loaded.files c.args.budget = record { rows = c.args.model; flat = loaded.flat; of_rows = few } in
    short words _ _ _ _ _ _ _ _ path c.args.budget loaded.files c.write_line.result named loaded.loads is c.write_line.ensures

pub returns-in-Err-OutOfMemory-clause-answers : goal.returns-in-Err-OutOfMemory-clause-answers
returns-in-Err-OutOfMemory-clause-answers g c = λ words path named loaded. no_memory words _ _ _ _ _ _ c.from-in-Err-OutOfMemory.result c.from-in-Err-OutOfMemory.ensures
