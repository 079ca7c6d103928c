-- Compiling a model in a table of its own.
use Rattle.std.specs.Prelude.{ℕ}
use Rattle.dd_store.specs.declared.refusal.Refusal.{Refusal}
use Rattle.dd_store.specs.declared.refusal.Refusal.TheVariants.{OverBudget, OutOfMemory}
pub use Rattle.uvl_analyses.specs.Compiled.{IsCompiled}
use Rattle.uvl_model.specs.Rows.{Rows}
use Rattle.uvl_run.specs.Budget.{IsShortForRows}

-- why a model isn't compiled in a table of its own; want of memory has no cause
abbrev pub IsCauseFor : Rows → ℕ → Refusal → Type 0
IsCauseFor rows budget (OverBudget nodes roots) = IsShortForRows rows budget
IsCauseFor rows budget OutOfMemory = Unit {0}
