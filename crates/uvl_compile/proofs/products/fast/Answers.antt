-- One plan after the other.
use Rattle.dd_store.specs.Handles.{KeepsHandles}
use Rattle.uvl_compile.proofs.SameLemmas.{none-is}
use Rattle.uvl_compile.proofs.StepLemmas.{keeps-same}
use Rattle.uvl_compile.proofs.products.fast.Goals as goal

pub returns-clause-keeps : goal.returns-clause-keeps
returns-clause-keeps c =
    keeps-same c.args.kernel.now c.by_plan.new.kernel c.by_plan-in-None.new.kernel c.in_ok-made.ensures.keeps
    (none-is c.in_ok-made.made (KeepsHandles c.args.kernel.now c.by_plan.new.kernel) c.in-None.is c.in_ok-made.ensures.none) c.by_plan-in-None.ensures.keeps
