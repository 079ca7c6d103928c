-- What is found of the main model.
use Rattle.std.proofs.Common.{subst}
use Rattle.uvl_model.specs.Products.{Products}
use Rattle.uvl_analyses.specs.Analyses.{core_of}
use Rattle.uvl_run.specs.State.{State}
use Rattle.uvl_run.specs.steps.Found.{Finds}
use Rattle.uvl_run.proofs.state.State.core.Goals as goal

pub returns : goal.returns
returns c =
    let P : State → Type 0 = λ s. Finds s.main (core_of (Products s.main)) c.core.result in
    let found = c.core.ensures in
    subst P c.self.view_is (record { named = found.names; there = found.there; void = found.void; only_void = found.only_void })
