-- What is found of the main model.
use Rattle.std.proofs.Common.{subst}
use Rattle.uvl_analyses.specs.Members.{false_optional_of}
use Rattle.uvl_run.specs.State.{State}
use Rattle.uvl_run.specs.steps.Found.{Finds}
use Rattle.uvl_run.proofs.state.State.false_optional.Goals as goal

pub returns : goal.returns
returns c =
    let P : State → Type 0 = λ s. Finds s.main (false_optional_of s.main) c.false_optional.result in
    let found = c.false_optional.ensures in
    subst P c.self.view_is (record { named = found.names; there = found.there; void = found.void; only_void = found.only_void })
