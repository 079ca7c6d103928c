-- The rows are sound, so their number is limited.
use Rattle.uvl_model.proofs.Limits.{features-some, features-few}
use Rattle.uvl_model.proofs.model.Model.features.Goals as goal

pub returns-clause-some : goal.returns-clause-some
returns-clause-some c = rw (c.as_slice.ensures) (features-some _ c.self.invariant.0)

pub returns-clause-few : goal.returns-clause-few
returns-clause-few c = rw (c.as_slice.ensures) (features-few _ c.self.invariant.0)
