-- Handles alone change, so kept results stay right.
use Rattle.dd_apply.proofs.RightLemmas.{right-grows}
use Rattle.dd_apply.proofs.kernel.Kernel.release_all.Goals as goal

pub invariant_of-self : goal.invariant_of-self
invariant_of-self c = right-grows c.self.inside.store c.release_all.new.self c.self.inside.results c.release_all.ensures.grows c.self.invariant
