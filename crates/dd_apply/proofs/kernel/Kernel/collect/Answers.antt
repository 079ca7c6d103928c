-- What the store collects is what the kernel's table loses.
use Rattle.std.proofs.Common.{subst}
use Rattle.dd_store.specs.Table.{Table}
use Rattle.dd_store.specs.Changes.{IsCollected}
use Rattle.dd_apply.proofs.kernel.Kernel.collect.Goals as goal

pub returns-clause-collected : goal.returns-clause-collected
returns-clause-collected c = subst (λ (t : Table). IsCollected t c.collect.new.self) c.self.view_is c.collect.ensures.collected
