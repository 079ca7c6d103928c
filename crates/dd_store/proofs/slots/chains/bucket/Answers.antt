-- The trees of the definition and of the code are the same.
use Rattle.std.proofs.Common.{rules}
use Rattle.dd_store.specs.Chains.{bucket_of}
use Rattle.dd_store.proofs.slots.chains.bucket.Goals as goal

pub returns-clause-is : goal.returns-clause-is
unfolding bucket_of
returns-clause-is c = search rules
