-- A set is found where the names that it marks are one.
use Rattle.uvl_semantics.proofs.NoProduct.{some_set-exactly}
use Rattle.uvl_semantics.proofs.laws.sublists_tell_sets.Goals as goal

pub returns : goal.returns
returns c = some_set-exactly
