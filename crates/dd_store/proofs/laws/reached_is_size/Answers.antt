-- The values of what is reached are the cofactors.
use Rattle.dd_store.proofs.LevelReachedLemmas.{reached-level-size}
use Rattle.dd_store.proofs.ReachedLemmas.{reached-size}
use Rattle.dd_store.proofs.laws.reached_is_size.Goals as goal

pub returns-clause-size : goal.returns-clause-size
returns-clause-size c = reached-size

pub returns-clause-levels : goal.returns-clause-levels
returns-clause-levels c = reached-level-size
