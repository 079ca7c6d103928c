-- Levels are told by values.
use Rattle.dd_store.proofs.TopLemmas.{tell-levels}
use Rattle.dd_store.proofs.laws.values_tell_levels.Goals as goal

pub returns : goal.returns
returns c = tell-levels
