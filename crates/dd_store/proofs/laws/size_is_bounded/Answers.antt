-- At each level but the last a function gives at most as many as there are choices.
use Rattle.dd_store.proofs.FreeLemmas.{size-bounded}
use Rattle.dd_store.proofs.LevelLemmas.{levels-bounded}
use Rattle.dd_store.proofs.laws.size_is_bounded.Goals as goal

pub returns-clause-size : goal.returns-clause-size
returns-clause-size c = size-bounded

pub returns-clause-levels : goal.returns-clause-levels
returns-clause-levels c = levels-bounded
