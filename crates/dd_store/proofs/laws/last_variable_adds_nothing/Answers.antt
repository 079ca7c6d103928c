-- The functions give the same with the variable and without.
use Rattle.dd_store.proofs.LastLemmas.{last-adds-nothing}
use Rattle.dd_store.proofs.LevelAgainLemmas.{last-at-levels}
use Rattle.dd_store.proofs.laws.last_variable_adds_nothing.Goals as goal

pub returns-clause-size : goal.returns-clause-size
returns-clause-size c = last-adds-nothing

pub returns-clause-levels : goal.returns-clause-levels
returns-clause-levels c = last-at-levels
