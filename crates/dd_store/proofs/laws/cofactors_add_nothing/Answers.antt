-- A cofactor gives nothing but cofactors.
use Rattle.dd_store.proofs.FreeLemmas.{cofactors-add-nothing}
use Rattle.dd_store.proofs.LevelAgainLemmas.{cofactors-at-levels}
use Rattle.dd_store.proofs.laws.cofactors_add_nothing.Goals as goal

pub returns-clause-size : goal.returns-clause-size
returns-clause-size c = cofactors-add-nothing

pub returns-clause-levels : goal.returns-clause-levels
returns-clause-levels c = cofactors-at-levels
