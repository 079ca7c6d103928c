-- Cofactors of functions, and of cofactors.
use Rattle.dd_store.proofs.CofactorLemmas.{own-cofactor, cofactors-compose, fixed-cofactor, fixed-follows}
use Rattle.dd_store.proofs.laws.cofactors_compose.Goals as goal

pub returns-clause-own : goal.returns-clause-own
returns-clause-own c = own-cofactor

pub returns-clause-again : goal.returns-clause-again
returns-clause-again c = cofactors-compose

pub returns-clause-fixed : goal.returns-clause-fixed
returns-clause-fixed c = fixed-cofactor

pub returns-clause-follows : goal.returns-clause-follows
returns-clause-follows c = fixed-follows
