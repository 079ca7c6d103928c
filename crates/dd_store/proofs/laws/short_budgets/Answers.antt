-- More functions need no fewer nodes, and so many functions no more than so many.
use Rattle.dd_store.proofs.ShortLemmas.{short-stays, short-bounded}
use Rattle.dd_store.proofs.laws.short_budgets.Goals as goal

pub returns-clause-stays : goal.returns-clause-stays
returns-clause-stays c = short-stays

pub returns-clause-bounded : goal.returns-clause-bounded
returns-clause-bounded c = short-bounded
