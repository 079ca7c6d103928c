-- What all functions of a list give, a list with more gives too.
use Rattle.dd_store.proofs.LevelLemmas.{more-at-levels}
use Rattle.dd_store.proofs.SizeLemmas.{more-size}
use Rattle.dd_store.proofs.laws.more_is_not_smaller.Goals as goal

pub returns-clause-size : goal.returns-clause-size
returns-clause-size c = more-size

pub returns-clause-levels : goal.returns-clause-levels
returns-clause-levels c = more-at-levels
