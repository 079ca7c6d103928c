-- By the sets that the family's names tell.
use Rattle.uvl_decisions.proofs.Forcing.{forced_is_in_each_set, offered_is_in_some_set, forced_is_not_offered_otherwise}
use Rattle.uvl_decisions.proofs.laws.decisions_tell_sets.Goals as goal

pub returns-clause-forced : goal.returns-clause-forced
returns-clause-forced c = forced_is_in_each_set c.sublists_tell_sets.ensures

pub returns-clause-offered : goal.returns-clause-offered
returns-clause-offered c = offered_is_in_some_set c.sublists_tell_sets.ensures

pub returns-clause-opposite : goal.returns-clause-opposite
returns-clause-opposite c = forced_is_not_offered_otherwise
