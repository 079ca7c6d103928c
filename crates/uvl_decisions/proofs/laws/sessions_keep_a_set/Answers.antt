-- By the answer of each line.
use Rattle.uvl_decisions.proofs.Keeping.{sessions_keep_a_set}
use Rattle.uvl_decisions.proofs.laws.sessions_keep_a_set.Goals as goal

pub returns : goal.returns
returns c = sessions_keep_a_set c.void_families_have_no_set.ensures.exact c.decisions_tell_sets.ensures.forced c.an_explanation_is_least.ensures.there
