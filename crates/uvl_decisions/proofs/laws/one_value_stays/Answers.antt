-- A set that agrees has one value of each feature.
use Rattle.uvl_decisions.proofs.Forcing.{never_both_are_forced}
use Rattle.uvl_decisions.proofs.laws.one_value_stays.Goals as goal

pub returns : goal.returns
returns c = never_both_are_forced c.sublists_tell_sets.ensures c.void_families_have_no_set.ensures.exact
