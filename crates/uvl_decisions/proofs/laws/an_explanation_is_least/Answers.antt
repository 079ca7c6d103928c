-- Parts stand in the order of what is dropped.
use Rattle.uvl_decisions.proofs.Explaining.{explanations_force, none_is_for_what_is_not_forced, explanations_are_least}
use Rattle.uvl_decisions.proofs.laws.an_explanation_is_least.Goals as goal

pub returns-clause-forces : goal.returns-clause-forces
returns-clause-forces c = explanations_force

pub returns-clause-there : goal.returns-clause-there
returns-clause-there c = none_is_for_what_is_not_forced c.decisions_tell_sets.ensures.forced

pub returns-clause-least : goal.returns-clause-least
returns-clause-least c = explanations_are_least
