-- A rule without comparisons has no numbers, and no more references than nodes.
use Rattle.uvl_model.proofs.SmallRules.{small_rule}
use Rattle.uvl_model.proofs.laws.small_rules_may_be.Goals as goal

pub returns : goal.returns
returns c = small_rule
