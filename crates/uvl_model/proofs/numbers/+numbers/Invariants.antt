-- The whole is what was added up and the part that is left.
use Rattle.uvl_model.specs.Rules.{number_nodes_of}
use Rattle.uvl_model.proofs.NumberSteps.{Going}
use Rattle.uvl_model.proofs.numbers.+numbers.Given as goal

abbrev pub decreases-amount_of : goal.decreases-amount_of
decreases-amount_of l = number_nodes_of l.number.now

abbrev pub decreases-loop-part : goal.decreases-loop-part
decreases-loop-part l = number_nodes_of l.part

abbrev pub invariant-loop-part : goal.invariant-loop-part
invariant-loop-part l = Going l.model l.chosen l.number l.part l.rest
