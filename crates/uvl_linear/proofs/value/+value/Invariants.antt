-- What was added and the part that is left make the whole.
use Rattle.uvl_model.specs.Rules.{number_nodes_of}
use Rattle.uvl_linear.proofs.ValueLemmas.{Goes}
use Rattle.uvl_linear.proofs.value.+value.Given as goal

abbrev pub decreases-add_value : goal.decreases-add_value
decreases-add_value l = number_nodes_of l.number.now

abbrev pub decreases-loop-part : goal.decreases-loop-part
decreases-loop-part l = number_nodes_of l.part

abbrev pub invariant-loop-part : goal.invariant-loop-part
invariant-loop-part l = Goes l.model l.sign l.initial.form l.form l.number l.part
