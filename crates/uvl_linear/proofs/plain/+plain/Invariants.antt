-- What was added and the part that is left make the whole.
use Rattle.uvl_model.specs.Rules.{number_nodes_of}
use Rattle.uvl_linear.proofs.PlainLemmas.{Walks}
use Rattle.uvl_linear.proofs.plain.+plain.Given as goal

abbrev pub decreases-add_plain : goal.decreases-add_plain
decreases-add_plain l = number_nodes_of l.number.now

abbrev pub decreases-loop-part : goal.decreases-loop-part
decreases-loop-part l = number_nodes_of l.part

abbrev pub invariant-loop-part : goal.invariant-loop-part
invariant-loop-part l = Walks l.model l.factor l.initial.form l.form l.number l.part
