-- What was pushed are literals on variables of the table.
use Rattle.dd_quant.specs.Possible.{AreLiterals}
use Rattle.uvl_diagram_tests.proofs.questions.literals_in.Given as goal

abbrev pub invariant-loop-value : goal.invariant-loop-value
invariant-loop-value l = AreLiterals l.kernel l.given.items

abbrev pub invariant-loop-variable : goal.invariant-loop-variable
invariant-loop-variable l = AreLiterals l.kernel l.given.items
