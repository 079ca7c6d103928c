-- What was pushed are variables of the table.
use Rattle.std.specs.List.{All}
use Rattle.dd_store.specs.Table.{IsVariable}
use Rattle.uvl_diagram_tests.proofs.questions.variables_in.Given as goal

abbrev pub invariant-loop-from_end : goal.invariant-loop-from_end
invariant-loop-from_end l = All (λ v. IsVariable l.kernel v.0) l.vars.items
