-- The terms of the variables in front stand there, and those of the others are left.
use Rattle.std.proofs.Common.{◌≡◌, ◌++◌, drop}
use Rattle.uvl_rule.specs.Comparisons.{weighed}
use Rattle.uvl_rule.proofs.comparison.sum_over.Given as goal

abbrev pub invariant-loop-index : goal.invariant-loop-index
invariant-loop-index l = l.terms.items ++ weighed (drop l.index l.map) (drop l.index l.form.weights.items) ≡ weighed l.map l.form.weights.items
