-- The variables so far that are seen.
use Rattle.std.proofs.Common.{◌≡◌, filter, take}
use Rattle.dd_quant.specs.steps.Seen.{is_seen}
use Rattle.dd_quant.proofs.dependence.seen_variables.Given as goal

abbrev pub invariant-loop-var : goal.invariant-loop-var
invariant-loop-var l = record {
  vars : l.vars.items ≡ filter (λ v. is_seen l.seen v.0) (take l.var-index l.order);
}
