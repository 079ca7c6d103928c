-- The part is no deeper than the whole.
use Rattle.std.proofs.Common.{◌≤◌}
use Rattle.uvl_model.proofs.rule.Number.TheLaws.{the_size}
use Rattle.uvl_compile.proofs.span.+number_span.Given as goal

abbrev pub decreases-number_span : goal.decreases-number_span
decreases-number_span l = goal.size-number_span l

abbrev pub invariant-loop-part : goal.invariant-loop-part
invariant-loop-part l = the_size l.part ≤ the_size l.number
