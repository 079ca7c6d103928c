-- The part is no deeper than the whole.
use Rattle.std.proofs.Common.{◌≤◌}
use Rattle.uvl_model.proofs.rule.Rule.TheLaws.{the_size}
use Rattle.uvl_compile.proofs.span.+span_of.Given as goal

abbrev pub decreases-span_of : goal.decreases-span_of
decreases-span_of l = goal.size-span_of l

abbrev pub invariant-loop-part : goal.invariant-loop-part
invariant-loop-part l = the_size l.part ≤ the_size l.rule
