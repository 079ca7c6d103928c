-- What is left of a number is no deeper than the whole.
use Rattle.std.proofs.Common.{◌≤◌}
use Rattle.uvl_model.proofs.rule.Number.TheLaws.{the_size}
use Rattle.uvl_model.proofs.rule.Number.+drop.Given as goal

abbrev pub invariant-loop-self : goal.invariant-loop-self
invariant-loop-self l = the_size l.self ≤ the_size l.fn.self
