-- The total is that of the rows in front, and what is left is that of those behind.
use Rattle.uvl_model.proofs.Totals.{Totalled}
use Rattle.uvl_model.proofs.numbers.total_from.Given as goal

abbrev pub invariant-loop-index : goal.invariant-loop-index
invariant-loop-index l = Totalled l.key l.chosen l.first.0 l.rows l.total l.index
