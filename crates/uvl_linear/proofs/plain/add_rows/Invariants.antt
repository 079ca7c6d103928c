-- The numbers of the rows in front are added, and those behind are left.
use Rattle.uvl_linear.proofs.PlainLemmas.{Totals}
use Rattle.uvl_linear.proofs.plain.add_rows.Given as goal

abbrev pub invariant-loop-index : goal.invariant-loop-index
invariant-loop-index l = Totals l.initial.form l.form l.rows l.first.0 l.key l.factor l.index
