-- The marks so far are of earlier turns.
use Rattle.dd_quant.proofs.MarkLemmas.{found-begun}
use Rattle.dd_quant.proofs.marks.Marks.begin.Goals as goal

pub returns-else-self : goal.returns-else-self
returns-else-self c = found-begun c.self.inside.turn c.self.inside.marks.items c.self.invariant
