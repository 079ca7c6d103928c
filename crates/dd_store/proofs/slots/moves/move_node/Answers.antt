-- The node keeps its row and its mark.
use Rattle.dd_store.proofs.SlotLemmas.{keeps-set, keeps-all}
use Rattle.dd_store.proofs.slots.moves.move_node.Goals as goal
use Rattle.dd_store.proofs.slots.moves.move_node.Goals.{in-Some, in_default}

pub returns-clause-keeps : goal.returns-clause-keeps
returns-clause-keeps c = elim c.match-row.branch [
  | in-Some w ↦ rw w.slots-is (keeps-set _ _ _ w.with_next.ensures.row w.with_next.ensures.mark)
  | in_default w ↦ rw w.slots-is (keeps-all _)
]
