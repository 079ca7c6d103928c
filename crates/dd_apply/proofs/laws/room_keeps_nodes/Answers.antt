-- New nodes have different values, each a cofactor of the asked function.
use Rattle.dd_apply.proofs.FewLemmas.{few-made, room-keeps}
use Rattle.dd_apply.proofs.laws.room_keeps_nodes.Goals as goal

pub returns-clause-few : goal.returns-clause-few
returns-clause-few c = few-made

pub returns-clause-stays : goal.returns-clause-stays
returns-clause-stays c = room-keeps
