-- One chain more was moved.
use Rattle.dd_store.proofs.SlotLemmas.{keeps-then, others-then}
use Rattle.dd_store.proofs.slots.moves.move_chains.Goals as goal

pub loop-bucket-preserved : goal.loop-bucket-preserved
loop-bucket-preserved c = record {
  moved = c.move_chain.ensures.moved;
  keeps = keeps-then c.loop-bucket.invariant.keeps c.move_chain.ensures.keeps;
  others = others-then _ _ _ _ c.loop-bucket.invariant.keeps c.loop-bucket.invariant.others c.move_chain.ensures.others;
}
