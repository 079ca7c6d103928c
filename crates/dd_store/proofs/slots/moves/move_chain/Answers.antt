-- The chain is walked to its end.
use Rattle.std.proofs.Common.{◌≡◌, ◌≢◌, ap, is_some, refl, inl, arith}
use Rattle.dd_store.proofs.FindLemmas.{row-within, hangs-row}
use Rattle.dd_store.proofs.SlotLemmas.{keeps-all, keeps-then, others-then, others-put}
use Rattle.dd_store.proofs.MoveLemmas.{moves-start, moves-end, moves-row, moves-step}
use Rattle.dd_store.proofs.slots.moves.move_chain.Goals as goal

pub loop-init : goal.loop-init
loop-init c = record {
  moves = moves-start _ _ _ _ _ _ c.requires.moved c.requires.within refl;
  keeps = keeps-all _;
  others = λ n other. refl;
}

pub returns-then-eq-clause-moved : goal.returns-then-eq-clause-moved
returns-then-eq-clause-moved c =
    let ended : c.loop.node.0 ≡ 0 = grind arith in
    moves-end _ _ _ _ _ _ _ c.loop.invariant.moves (inl ended)

pub move_node-node-requires-clause-there : goal.move_node-node-requires-clause-there
move_node-node-requires-clause-there c =
    let some : c.loop.node.0 ≢ 0 = grind arith in
    ap is_some (hangs-row _ _ _ c.loop.slots c.loop.node.0 (moves-row _ _ _ _ _ _ _ c.loop.invariant.moves some)).1

pub move_node-node-requires-clause-within : goal.move_node-node-requires-clause-within
move_node-node-requires-clause-within c =
    let some : c.loop.node.0 ≢ 0 = grind arith in
    row-within c.loop.slots c.loop.node.0 _ (hangs-row _ _ _ c.loop.slots c.loop.node.0 (moves-row _ _ _ _ _ _ _ c.loop.invariant.moves some)).1

pub loop-preserved : goal.loop-preserved
loop-preserved c =
    let some : c.loop.node.0 ≢ 0 = grind arith in
    let i = c.loop.invariant in
    record {
      moves = moves-step _ _ _ _ _ _ _ _ _ _ i.moves some c.move_node-node.ensures.keeps c.move_node-node.ensures.put c.move_node-node.ensures.next;
      keeps = keeps-then i.keeps c.move_node-node.ensures.keeps;
      others = others-then _ _ _ _ i.keeps i.others (others-put _ _ _ _ _ _ _ _ (moves-row _ _ _ _ _ _ _ i.moves some) c.move_node-node.ensures.put);
    }
