-- A call that gave nothing was at the end, and bytes without room are within the limit plus one.
use Rattle.std.proofs.Common.{arith}
use Rattle.std.proofs.lemmas.Grind.{common_steps}
use Rattle.uvl_outside.proofs.Streams.{all_from_none, at_most_both}
use Rattle.uvl_outside.proofs.reading.read_past.Goals as goal

pub returns-then-count-eq0-clause-whole : goal.returns-then-count-eq0-clause-whole
returns-then-count-eq0-clause-whole g c =
    λ _. all_from_none _ _ _ _ _ _ c.loop-piece.invariant.1 c.in_ok-count.ensures.moves
    c.if-count-eq0.true

pub returns-in_err-extend_from_slice-clause-no_further :
    goal.returns-in_err-extend_from_slice-clause-no_further
returns-in_err-extend_from_slice-clause-no_further g c =
    at_most_both _ _ _ _ _ _ c.loop-piece.invariant.1 c.in_ok-count.ensures.moves.front
    (grind (arith, common_steps))
