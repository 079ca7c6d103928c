use Rattle.std.proofs.Common.{sym, arith}
use Rattle.std.proofs.lemmas.Result.{err_from_is_err_and}
use Rattle.uvl_parser.proofs.Turns.{turns_begin, turn_taken, turn_failed, turn_ended, turns_over, fails_on, reads_part, reads_none}
use Rattle.uvl_parser.proofs.lists.more.Goals as goal

pub loop-turn-init : goal.loop-turn-init
loop-turn-init g c p reads = turns_begin _ _ _ _

pub returns-then-not-begins_with : goal.returns-then-not-begins_with
returns-then-not-begins_with g c p reads = turn_ended _ _ _ _ _ _ _ (c.loop-turn.invariant p reads) (sym c.if-not-begins_with.ensures)

pub returns-in_err-next : goal.returns-in_err-next
returns-in_err-next g c p reads =
    let e = err_from_is_err_and c.from_residual.result c.from_residual.ensures.1 in
    rw (e.1, e.2) (fails_on _ _ _ (reads_none _ p reads _ _ _ c.read.ensures _ c.in_err-next.was) (λ left stops.
    turn_failed _ _ _ _ _ _ _ _ (c.loop-turn.invariant p reads) c.loop-turn-test.true (sym c.if-not-begins_with.ensures) stops))

pub loop-turn-preserved : goal.loop-turn-preserved
loop-turn-preserved g c p reads =
    turn_taken _ _ _ _ _ _ _ _ _ _ (c.loop-turn.invariant p reads) c.loop-turn-test.true (sym c.if-not-begins_with.ensures)
    (reads_part _ p reads _ _ _ c.read.ensures _ _ c.in_ok-next.was) (c.in_ok-push.ensures.ok)

pub returns : goal.returns
returns g c p reads = turns_over _ _ _ _ _ _ _ (c.loop-turn.invariant p reads) (omega arith)
