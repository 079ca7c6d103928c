use Rattle.std.proofs.Common.{sym, arith}
use Rattle.std.proofs.lemmas.Result.{err_from_is_err_and}
use Rattle.uvl_parser.proofs.Turns.{fails_on}
use Rattle.uvl_parser.proofs.Keeping.{keeping_begins, keeping_taken, keeping_failed, keeping_ended, keeping_over}
use Rattle.uvl_parser.proofs.entries.more_entries.Goals as goal

pub loop-turn-init : goal.loop-turn-init
loop-turn-init c = keeping_begins _ _ _

pub returns-then-not-begins_with : goal.returns-then-not-begins_with
returns-then-not-begins_with c = keeping_ended _ _ _ _ _ _ _ _ c.loop-turn.invariant (sym c.if-not-begins_with.ensures)

pub returns-in_err-next : goal.returns-in_err-next
returns-in_err-next c =
    let p = err_from_is_err_and c.from_residual.result c.from_residual.ensures.1 in
    rw (p.1, p.2) (fails_on _ _ _ c.in_err-next.ensures (λ left stops.
    keeping_failed _ _ _ _ _ _ _ _ c.loop-turn.invariant left c.loop-turn-test.true (sym c.if-not-begins_with.ensures) stops))

pub loop-turn-preserved : goal.loop-turn-preserved
loop-turn-preserved c =
    keeping_taken _ _ _ _ _ _ _ _ c.loop-turn.invariant _ _ _ _ c.loop-turn-test.true (sym c.if-not-begins_with.ensures) c.in_ok-next.ensures
    c.in_ok-keep.ensures.attributes c.in_ok-keep.ensures.rules

pub returns : goal.returns
returns c = keeping_over _ _ _ _ _ _ _ _ c.loop-turn.invariant (omega arith)
