use Rattle.std.proofs.Common.{sym, arith, rules}
use Rattle.std.proofs.lemmas.Result.{err_from_is_err_and}
use Rattle.uvl_parser.proofs.Turns.{turns_begin, turn_taken, turn_failed, turn_ended, turns_over, fails_on}
use Rattle.uvl_parser.proofs.reference.dot_names.Goals as goal

pub loop-turn-init : goal.loop-turn-init
loop-turn-init c = turns_begin _ _ _ _

pub returns-then-not-begins_with : goal.returns-then-not-begins_with
returns-then-not-begins_with c = turn_ended _ _ _ _ _ _ _ c.loop-turn.invariant (sym c.if-not-begins_with.ensures)

pub returns-in_err-name : goal.returns-in_err-name
returns-in_err-name c =
    let p = err_from_is_err_and c.from_residual.result c.from_residual.ensures.1 in
    rw (p.1, p.2) (fails_on _ _ _ c.in_err-name.ensures (λ left stops.
    turn_failed _ _ _ _ _ _ _ _ c.loop-turn.invariant (c.loop-turn-test.true) (sym c.if-not-begins_with.ensures) stops))

pub loop-turn-preserved : goal.loop-turn-preserved
loop-turn-preserved c =
    turn_taken _ _ _ _ _ _ _ _ _ _ c.loop-turn.invariant c.loop-turn-test.true (sym c.if-not-begins_with.ensures) c.in_ok-name.ensures (search rules)

pub returns : goal.returns
returns c = turns_over _ _ _ _ _ _ _ c.loop-turn.invariant (omega arith)
