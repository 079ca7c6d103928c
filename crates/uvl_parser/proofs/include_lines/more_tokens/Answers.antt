use Rattle.std.proofs.Common.{sym}
use Rattle.std.proofs.lemmas.Result.{err_from_is_err_and}
use Rattle.uvl_parser.proofs.Turns.{fails_on}
use Rattle.uvl_parser.proofs.LevelTexts.{texts_begin, text_taken, text_failed, text_ended, text_over}
use Rattle.uvl_parser.proofs.include_lines.more_tokens.Goals as goal

pub loop-turn-init : goal.loop-turn-init
loop-turn-init c = texts_begin _ _

pub returns-then-not-begins_level_part : goal.returns-then-not-begins_level_part
returns-then-not-begins_level_part c = text_ended _ _ _ _ _ c.loop-turn.invariant (sym c.if-not-begins_level_part.ensures)

pub returns-in_err-behind : goal.returns-in_err-behind
returns-in_err-behind c =
    let p = err_from_is_err_and c.from_residual.result c.from_residual.ensures.1 in
    rw (p.1, p.2) (fails_on _ _ _ c.in_err-behind.ensures (λ left stops.
    text_failed _ _ _ _ _ left c.loop-turn.invariant c.loop-turn-test.true (sym c.if-not-begins_level_part.ensures) stops))

pub loop-turn-preserved : goal.loop-turn-preserved
loop-turn-preserved c =
    text_taken _ _ _ _ _ _ _ c.loop-turn.invariant c.loop-turn-test.true (sym c.if-not-begins_level_part.ensures) c.in_ok-behind.ensures

pub returns : goal.returns
returns c = text_over _ _ _ _ _ c.loop-turn.invariant c.loop-turn-test.false
