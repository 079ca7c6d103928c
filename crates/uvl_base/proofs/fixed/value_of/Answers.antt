-- Each digit is worth ten of the next, and twelve of them are below 10^12.
use Rattle.std.proofs.Common.{sym, ◌≡◌, ◌<◌, ◌^◌, ℕ, length, arith, subst}
use Rattle.std.specs.Str.Parse.{digits_value}
use Rattle.std.proofs.lemmas.Grind.{common_steps}
use Rattle.uvl_base.proofs.Digits.{digit_step, value_below}
use Rattle.uvl_base.proofs.fixed.value_of.Goals as goal

pub overflow_mul-value : goal.overflow_mul-value
overflow_mul-value c =
    let s = digit_step c.args.digits.now c.loop-digit.digit-index c.requires.digits c.requires.width c.loop-digit-test.true in
    omega (arith, s.value, s.small, c.loop-digit.invariant)

pub overflow_add-value : goal.overflow_add-value
overflow_add-value c =
    let s = digit_step c.args.digits.now c.loop-digit.digit-index c.requires.digits c.requires.width c.loop-digit-test.true in
    omega (arith, s.value, s.small, c.loop-digit.invariant, c.from.ensures)

pub loop-digit-preserved : goal.loop-digit-preserved
loop-digit-preserved c =
    let s = digit_step c.args.digits.now c.loop-digit.digit-index c.requires.digits c.requires.width c.loop-digit-test.true in
    omega (arith, s.value, c.loop-digit.invariant, c.from.ensures)

pub returns-clause-small : goal.returns-clause-small
returns-clause-small c =
    let all : c.loop-digit.value ≡ digits_value 10 c.args.digits.now = grind (arith, common_steps) in
    subst (λ (n : ℕ). n < 10 ^ length c.args.digits.now) (sym all) (value_below c.args.digits.now c.requires.digits)
