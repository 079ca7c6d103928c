-- Twelve digits in front of the point and six behind it are below 10^18 millionths.
use Rattle.std.proofs.Common.{◌≡◌, ◌<◌, ◌*◌, ◌-◌, ◌^◌, ℕ, length, arith, ap}
use Rattle.uvl_base.proofs.Digits.{scaled_below, twelve_below}
use Rattle.uvl_base.proofs.fixed.millionths_of_digits.Goals as goal

pub overflow_mul-result : goal.overflow_mul-result
overflow_mul-result c =
    omega (arith, twelve_below c.args.whole.now _ c.value_of.ensures.small c.requires.whole_width)

pub overflow_add-result : goal.overflow_add-result
overflow_add-result c =
    let whole = twelve_below c.args.whole.now _ c.value_of.ensures.small c.requires.whole_width in
    let n = length c.args.decimals.now in
    let v = c.value_of-2.result in
    let scaled : v * 10 ^ (6 - n) < 1000000 = scaled_below v n (6 - n) c.value_of-2.ensures.small (omega (arith, c.requires.decimal_width)) in
    let same : v * c.pow-scale.result ≡ v * 10 ^ (6 - n) = ap (λ (k : ℕ). v * k) c.pow-scale.ensures in
    omega (arith, whole, scaled, same)

pub returns-clause-in_range : goal.returns-clause-in_range
returns-clause-in_range c =
    let whole = twelve_below c.args.whole.now _ c.value_of.ensures.small c.requires.whole_width in
    let n = length c.args.decimals.now in
    let v = c.value_of-2.result in
    let scaled : v * 10 ^ (6 - n) < 1000000 = scaled_below v n (6 - n) c.value_of-2.ensures.small (omega (arith, c.requires.decimal_width)) in
    let same : v * c.pow-scale.result ≡ v * 10 ^ (6 - n) = ap (λ (k : ℕ). v * k) c.pow-scale.ensures in
    omega (arith, whole, scaled, same)
