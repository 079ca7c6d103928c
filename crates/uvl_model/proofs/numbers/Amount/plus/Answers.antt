-- Both parts fit 128 bits, so they are exact.
use Rattle.std.proofs.Common.{FitsSigned, rules}
use Rattle.std.specs.Prelude.{◌+ℤ◌}
use mir.Syntax.{w128}
use Rattle.uvl_model.proofs.Bounds.{sum_exact, plain_fits, value_fits}
use Rattle.uvl_model.proofs.numbers.Amount.plus.Goals as goal

pub returns : goal.returns
returns c =
    let a : FitsSigned w128 c.args.self.plain = search rules in
    let b : FitsSigned w128 c.args.other.plain = search rules in
    let d : FitsSigned w128 c.args.self.value = search rules in
    let e : FitsSigned w128 c.args.other.value = search rules in
    let plain = sum_exact c.args.self.plain c.args.other.plain a b (plain_fits (c.args.self.plain +ℤ c.args.other.plain) c.requires.plain) in
    let value = sum_exact c.args.self.value c.args.other.value d e (value_fits (c.args.self.value +ℤ c.args.other.value) c.requires.value) in
    λ i. record { plain = plain i; value = value i }
