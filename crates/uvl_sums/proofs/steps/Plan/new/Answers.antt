-- The steps are those of the terms, and the start that of the comparison.
use Rattle.std.proofs.Common.{◌≡◌, ◌+◌, ◌≤◌, ℤ, ◌+ℤ◌, subst, rules, arith, FitsSigned, to_z, of_z}
use Rattle.std.specs.Prelude.{unsigned_abs}
use Rattle.std.proofs.lemmas.Int.{to_z-of_z, fits_signed_from_abs}
use mir.Syntax.{w128}
use Rattle.uvl_sums.specs.Steps.{meets}
use Rattle.uvl_sums.specs.Sums.{compares}
use Rattle.uvl_sums.proofs.StepLemmas.{plan-is}
use Rattle.uvl_sums.proofs.steps.Plan.new.Goals as goal

pub returns : goal.returns
returns c =
    let constant = c.args.sum.now.constant in
    let fits : FitsSigned w128 c.start_of-exact.result.1 = search rules in
    let same : to_z w128 (of_z w128 constant) ≡ constant = to_z-of_z w128 constant (fits_signed_from_abs w128 constant (let size = c.requires.size in omega arith)) in
    plan-is c.args.kernel.now.order c.args.how c.args.sum.now.terms.items c.deref.result.now constant c.in_ok-placed.placed.items c.deref-2.result.now
    c.start_of-exact.result.0 c.start_of-exact.result.1 _ c.in_ok-steps.steps
    c.deref.ensures.value c.deref-2.ensures.value c.in_ok-placed.ensures c.in_ok-steps.ensures.terms c.in_ok-steps.ensures.planned
    (to_z-of_z w128 c.start_of-exact.result.1 fits)
    (subst (λ (z : ℤ). unsigned_abs c.start_of-exact.result.1 ≤ unsigned_abs z + 1) same c.start_of-exact.ensures.small) c.requires.size
    (subst (λ (z : ℤ). (t : ℤ) → meets c.start_of-exact.result.0 (c.start_of-exact.result.1 +ℤ t) ≡ compares c.args.how (z +ℤ t)) same c.start_of-exact.ensures.same)
