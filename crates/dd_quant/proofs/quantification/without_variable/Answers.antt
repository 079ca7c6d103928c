-- Both cofactors, and their union.
use Rattle.std.proofs.Common.{false, inl, inr, refl}
use Rattle.std.proofs.lemmas.Result.{err_from_is_err_and}
use Rattle.dd_store.specs.Exhausted.{value_at}
use Rattle.dd_store.specs.Size.{fixed}
use Rattle.dd_apply.proofs.StepLemmas.{given-up-keeps}
use Rattle.dd_quant.specs.Exists.{without_group}
use Rattle.dd_quant.proofs.ExistsLemmas.{short-second, without-told, without-keeps, without-short}
use Rattle.dd_quant.proofs.ShortLemmas.{short-call}
use Rattle.dd_quant.proofs.quantification.without_variable.Goals as goal

pub returns-in_err-low-clause-cause : goal.returns-in_err-low-clause-cause
returns-in_err-low-clause-cause c =
    let t = c.args.kernel.now in
    let f = value_at t c.args.f.now in
    let p = err_from_is_err_and c.from_residual.result c.from_residual.ensures.1 in
    rw (p.1, p.2)
    (short-call t c.cofactor.new.kernel (fixed f c.args.var.0 false) (without_group c.args.var.0 f) c.in_err-low.field-0.0 (inr (inl refl)) c.in_err-low.ensures.full)

pub returns-in-Ok-clause-value : goal.returns-in-Ok-clause-value
returns-in-Ok-clause-value c =
    without-told c.args.kernel.now c.cofactor.new.kernel c.cofactor-2.new.kernel c.args.f.now c.args.var.0 c.in_ok-low.low c.requires.live c.in_ok-low.ensures.keeps c.in_ok-low.ensures.gained
    (λ j a. c.in_ok-low.ensures.value a j) c.in-Ok.high c.in-Ok.ensures.keeps c.in-Ok.ensures.gained (λ j a. c.in-Ok.ensures.value a j)
    c.either.new.kernel c.either.result c.either.ensures.value

pub returns-in-Ok-clause-keeps : goal.returns-in-Ok-clause-keeps
returns-in-Ok-clause-keeps c =
    without-keeps c.args.kernel.now c.cofactor.new.kernel c.cofactor-2.new.kernel c.args.f.now c.args.var.0 c.in_ok-low.low c.requires.live c.in_ok-low.ensures.keeps c.in_ok-low.ensures.gained
    (λ j a. c.in_ok-low.ensures.value a j) c.in-Ok.high c.in-Ok.ensures.keeps c.in-Ok.ensures.gained (λ j a. c.in-Ok.ensures.value a j)
    c.either.new.kernel c.either.ensures.keeps

pub returns-in-Ok-clause-cause : goal.returns-in-Ok-clause-cause
returns-in-Ok-clause-cause c =
    without-short c.args.kernel.now c.cofactor.new.kernel c.cofactor-2.new.kernel c.args.f.now c.args.var.0 c.in_ok-low.low c.requires.live c.in_ok-low.ensures.keeps c.in_ok-low.ensures.gained
    (λ j a. c.in_ok-low.ensures.value a j) c.in-Ok.high c.in-Ok.ensures.keeps c.in-Ok.ensures.gained (λ j a. c.in-Ok.ensures.value a j)
    c.either.result c.either.ensures.cause

pub returns-in-Err-clause-keeps : goal.returns-in-Err-clause-keeps
returns-in-Err-clause-keeps c =
    given-up-keeps c.args.kernel.now c.cofactor.new.kernel c.cofactor-2.new.kernel c.release.new.self c.in_ok-low.low c.in_ok-low.ensures.keeps c.in_ok-low.ensures.gained
    c.in-Err.ensures.keeps c.in-Err.ensures.refused c.release.ensures.grows.keeps

pub returns-in-Err-clause-cause : goal.returns-in-Err-clause-cause
returns-in-Err-clause-cause c =
    short-second c.args.kernel.now c.cofactor.new.kernel c.cofactor-2.new.kernel c.args.f.now c.args.var.0 c.in_ok-low.low c.requires.live c.in_ok-low.ensures.keeps c.in_ok-low.ensures.gained
    (λ j a. c.in_ok-low.ensures.value a j) c.in-Err.refusal c.in-Err.ensures.full
