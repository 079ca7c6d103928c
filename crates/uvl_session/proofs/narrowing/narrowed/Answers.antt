-- The meet of the handle with the literal, while this is held.
use Rattle.std.proofs.lemmas.Result.{err_from_is_err_and}
use Rattle.dd_store.specs.Size.{Function}
use Rattle.uvl_functions.proofs.TableLemmas.{keeps-between, still-live}
use Rattle.uvl_session.proofs.Fixing.{narrowed-value, narrowed-cause, none-more}
use Rattle.uvl_compile.specs.Conditions.{both}
use Rattle.dd_store.specs.Exhausted.{value_at}
use Rattle.dd_store.specs.Short.{literal}
use Rattle.uvl_session.proofs.narrowing.narrowed.Goals as goal

pub returns-in_err-one-clause-cause : goal.returns-in_err-one-clause-cause
returns-in_err-one-clause-cause c =
    let t = c.args.kernel.now in
    let f : Function = both (value_at t c.args.agreeing.now) (literal c.args.var.0 c.args.value) in
    let p = err_from_is_err_and c.from_residual.result c.from_residual.ensures.1 in
    rw (p.1, p.2) (none-more t f c.in_err-one.field-0.0 c.in_err-one.ensures.cause)

pub returns-clause-value : goal.returns-clause-value
returns-clause-value c =
    narrowed-value c.args.kernel.now c.fixed.new.kernel c.and-made.new.self c.release.new.self c.args.agreeing.now c.in_ok-one.one c.args.var.0 c.args.value
    c.in_ok-one.ensures.keeps c.in_ok-one.ensures.gained c.requires.live c.in_ok-one.ensures.value
    c.and-made.result c.release.ensures.grows c.and-made.ensures.value

pub returns-clause-keeps : goal.returns-clause-keeps
returns-clause-keeps c =
    keeps-between c.args.kernel.now c.fixed.new.kernel c.and-made.new.self c.release.new.self c.in_ok-one.one c.in_ok-one.ensures.gained c.release.ensures.lost
    c.in_ok-one.ensures.keeps c.and-made.ensures.keeps c.release.ensures.grows.keeps
    (still-live c.fixed.new.kernel c.and-made.new.self c.and-made.result c.and-made.ensures.gained c.and-made.ensures.refused)

pub returns-clause-cause : goal.returns-clause-cause
returns-clause-cause c =
    narrowed-cause c.args.kernel.now c.fixed.new.kernel c.and-made.new.self c.release.new.self c.args.agreeing.now c.in_ok-one.one c.args.var.0 c.args.value
    c.in_ok-one.ensures.keeps c.in_ok-one.ensures.gained c.requires.live c.in_ok-one.ensures.value
    c.and-made.result c.requires.variable c.and-made.ensures.cause
