-- The choice by the parent's literal.
use Rattle.std.proofs.Common.{[], ◌∷◌}
use Rattle.std.proofs.lemmas.Result.{err_from_is_err_and}
use Rattle.dd_store.specs.Exhausted.{value_at}
use Rattle.dd_apply.specs.Split.{fork}
use Rattle.uvl_functions.proofs.TableLemmas.{keeps-between, still-live}
use Rattle.uvl_compile.proofs.Trades.{cause-more, choice-value, choice-cause}
use Rattle.uvl_compile.proofs.row.by_parent.Goals as goal

pub returns-in_err-chosen-clause-cause : goal.returns-in_err-chosen-clause-cause
returns-in_err-chosen-clause-cause c =
    let p = err_from_is_err_and c.from_residual.result c.from_residual.ensures.1 in
    let s = c.args.kernel.now in
    rw (p.1, p.2)
    (cause-more s [] (fork c.args.parent.0 (value_at s c.args.without.now) (value_at s c.args.with.now) ∷ []) c.in_err-chosen.field-0.0 (λ f h. absurd h) c.in_err-chosen.ensures.cause)

pub returns-clause-value : goal.returns-clause-value
returns-clause-value c =
    choice-value c.args.kernel.now c.literal.new.kernel c.ite-made.new.self c.release.new.self c.args.parent.0 c.in_ok-chosen.chosen c.args.with.now c.args.without.now
    c.literal.ensures.keeps c.in_ok-chosen.ensures.gained c.requires.with_live c.requires.without_live c.in_ok-chosen.ensures.value c.release.ensures.grows
    c.ite-made.result c.ite-made.ensures.value

pub returns-clause-keeps : goal.returns-clause-keeps
returns-clause-keeps c =
    keeps-between c.args.kernel.now c.literal.new.kernel c.ite-made.new.self c.release.new.self c.in_ok-chosen.chosen c.in_ok-chosen.ensures.gained c.release.ensures.lost
    c.literal.ensures.keeps c.ite-made.ensures.keeps c.release.ensures.grows.keeps
    (still-live c.literal.new.kernel c.ite-made.new.self c.ite-made.result c.ite-made.ensures.gained c.ite-made.ensures.refused)

pub returns-clause-cause : goal.returns-clause-cause
returns-clause-cause c =
    choice-cause c.args.kernel.now c.literal.new.kernel c.ite-made.new.self c.release.new.self c.args.parent.0 c.in_ok-chosen.chosen c.args.with.now c.args.without.now
    c.literal.ensures.keeps c.in_ok-chosen.ensures.gained c.requires.with_live c.requires.without_live c.in_ok-chosen.ensures.value c.release.ensures.grows
    c.ite-made.new.self c.ite-made.result c.requires.parent c.ite-made.ensures.cause
