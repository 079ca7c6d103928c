-- A choice between one and its opposite is the equivalence, and the opposite is in the group.
use Rattle.std.proofs.Common.{◌≡◌, refl, inl, inr}
use Rattle.std.proofs.lemmas.Result.{err_from_is_err_and}
use Rattle.dd_store.specs.Exhausted.{value_at}
use Rattle.dd_store.proofs.CountLemmas.{live_gained}
use Rattle.dd_store.proofs.StayLemmas.{value-kept}
use Rattle.uvl_functions.specs.RuleParts.{opposite}
use Rattle.uvl_rule.specs.declared.connective.Connective.TheVariants.{Iff}
use Rattle.uvl_rule.specs.Connectives.{connection_group}
use Rattle.uvl_functions.proofs.ShortLemmas.{cause-call}
use Rattle.uvl_functions.proofs.TableLemmas.{keeps-between, still-live}
use Rattle.uvl_rule.proofs.ValueLemmas.{equated-told, equated-cause}
use Rattle.uvl_rule.proofs.connective.equate.Goals as goal

is-opposite : (c : goal.After-release) → value_at c.not.new.self c.in_ok-opposite.opposite ≡ opposite (value_at c.args.kernel.now c.args.right.now)
is-opposite c = λ i x. c.in_ok-opposite.ensures.value x i

still-left : (c : goal.After-release) → value_at c.not.new.self c.args.left.now ≡ value_at c.args.kernel.now c.args.left.now
still-left c =
    value-kept c.args.kernel.now c.not.new.self c.in_ok-opposite.ensures.keeps c.args.left.now c.requires.left_live
    (live_gained c.in_ok-opposite.ensures.gained c.args.left.now c.requires.left_live)

still-right : (c : goal.After-release) → value_at c.not.new.self c.args.right.now ≡ value_at c.args.kernel.now c.args.right.now
still-right c =
    value-kept c.args.kernel.now c.not.new.self c.in_ok-opposite.ensures.keeps c.args.right.now c.requires.right_live
    (live_gained c.in_ok-opposite.ensures.gained c.args.right.now c.requires.right_live)

pub returns-in_err-opposite-clause-cause : goal.returns-in_err-opposite-clause-cause
returns-in_err-opposite-clause-cause c =
    let p = err_from_is_err_and c.from_residual.result c.from_residual.ensures.1 in
    let s = c.args.kernel.now in
    let f = value_at s c.args.left.now in
    let g = value_at s c.args.right.now in
    rw (p.1, p.2)
    (cause-call s c.not.new.self (opposite g) (connection_group Iff f g) c.in_err-opposite.field-0.0
    (λ held. inr (inr (inl (inr (inr (inr (inr (inr (inl refl))))))))) c.in_err-opposite.ensures.cause)

pub returns-clause-value : goal.returns-clause-value
returns-clause-value c =
    equated-told c.args.kernel.now c.not.new.self c.ite-made.new.self c.release.new.self c.args.left.now c.args.right.now c.in_ok-opposite.opposite
    c.ite-made.result (still-left c) (still-right c) (is-opposite c) c.release.ensures.grows c.ite-made.ensures.value

pub returns-clause-keeps : goal.returns-clause-keeps
returns-clause-keeps c =
    let t = c.not.new.self in
    let u = c.ite-made.new.self in
    keeps-between c.args.kernel.now t u c.release.new.self c.in_ok-opposite.opposite c.in_ok-opposite.ensures.gained c.release.ensures.lost
    c.in_ok-opposite.ensures.keeps c.ite-made.ensures.keeps c.release.ensures.grows.keeps
    (still-live t u c.ite-made.result c.ite-made.ensures.gained c.ite-made.ensures.refused)

pub returns-clause-cause : goal.returns-clause-cause
returns-clause-cause c =
    equated-cause c.args.kernel.now c.not.new.self c.ite-made.new.self c.release.new.self c.args.left.now c.args.right.now c.in_ok-opposite.opposite
    c.ite-made.result (still-left c) (still-right c) c.in_ok-opposite.ensures.keeps c.in_ok-opposite.ensures.gained (is-opposite c) c.ite-made.ensures.cause
