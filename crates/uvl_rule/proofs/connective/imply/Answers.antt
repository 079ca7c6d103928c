-- A choice with yes elsewhere is the implication, and yes costs nothing.
use Rattle.std.proofs.Common.{◌≡◌, true}
use Rattle.dd_store.specs.Exhausted.{value_at}
use Rattle.uvl_functions.proofs.TableLemmas.{keeps-between, still-live, value-grown}
use Rattle.uvl_rule.proofs.ValueLemmas.{implied-told, implied-cause}
use Rattle.uvl_rule.proofs.connective.imply.Goals as goal

is-yes : (c : goal.After-release) → value_at c.constant.new.self c.in_ok-yes.yes ≡ (λ x. true)
is-yes c = λ i x. c.in_ok-yes.ensures.value x i

pub returns-clause-value : goal.returns-clause-value
returns-clause-value c =
    let s = c.args.kernel.now in
    let t = c.constant.new.self in
    implied-told s t c.ite-made.new.self c.release.new.self c.args.left.now c.args.right.now c.in_ok-yes.yes c.ite-made.result
    (value-grown s t c.args.left.now c.in_ok-yes.ensures.grows) (value-grown s t c.args.right.now c.in_ok-yes.ensures.grows)
    (is-yes c) c.release.ensures.grows c.ite-made.ensures.value

pub returns-clause-keeps : goal.returns-clause-keeps
returns-clause-keeps c =
    let t = c.constant.new.self in
    let u = c.ite-made.new.self in
    keeps-between c.args.kernel.now t u c.release.new.self c.in_ok-yes.yes c.in_ok-yes.ensures.gained c.release.ensures.lost
    c.in_ok-yes.ensures.grows.keeps c.ite-made.ensures.keeps c.release.ensures.grows.keeps
    (still-live t u c.ite-made.result c.ite-made.ensures.gained c.ite-made.ensures.refused)

pub returns-clause-cause : goal.returns-clause-cause
returns-clause-cause c =
    let s = c.args.kernel.now in
    let t = c.constant.new.self in
    implied-cause s t c.ite-made.new.self c.release.new.self c.args.left.now c.args.right.now c.in_ok-yes.yes c.ite-made.result
    (value-grown s t c.args.left.now c.in_ok-yes.ensures.grows) (value-grown s t c.args.right.now c.in_ok-yes.ensures.grows)
    c.in_ok-yes.ensures.grows.keeps c.in_ok-yes.ensures.gained (is-yes c) c.ite-made.ensures.cause
