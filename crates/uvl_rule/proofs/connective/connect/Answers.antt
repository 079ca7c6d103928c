-- The value stays while the two are given back.
use Rattle.dd_store.specs.Exhausted.{value_at}
use Rattle.uvl_rule.specs.Connectives.{connection}
use Rattle.uvl_functions.proofs.TableLemmas.{value-after}
use Rattle.uvl_rule.proofs.connective.connect.Goals as goal

pub returns-clause-value : goal.returns-clause-value
returns-clause-value c =
    let s = c.args.kernel.now in
    let f = connection c.args.connective (value_at s c.args.left) (value_at s c.args.right) in
    value-after c.release.new.self c.release-2.new.self f c.operate-made.result c.release-2.ensures.grows
    (value-after c.operate-made.new.kernel c.release.new.self f c.operate-made.result c.release.ensures.grows c.operate-made.ensures.value)
