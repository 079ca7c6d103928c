-- The choice stands in place of both.
use Rattle.dd_store.specs.Exhausted.{value_at}
use Rattle.dd_apply.specs.Split.{fork}
use Rattle.uvl_compile.proofs.Trades.{both-value}
use Rattle.uvl_compile.proofs.row.choose.Goals as goal

pub returns-clause-value : goal.returns-clause-value
returns-clause-value c =
    let t = c.args.kernel.now in
    both-value t c.by_parent-made.new.kernel c.release.new.self c.release-2.new.self c.args.with c.args.without c.release.ensures.lost c.release-2.ensures.lost
    (fork c.args.parent.0 (value_at t c.args.without) (value_at t c.args.with)) c.by_parent-made.result c.release.ensures.grows c.release-2.ensures.grows c.by_parent-made.ensures.value
