-- What one more write took stands behind the front that was written.
use Rattle.std.proofs.Common.{arith}
use Rattle.std.proofs.lemmas.Grind.{common_steps}
use Rattle.uvl_outside.proofs.Streams.{appends_further}
use Rattle.uvl_outside.proofs.writing.write_whole.Goals as goal

pub loop-done-preserved : goal.loop-done-preserved
loop-done-preserved g c =
    let behind = appends_further _ _ _ _ _ _ _ (grind (arith, common_steps)) c.loop-done.invariant.1
    c.in_ok-count.ensures.appends in
    (grind (arith, common_steps), behind)
