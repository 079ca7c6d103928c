-- The bytes that were copied are the front of those that were left.
use Rattle.std.proofs.Common.{arith}
use Rattle.std.proofs.lemmas.Grind.{common_steps}
use Rattle.uvl_outside.proofs.Pieces.{takes_further}
use Rattle.uvl_outside.proofs.sure_source.SureSource.give.Goals as goal

pub returns-clause-moves : goal.returns-clause-moves
returns-clause-moves c =
    takes_further c.self.inside.bytes.items c.args.self.now c.args.into.now
    c.copy_front-count.new.into c.self.inside.taken c.args.most c.copy_front-count.result
    c.self.view_is c.requires.room c.requires.some
    (grind (arith, common_steps)) (grind (arith, common_steps))
