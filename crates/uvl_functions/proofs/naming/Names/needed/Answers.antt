-- The names that are there, and those that are new.
use Rattle.std.proofs.Common.{length, ap, arith}
use Rattle.uvl_functions.proofs.Placed.{count-features}
use Rattle.uvl_functions.proofs.naming.Names.needed.Goals as goal

pub returns : goal.returns
returns c =
    let all = count-features c.args.self.now c.args.features.now c.requires in
    let same = ap length c.self.view_is in
    omega (arith, c.len.ensures, c.count_new.ensures)
