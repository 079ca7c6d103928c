-- The live handles, counted at each number.
use Rattle.std.proofs.Common.{arith}
use Rattle.dd_store.proofs.CountLemmas.{one_on-itself}
use Rattle.uvl_diagram_tests.proofs.kernel.Trio.asking.Goals as goal

pub release-requires : goal.release-requires
release-requires c =
    let has = c.args.self.live c.args.self.c in let own = one_on-itself c.args.self.c in
    let a = c.in-Ok.ensures.gained.each c.args.self.c in
    omega arith
