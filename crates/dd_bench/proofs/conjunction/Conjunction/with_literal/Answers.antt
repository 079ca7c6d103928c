-- The live handles, counted at each number.
use Rattle.std.proofs.Common.{arith}
use Rattle.dd_store.proofs.CountLemmas.{one_on-itself}
use Rattle.dd_bench.proofs.conjunction.Conjunction.with_literal.Goals as goal

pub or-requires-clause-a_live : goal.or-requires-clause-a_live
or-requires-clause-a_live c =
    let has = c.args.self.live c.args.self.clause in let own = one_on-itself c.args.self.clause in
    let a = c.in_ok-literal.ensures.gained.each c.args.self.clause in
    omega arith

pub release-requires : goal.release-requires
release-requires c =
    let own = one_on-itself c.in_ok-literal.literal in
    let a = c.in_ok-literal.ensures.gained.each c.in_ok-literal.literal in
    let b = c.in_ok-longer.ensures.gained.each c.in_ok-literal.literal in
    omega arith

pub release-requires-2 : goal.release-requires-2
release-requires-2 c =
    let has = c.args.self.live c.args.self.clause in let own = one_on-itself c.args.self.clause in
    let a = c.in_ok-literal.ensures.gained.each c.args.self.clause in
    let b = c.in_ok-longer.ensures.gained.each c.args.self.clause in
    let d = c.release.ensures.lost.each c.args.self.clause in
    omega arith

pub invariant_of-result : goal.invariant_of-result
invariant_of-result c = record {
  live = λ n.
      let has = c.args.self.live n in
      let a = c.in_ok-literal.ensures.gained.each n in
      let b = c.in_ok-longer.ensures.gained.each n in
      let d = c.release.ensures.lost.each n in
      let e = c.release-2.ensures.lost.each n in
      omega arith;
}
