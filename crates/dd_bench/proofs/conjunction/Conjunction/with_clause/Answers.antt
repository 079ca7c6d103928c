-- The live handles, counted at each number.
use Rattle.std.proofs.Common.{arith}
use Rattle.dd_store.proofs.CountLemmas.{one_on-itself}
use Rattle.dd_bench.proofs.conjunction.Conjunction.with_clause.Goals as goal

pub release-requires : goal.release-requires
release-requires c =
    let has = c.args.self.live c.args.self.whole in let own = one_on-itself c.args.self.whole in
    let a = c.in_ok-more.ensures.gained.each c.args.self.whole in
    omega arith

pub release-requires-2 : goal.release-requires-2
release-requires-2 c =
    let has = c.args.self.live c.args.self.clause in let own = one_on-itself c.args.self.clause in
    let a = c.in_ok-more.ensures.gained.each c.args.self.clause in
    let b = c.release.ensures.lost.each c.args.self.clause in
    omega arith

pub invariant_of-result : goal.invariant_of-result
invariant_of-result c = record {
  live = λ n.
      let has = c.args.self.live n in
      let a = c.in_ok-more.ensures.gained.each n in
      let b = c.release.ensures.lost.each n in
      let d = c.release-2.ensures.lost.each n in
      let e = c.in_ok-clause.ensures.gained.each n in
      let k = c.has_collected-collected.ensures.kept n in
      omega arith;
}
