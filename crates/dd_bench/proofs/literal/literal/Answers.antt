-- The live handles, counted at each number.
use Rattle.std.proofs.Common.{arith}
use Rattle.dd_store.proofs.CountLemmas.{one_on-itself}
use Rattle.dd_bench.proofs.literal.literal.Goals as goal

pub returns-clause-gained : goal.returns-clause-gained
returns-clause-gained c = record {
  gained =
      let own = one_on-itself c.in_ok-literal.literal in
      let a = c.in_ok-no.ensures.gained.each c.in_ok-literal.literal in
      let b = c.in_ok-yes.ensures.gained.each c.in_ok-literal.literal in
      let d = c.in_ok-literal.ensures.gained.each c.in_ok-literal.literal in
      let e = c.release.ensures.lost.each c.in_ok-literal.literal in
      let f = c.release-2.ensures.lost.each c.in_ok-literal.literal in
      omega arith;
  each = λ n.
      let a = c.in_ok-no.ensures.gained.each n in
      let b = c.in_ok-yes.ensures.gained.each n in
      let d = c.in_ok-literal.ensures.gained.each n in
      let e = c.release.ensures.lost.each n in
      let f = c.release-2.ensures.lost.each n in
      omega arith;
  total =
      let a = c.in_ok-no.ensures.gained.total in
      let b = c.in_ok-yes.ensures.gained.total in
      let d = c.in_ok-literal.ensures.gained.total in
      let e = c.release.ensures.lost.total in
      let f = c.release-2.ensures.lost.total in
      omega arith;
}

pub returns-clause-kept : goal.returns-clause-kept
returns-clause-kept c = λ n.
    let a = c.in_ok-no.ensures.gained.each n in
    let b = c.in_ok-yes.ensures.gained.each n in
    let d = c.in_ok-literal.ensures.gained.each n in
    let e = c.release.ensures.lost.each n in
    let f = c.release-2.ensures.lost.each n in
    omega arith
