-- The live handles, counted at each number.
use Rattle.std.proofs.Common.{◌≡◌, ℕ, ◌+◌, arith}
use Rattle.dd_store.specs.Handles.{one_on}
use Rattle.dd_store.specs.Table.{handles_on}
use Rattle.dd_store.proofs.CountLemmas.{one_on-itself}
use Rattle.uvl_diagram_tests.proofs.lists.+function.Goals as goal

pub ite-requires-clause-a_live : goal.ite-requires-clause-a_live
ite-requires-clause-a_live t c =
    let own = one_on-itself (c.in_ok-high.high) in
    let f0 = c.in_ok-low.ensures.gained.each (c.in_ok-high.high) in
    let f1 = c.in_ok-high.ensures.gained.each (c.in_ok-high.high) in
    let f2 = c.in_ok-variable.ensures.gained.each (c.in_ok-high.high) in
    omega arith

pub ite-requires-clause-b_live : goal.ite-requires-clause-b_live
ite-requires-clause-b_live t c =
    let own = one_on-itself (c.in_ok-low.low) in
    let f0 = c.in_ok-low.ensures.gained.each (c.in_ok-low.low) in
    let f1 = c.in_ok-high.ensures.gained.each (c.in_ok-low.low) in
    let f2 = c.in_ok-variable.ensures.gained.each (c.in_ok-low.low) in
    omega arith

pub release-requires : goal.release-requires
release-requires t c =
    let own = one_on-itself (c.in_ok-low.low) in
    let f0 = c.in_ok-low.ensures.gained.each (c.in_ok-low.low) in
    let f1 = c.in_ok-high.ensures.gained.each (c.in_ok-low.low) in
    let f2 = c.in_ok-variable.ensures.gained.each (c.in_ok-low.low) in
    let f3 = c.in_ok-made.ensures.gained.each (c.in_ok-low.low) in
    omega arith

pub release-requires-2 : goal.release-requires-2
release-requires-2 t c =
    let own = one_on-itself (c.in_ok-high.high) in
    let f0 = c.in_ok-low.ensures.gained.each (c.in_ok-high.high) in
    let f1 = c.in_ok-high.ensures.gained.each (c.in_ok-high.high) in
    let f2 = c.in_ok-variable.ensures.gained.each (c.in_ok-high.high) in
    let f3 = c.in_ok-made.ensures.gained.each (c.in_ok-high.high) in
    let f4 = c.release.ensures.lost.each (c.in_ok-high.high) in
    omega arith

pub release-requires-3 : goal.release-requires-3
release-requires-3 t c =
    let own = one_on-itself (c.in_ok-variable.variable) in
    let f0 = c.in_ok-low.ensures.gained.each (c.in_ok-variable.variable) in
    let f1 = c.in_ok-high.ensures.gained.each (c.in_ok-variable.variable) in
    let f2 = c.in_ok-variable.ensures.gained.each (c.in_ok-variable.variable) in
    let f3 = c.in_ok-made.ensures.gained.each (c.in_ok-variable.variable) in
    let f4 = c.release.ensures.lost.each (c.in_ok-variable.variable) in
    let f5 = c.release-2.ensures.lost.each (c.in_ok-variable.variable) in
    omega arith

pub returns : goal.returns
returns t c = record {
  gained = record {
    gained = let own = one_on-itself (c.in_ok-made.made) in
        let f0 = c.in_ok-low.ensures.gained.each (c.in_ok-made.made) in
        let f1 = c.in_ok-high.ensures.gained.each (c.in_ok-made.made) in
        let f2 = c.in_ok-variable.ensures.gained.each (c.in_ok-made.made) in
        let f3 = c.in_ok-made.ensures.gained.each (c.in_ok-made.made) in
        let f4 = c.release.ensures.lost.each (c.in_ok-made.made) in
        let f5 = c.release-2.ensures.lost.each (c.in_ok-made.made) in
        let f6 = c.release-3.ensures.lost.each (c.in_ok-made.made) in
        omega arith;
    each = λ n.
        let f0 = c.in_ok-low.ensures.gained.each n in
        let f1 = c.in_ok-high.ensures.gained.each n in
        let f2 = c.in_ok-variable.ensures.gained.each n in
        let f3 = c.in_ok-made.ensures.gained.each n in
        let f4 = c.release.ensures.lost.each n in
        let f5 = c.release-2.ensures.lost.each n in
        let f6 = c.release-3.ensures.lost.each n in
        omega arith;
    total =
        let f0 = c.in_ok-low.ensures.gained.total in
        let f1 = c.in_ok-high.ensures.gained.total in
        let f2 = c.in_ok-variable.ensures.gained.total in
        let f3 = c.in_ok-made.ensures.gained.total in
        let f4 = c.release.ensures.lost.total in
        let f5 = c.release-2.ensures.lost.total in
        let f6 = c.release-3.ensures.lost.total in
        omega arith;
  };
}
