-- The live handles, counted at each number.
use Rattle.std.proofs.Common.{◌≡◌, ℕ, ◌+◌, arith}
use Rattle.dd_store.specs.Handles.{one_on}
use Rattle.dd_store.specs.Table.{handles_on}
use Rattle.dd_store.proofs.CountLemmas.{one_on-itself}
use Rattle.uvl_diagram_tests.proofs.lists.literal.Goals as goal

pub release-requires : goal.release-requires
release-requires c =
    let own = one_on-itself (c.in_ok-no.no) in
    let f0 = c.in_ok-no.ensures.gained.each (c.in_ok-no.no) in
    let f1 = c.in_ok-yes.ensures.gained.each (c.in_ok-no.no) in
    let f2 = c.in_ok-made.ensures.gained.each (c.in_ok-no.no) in
    omega arith

pub release-requires-2 : goal.release-requires-2
release-requires-2 c =
    let own = one_on-itself (c.in_ok-yes.yes) in
    let f0 = c.in_ok-no.ensures.gained.each (c.in_ok-yes.yes) in
    let f1 = c.in_ok-yes.ensures.gained.each (c.in_ok-yes.yes) in
    let f2 = c.in_ok-made.ensures.gained.each (c.in_ok-yes.yes) in
    let f3 = c.release.ensures.lost.each (c.in_ok-yes.yes) in
    omega arith

pub returns : goal.returns
returns c = record {
  gained = record {
    gained = let own = one_on-itself (c.in_ok-made.made) in
        let f0 = c.in_ok-no.ensures.gained.each (c.in_ok-made.made) in
        let f1 = c.in_ok-yes.ensures.gained.each (c.in_ok-made.made) in
        let f2 = c.in_ok-made.ensures.gained.each (c.in_ok-made.made) in
        let f3 = c.release.ensures.lost.each (c.in_ok-made.made) in
        let f4 = c.release-2.ensures.lost.each (c.in_ok-made.made) in
        omega arith;
    each = λ n.
        let f0 = c.in_ok-no.ensures.gained.each n in
        let f1 = c.in_ok-yes.ensures.gained.each n in
        let f2 = c.in_ok-made.ensures.gained.each n in
        let f3 = c.release.ensures.lost.each n in
        let f4 = c.release-2.ensures.lost.each n in
        omega arith;
    total =
        let f0 = c.in_ok-no.ensures.gained.total in
        let f1 = c.in_ok-yes.ensures.gained.total in
        let f2 = c.in_ok-made.ensures.gained.total in
        let f3 = c.release.ensures.lost.total in
        let f4 = c.release-2.ensures.lost.total in
        omega arith;
  };
}
