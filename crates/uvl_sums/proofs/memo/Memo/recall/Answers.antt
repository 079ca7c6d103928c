-- The entry is in the map.
use Rattle.std.proofs.Common.{rules, FitsSigned}
use Rattle.std.proofs.lemmas.Int.{to_z-of_z}
use mir.Syntax.{w128}
use Rattle.uvl_sums.proofs.MemoLemmas.{found}
use Rattle.uvl_sums.proofs.memo.Memo.recall.Goals as goal

pub returns-then-so_far-known-clause-known : goal.returns-then-so_far-known-clause-known
returns-then-so_far-known-clause-known c =
    let key = c.in_ok-key.key.now in
    let it = c.in_ok-key.known.now in
    let one : FitsSigned w128 key.1 = search rules in
    let two : FitsSigned w128 it.greatest = search rules in
    found c.args.self.now.known c.args.at key it _ _ c.if-key-at.true (to_z-of_z w128 key.1 one) (to_z-of_z w128 it.greatest two)
    ((c.range.ensures.in_range tt).3 (key, it) c.next_back.new.self c.in_ok-key.ensures.steps).1
