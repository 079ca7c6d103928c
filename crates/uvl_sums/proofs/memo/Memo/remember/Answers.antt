-- The entry is put in.
use Rattle.std.proofs.Common.{rules, FitsSigned, to_z, of_z}
use Rattle.std.proofs.lemmas.Int.{to_z-of_z}
use mir.Syntax.{w128}
use Rattle.uvl_sums.proofs.MemoLemmas.{remembered-part}
use Rattle.uvl_sums.proofs.memo.Memo.remember.Goals as goal

pub returns : goal.returns
returns c =
    let one : FitsSigned w128 c.args.part.least = search rules in
    let two : FitsSigned w128 c.args.part.greatest = search rules in
    remembered-part c.args.self.now.known c.insert.new.self c.args.at c.args.part.place
    c.args.part.least (to_z w128 (of_z w128 c.args.part.least)) c.args.part.greatest (to_z w128 (of_z w128 c.args.part.greatest))
    (to_z-of_z w128 c.args.part.least one) (to_z-of_z w128 c.args.part.greatest two) c.in_ok-insert.ensures.updates.0
