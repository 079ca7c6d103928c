-- Room for more changes nothing that is found.
use Rattle.std.proofs.Common.{◌∙◌, ◌≤◌, ◌-◌, ◌+◌, Bool, List, Option, length, ap, arith}
use Rattle.dd_quant.specs.steps.Marked.{found_of}
use Rattle.dd_quant.proofs.MarkLemmas.{found-resized}
use Rattle.dd_quant.proofs.marks.Marks.make_room.Goals as goal

pub returns-in_ok-resize-clause-same : goal.returns-in_ok-resize-clause-same
returns-in_ok-resize-clause-same c n =
    let marks = c.self.inside.marks in
    let past : length marks.items ≤ c.args.at = (let counted = marks.ok.0 in omega arith) in
    found-resized c.self.inside.turn marks.items c.resize.new.self.items c.args.at (c.args.at + 1 - marks.len) c.self.invariant.some past c.in_ok-resize.ensures.items n
    ∙ ap (λ (ms : List (Option Bool)). found_of ms n) c.self.view_is
