-- The mark is put where there is room.
use Rattle.std.proofs.Common.{◌≡◌, ◌∙◌, ◌<◌, Bool, List, Option, length, ap, arith}
use Rattle.std.proofs.lemmas.List.{length-map}
use Rattle.dd_quant.specs.steps.Marked.{found_of, said_in, marked_in}
use Rattle.dd_quant.proofs.MarkLemmas.{found-put, found-others}
use Rattle.dd_quant.proofs.marks.Marks.keep.Goals as goal

inside : (c : goal.After-self-1) → c.args.node.0 < length c.self.inside.marks.items
inside c =
    let size = length-map c.self.inside.marks.items (said_in c.self.inside.turn) in
    let same : length (marked_in c.self.inside.turn c.self.inside.marks.items) ≡ length c.make_room.new.self = ap length c.self.view_is in
    let room = c.in_ok-make_room.ensures.room in
    omega arith

pub returns-clause-kept : goal.returns-clause-kept
returns-clause-kept c = found-put c.self.inside.turn c.self.inside.marks.items c.args.node.0 c.args.is_possible (inside c)

pub returns-clause-others : goal.returns-clause-others
returns-clause-others c n other =
    found-others c.self.inside.turn c.self.inside.marks.items c.args.node.0 c.args.is_possible (inside c) n other
    ∙ ap (λ (ms : List (Option Bool)). found_of ms n) c.self.view_is ∙ c.in_ok-make_room.ensures.same n
