-- The number is put behind those that are in their chains.
use Rattle.std.proofs.Common.{rules, ◌≡◌, length, take, sym, ◌∙◌, refl, arith}
use Rattle.std.proofs.lemmas.List.{length-take-le}
use Rattle.dd_store.specs.Linked.{slot_at}
use Rattle.dd_store.proofs.SweepLemmas.{count-below, each-below, relink-node, relink-free, kept-row}
use Rattle.dd_store.proofs.slots.sweep.relink_one.Goals as goal

pub hang-next-requires-clause-known : goal.hang-next-requires-clause-known
hang-next-requires-clause-known c = c.requires.known c.in-Some.row (kept-row (slot_at c.args.slots.now c.args.n) c.in-Some.row (sym c.kept.ensures ∙ c.in-Some.is))

pub returns-in-Some-clause-linked : goal.returns-in-Some-clause-linked
returns-in-Some-clause-linked c = rw c.hang-next.ensures.others (relink-node _ _ _ _ _ _ _ _ c.requires.linked c.requires.within c.requires.few c.hang-next.ensures.place)

pub returns-in-None-clause-linked : goal.returns-in-None-clause-linked
returns-in-None-clause-linked c = relink-free _ _ _ _ _ _ c.requires.linked c.requires.within c.requires.few refl

pub hang-next-requires-clause-room : goal.hang-next-requires-clause-room
hang-next-requires-clause-room c =
    let known = c.requires.known c.in-Some.row (kept-row (slot_at c.args.slots.now c.args.n) c.in-Some.row (sym c.kept.ensures ∙ c.in-Some.is)) in
    let below = each-below _ _ _ _ _ c.requires.linked known in
    let size : length (take c.args.n c.args.slots.now) ≡ c.args.n = length-take-le c.args.n c.args.slots.now (let within = c.requires.within in omega arith) in
    omega arith

pub overflow_add-nodes : goal.overflow_add-nodes
overflow_add-nodes c =
    let below = count-below _ _ _ _ c.requires.linked in
    let size : length (take c.args.n c.args.slots.now) ≡ c.args.n = length-take-le c.args.n c.args.slots.now (let within = c.requires.within in omega arith) in
    search rules
