-- What is kept alive stays, and with the new node that is all; or the table is full with what is in use.
use Rattle.std.proofs.Common.{◌≡◌, ◌+◌, true, false, refl, ap, sym, ◌∙◌, arith}
use Rattle.dd_store.specs.Table.{Table, node_count, handle_count}
use Rattle.dd_store.proofs.ExhaustedLemmas.{can-after, exhausted, none-goes, grows-behind, collected-but, collected-same, at-err}
use Rattle.dd_store.proofs.store.Store.collect_and_add.Goals as goal

pub returns-then-collect-eq0-clause-cause : goal.returns-then-collect-eq0-clause-cause
returns-then-collect-eq0-clause-cause c =
    let t = c.args.self.now in
    let m = c.collect.new.self in
    let r = c.args.row in
    let done = c.collect.ensures in
    let can = can-after t m r done.keeps done.collected done.handles c.requires.variable c.requires.ends_live c.requires.above c.requires.differ c.requires.absent in
    let live : c.self.inside.live ≡ handle_count t = sym c.self.invariant.live_is ∙ ap handle_count c.self.view_is ∙ done.handles.total in
    let budget : c.self.inside.budget ≡ m.budget = ap (λ (u : Table). u.budget) c.self.view_is in
    let gone : c.collect.result ≡ 0 = c.if-collect-eq0.true in
    let count : node_count m + c.collect.result ≡ node_count t = done.count in
    let same = done.keeps.budget in
    let before : node_count t ≡ t.budget = c.requires.full in
    let full : node_count m ≡ m.budget = omega arith in (
      record { differ = c.requires.differ; full = before; absent = c.requires.absent },
      live,
      exhausted t m r done.keeps done.collected done.handles can (c.requires.ends_live false) (c.requires.ends_live true) c.self.inside.live c.self.inside.budget full budget live,
    )

pub add-requires-clause-above : goal.add-requires-clause-above
add-requires-clause-above c =
    let done = c.collect.ensures in
    (can-after c.args.self.now c.collect.new.self c.args.row done.keeps done.collected done.handles c.requires.variable c.requires.ends_live c.requires.above c.requires.differ
    c.requires.absent).above

pub add-requires-clause-absent : goal.add-requires-clause-absent
add-requires-clause-absent c =
    let done = c.collect.ensures in
    (can-after c.args.self.now c.collect.new.self c.args.row done.keeps done.collected done.handles c.requires.variable c.requires.ends_live c.requires.above c.requires.differ
    c.requires.absent).absent

pub returns-in_err-add-clause-collected_no_more : goal.returns-in_err-add-clause-collected_no_more
returns-in_err-add-clause-collected_no_more c =
    at-err c.from_residual.result _
    (collected-same c.args.self.now c.collect.new.self c.add.new.self c.collect.ensures.collected (c.in_err-add.ensures.no_more.none refl))

pub returns-in_err-add-clause-over_budget : goal.returns-in_err-add-clause-over_budget
returns-in_err-add-clause-over_budget c = λ alive.
    let none = none-goes c.args.self.now c.collect.new.self c.collect.ensures.collected alive in
    let count = c.collect.ensures.count in
    absurd (c.if-collect-eq0.false (omega arith))

pub returns-clause-collected : goal.returns-clause-collected
returns-clause-collected c =
    collected-but c.args.self.now c.collect.new.self c.add.new.self c.in_ok-add.field-0 c.collect.ensures.collected c.in_ok-add.ensures.added.others

pub returns-clause-over_budget : goal.returns-clause-over_budget
returns-clause-over_budget c = λ alive.
    let none = none-goes c.args.self.now c.collect.new.self c.collect.ensures.collected alive in
    let count = c.collect.ensures.count in
    absurd (c.if-collect-eq0.false (omega arith))

pub returns-clause-grows : goal.returns-clause-grows
returns-clause-grows c =
    let done = c.collect.ensures in
    let count = done.count in
    grows-behind c.args.self.now c.collect.new.self c.add.new.self done.keeps done.handles c.requires.full (omega arith) c.in_ok-add.ensures.grows
