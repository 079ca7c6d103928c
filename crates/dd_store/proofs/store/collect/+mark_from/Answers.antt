-- The node is marked, and then what its ends reach.
use Rattle.std.proofs.Common.{◌≡◌, ◌≤◌, ℕ, List, Option, Some, None, false, true, length, get_or, ap, sym, ◌∙◌, subst, arith}
use Rattle.dd_store.specs.declared.row.Row.{Row}
use Rattle.dd_store.specs.Follow.{IsThere}
use Rattle.dd_store.specs.Order.{level_in, level_of_row}
use Rattle.dd_store.specs.Slots.{row_at, mark_at}
use Rattle.dd_store.specs.Marks.{Spreads}
use Rattle.dd_store.specs.Table.{AreReduced}
use Rattle.dd_store.proofs.MarkLemmas.{spreads-node}
use Rattle.dd_store.proofs.store.collect.+mark_from.Goals as goal

pub mark_from-requires : goal.mark_from-requires
mark_from-requires t c =
    let order = c.args.order.now in
    let low = c.in-Some.row.low.0 in
    let is : row_at c.args.slots.now c.args.node.0 ≡ Some c.in-Some.row = sym c.row.ensures ∙ c.in-Some.is in
    let rows = c.mark.ensures.rows in
    let level : level_of_row order (row_at c.mark.new.self low) ≡ level_of_row order (row_at c.args.slots.now low) = ap (λ (rs : List (Option Row)). level_of_row order (get_or rs low None)) rows in
    let here : level_of_row order (row_at c.args.slots.now c.args.node.0) ≡ level_in order c.in-Some.row.var.0 = ap (level_of_row order) is in
    let inside = c.requires.reduced.tested c.args.node.0 c.in-Some.row is in
    let below = c.requires.reduced.ends_below c.args.node.0 c.in-Some.row false is in
    let there = c.requires.reduced.ends_there c.args.node.0 c.in-Some.row false is in (
      omega arith,
      (
        subst (λ (rs : List (Option Row)). AreReduced order (λ (n : ℕ). get_or rs n None)) (sym rows) c.requires.reduced,
        (
          subst (λ (rs : List (Option Row)). IsThere (λ (n : ℕ). get_or rs n None) low) (sym rows) there,
          subst (λ (rs : List (Option Row)). 2 ≤ length rs) (sym rows) c.requires.constants,
        ),
      ),
    )

pub mark_from-requires-2 : goal.mark_from-requires-2
mark_from-requires-2 t c =
    let order = c.args.order.now in
    let high = c.in-Some.row.high.0 in
    let is : row_at c.args.slots.now c.args.node.0 ≡ Some c.in-Some.row = sym c.row.ensures ∙ c.in-Some.is in
    let rows : c.mark_from.new.slots.rows ≡ c.args.slots.now.rows = c.mark_from.ensures.rows ∙ c.mark.ensures.rows in
    let level : level_of_row order (row_at c.mark_from.new.slots high) ≡ level_of_row order (row_at c.args.slots.now high) = ap (λ (rs : List (Option Row)). level_of_row order (get_or rs high None)) rows in
    let here : level_of_row order (row_at c.args.slots.now c.args.node.0) ≡ level_in order c.in-Some.row.var.0 = ap (level_of_row order) is in
    let inside = c.requires.reduced.tested c.args.node.0 c.in-Some.row is in
    let below = c.requires.reduced.ends_below c.args.node.0 c.in-Some.row true is in
    let there = c.requires.reduced.ends_there c.args.node.0 c.in-Some.row true is in (
      omega arith,
      (
        subst (λ (rs : List (Option Row)). AreReduced order (λ (n : ℕ). get_or rs n None)) (sym rows) c.requires.reduced,
        (
          subst (λ (rs : List (Option Row)). IsThere (λ (n : ℕ). get_or rs n None) high) (sym rows) there,
          subst (λ (rs : List (Option Row)). 2 ≤ length rs) (sym rows) c.requires.constants,
        ),
      ),
    )

pub returns-clause-marks : goal.returns-clause-marks
returns-clause-marks t c =
    let order = c.args.order.now in
    let is : row_at c.args.slots.now c.args.node.0 ≡ Some c.in-Some.row = sym c.row.ensures ∙ c.in-Some.is in
    let one = c.mark.ensures.rows in
    let two : c.mark_from.new.slots.rows ≡ c.args.slots.now.rows = c.mark_from.ensures.rows ∙ c.mark.ensures.rows in
    spreads-node order (row_at c.args.slots.now) (mark_at c.args.slots.now) (mark_at c.mark.new.self) (mark_at c.mark_from.new.slots) (mark_at c.mark_from-2.new.slots)
    c.args.node.0 c.in-Some.row c.requires.reduced is c.mark.ensures.marked
    (subst (λ (rs : List (Option Row)). Spreads order (λ (n : ℕ). get_or rs n None) (mark_at c.mark.new.self) (mark_at c.mark_from.new.slots) c.in-Some.row.low.0) one c.mark_from.ensures.marks)
    (subst (λ (rs : List (Option Row)). Spreads order (λ (n : ℕ). get_or rs n None) (mark_at c.mark_from.new.slots) (mark_at c.mark_from-2.new.slots) c.in-Some.row.high.0) two c.mark_from-2.ensures.marks)
