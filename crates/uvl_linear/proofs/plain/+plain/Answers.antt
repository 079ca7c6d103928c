-- The whole is what was added and the part that is left.
use Rattle.std.proofs.Common.{ℕ, ◌≤◌, ◌^◌, [], length, sym, ap, ◌∙◌, subst, arith}
use mir.Syntax.{w128}
use mir.Val.{of_z, to_z}
use Rattle.std.specs.Prelude.{ℤ, pos, ◌-ℤ◌, ◌*ℤ◌, unsigned_abs}
use Rattle.uvl_linear.specs.Forms.{Adds}
use Rattle.uvl_model.specs.declared.rule.Number.{Number}
use Rattle.uvl_model.specs.Amounts.{marked_total}
use Rattle.uvl_model.specs.Rules.{IsNumber, number_nodes_of, terms_of}
use Rattle.uvl_model.proofs.Bounds.{exact}
use Rattle.uvl_model.proofs.NumberSteps.{minus_operands, minus_sizes, plus_operands, plus_sizes, top_is_there}
use Rattle.uvl_linear.proofs.FormLemmas.{opposite_size}
use Rattle.uvl_linear.proofs.PlainLemmas.{Walks, attribute_is_there, opposite_exact, product_counts_none, sum_is, times, walks_end, walks_minus, walks_plus, walks_room}
use Rattle.uvl_linear.proofs.plain.+plain.Goals as goal

pub add_attribute-requires-clause-there : goal.add_attribute-requires-clause-there
add_attribute-requires-clause-there t c =
    attribute_is_there c.args.model.now c.loop-part.part.now c.in-Attr.feature c.in-Attr.key c.in-Attr.is c.loop-part.invariant.number

pub below-requires : goal.below-requires
below-requires t c = top_is_there c.args.model.now [] c.loop-part.part.now c.in-Sum.top c.in-Sum.key c.in-Sum.is c.loop-part.invariant.number

pub add_rows-requires-clause-room : goal.add_rows-requires-clause-room
add_rows-requires-clause-room t c =
    let factor = to_z w128 (of_z w128 c.args.factor) in
    let run = sum_is c.args.model.now factor c.loop-part.part.now c.in-Sum.top c.in-Sum.key c.below.result.now c.in-Sum.is c.below.ensures.run c.below.ensures.heads in
    walks_room c.args.model.now factor c.args.form.now c.loop-part.form c.args.number.now c.loop-part.part.now (length c.below.result.now) run.1 c.requires.room c.loop-part.invariant

pub returns-in-Sum : goal.returns-in-Sum
returns-in-Sum t c =
    let rows = c.args.model.now in
    let factor = to_z w128 (of_z w128 c.args.factor) in
    let run = sum_is rows factor c.loop-part.part.now c.in-Sum.top c.in-Sum.key c.below.result.now c.in-Sum.is c.below.ensures.run c.below.ensures.heads in
    subst (λ (z : ℤ). Adds c.args.form.now c.add_rows.new.form (terms_of rows c.args.number.now) (times rows z c.args.number.now)) (exact c.args.factor c.ranges.factor)
    (walks_end rows factor c.args.form.now c.loop-part.form c.add_rows.new.form c.args.number.now c.loop-part.part.now (length c.below.result.now)
    (λ marks. factor *ℤ marked_total c.in-Sum.key marks c.in-Sum.top.0 c.below.result.now) c.loop-part.invariant c.add_rows.ensures run.1 run.0)

pub add_plain-requires : goal.add_plain-requires
add_plain-requires t c =
    let rows = c.args.model.now in
    let walks = c.loop-part.invariant in
    let parts = plus_operands rows [] c.loop-part.part.now c.in-Plus.left c.in-Plus.right c.in-Plus.is walks.number in
    let sizes = plus_sizes rows [] c.loop-part.part.now c.in-Plus.left c.in-Plus.right c.in-Plus.is in (
      omega (arith, ap number_nodes_of c.get.ensures, sizes.1, walks.smaller),
      (
        subst (λ (n : Number). IsNumber rows n) (sym c.get.ensures) parts.1,
        (
          subst (λ (z : ℤ). unsigned_abs z ≤ 10 ^ 12) (sym (exact c.args.factor c.ranges.factor)) c.requires.factor,
          (
            walks.remains.count ∙ c.requires.count,
            walks_room rows (to_z w128 (of_z w128 c.args.factor)) c.args.form.now c.loop-part.form c.args.number.now c.loop-part.part.now (terms_of rows c.get.result.now)
                (omega (arith, sizes.0, ap (terms_of rows) c.get.ensures)) c.requires.room walks,
          ),
        ),
      ),
    )

pub loop-part-preserved-in-Plus : goal.loop-part-preserved-in-Plus
loop-part-preserved-in-Plus t c =
    let rows = c.args.model.now in
    let factor = to_z w128 (of_z w128 c.args.factor) in
    subst (λ (n : Number). Walks rows factor c.args.form.now c.add_plain.new.form c.args.number.now n) (sym c.get-part.ensures)
    (walks_plus rows factor c.args.form.now c.loop-part.form c.add_plain.new.form c.args.number.now c.loop-part.part.now c.in-Plus.left c.in-Plus.right c.get.result.now
    c.in-Plus.is c.get.ensures c.loop-part.invariant c.add_plain.ensures)

pub add_plain-requires-in-Minus : goal.add_plain-requires-in-Minus
add_plain-requires-in-Minus t c =
    let rows = c.args.model.now in
    let walks = c.loop-part.invariant in
    let parts = minus_operands rows [] c.loop-part.part.now c.in-Minus.left c.in-Minus.right c.in-Minus.is walks.number in
    let sizes = minus_sizes rows [] c.loop-part.part.now c.in-Minus.left c.in-Minus.right c.in-Minus.is in (
      omega (arith, ap number_nodes_of c.get-in-Minus.ensures, sizes.1, walks.smaller),
      (
        subst (λ (n : Number). IsNumber rows n) (sym c.get-in-Minus.ensures) parts.1,
        (
          subst (λ (z : ℤ). unsigned_abs z ≤ 10 ^ 12) (sym (opposite_exact c.args.factor c.requires.factor))
              (smaller (unsigned_abs (pos 0 -ℤ c.args.factor)) (unsigned_abs c.args.factor) (10 ^ 12) (opposite_size c.args.factor) c.requires.factor),
          (
            walks.remains.count ∙ c.requires.count,
            walks_room rows (to_z w128 (of_z w128 c.args.factor)) c.args.form.now c.loop-part.form c.args.number.now c.loop-part.part.now (terms_of rows c.get-in-Minus.result.now)
                (omega (arith, sizes.0, ap (terms_of rows) c.get-in-Minus.ensures)) c.requires.room walks,
          ),
        ),
      ),
    )
  where
    smaller : (x y z : ℕ) → x ≤ y → y ≤ z → x ≤ z
    smaller x y z p q = omega arith

pub loop-part-preserved : goal.loop-part-preserved
loop-part-preserved t c =
    let rows = c.args.model.now in
    let factor = to_z w128 (of_z w128 c.args.factor) in
    subst (λ (n : Number). Walks rows factor c.args.form.now c.add_plain-in-Minus.new.form c.args.number.now n) (sym c.get-part-in-Minus.ensures)
    (walks_minus rows factor c.args.form.now c.loop-part.form c.add_plain-in-Minus.new.form c.args.number.now c.loop-part.part.now c.in-Minus.left c.in-Minus.right
    c.get-in-Minus.result.now _ c.in-Minus.is c.get-in-Minus.ensures
    (opposite_exact c.args.factor c.requires.factor ∙ ap (λ (z : ℤ). pos 0 -ℤ z) (sym (exact c.args.factor c.ranges.factor)))
    c.loop-part.invariant c.add_plain-in-Minus.ensures)

pub returns-in-Times : goal.returns-in-Times
returns-in-Times t c =
    let rows = c.args.model.now in
    subst (λ (z : ℤ). Adds c.args.form.now c.loop-part.form (terms_of rows c.args.number.now) (times rows z c.args.number.now)) (exact c.args.factor c.ranges.factor)
    (product_counts_none rows (to_z w128 (of_z w128 c.args.factor)) c.args.form.now c.loop-part.form c.args.number.now c.loop-part.part.now c.in-Times.field-0 c.in-Times.field-1
    c.in-Times.is c.loop-part.invariant)
