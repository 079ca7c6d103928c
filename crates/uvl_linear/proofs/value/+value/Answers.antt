-- The whole is what was added and the part that is left.
use Rattle.std.proofs.Common.{◌≤◌, [], sym, ap, ◌∙◌, subst, arith}
use mir.Syntax.{w128}
use mir.Val.{of_z, to_z}
use Rattle.std.specs.Prelude.{ℤ, pos, ◌-ℤ◌, ◌*ℤ◌, unsigned_abs}
use Rattle.uvl_linear.specs.Forms.{Adds}
use Rattle.uvl_model.specs.declared.rule.Number.{Number}
use Rattle.uvl_model.specs.Rules.{IsNumber, number_nodes_of, terms_of}
use Rattle.uvl_model.proofs.Bounds.{exact}
use Rattle.uvl_model.proofs.NumberSteps.{minus_operands, minus_sizes, plus_operands, plus_sizes, times_operands}
use Rattle.uvl_linear.proofs.ValueLemmas.{Goes, goes_end, goes_minus, goes_plus, goes_room, opposite_sign, opposite_sign_small, signed, simple, thousands_exact}
use Rattle.uvl_linear.proofs.PlainLemmas.{times}
use Rattle.uvl_linear.proofs.value.+value.Goals as goal

pub add_value-requires : goal.add_value-requires
add_value-requires t c =
    let rows = c.args.model.now in
    let goes = c.loop-part.invariant in
    let parts = plus_operands rows [] c.loop-part.part.now c.in-Plus.left c.in-Plus.right c.in-Plus.is goes.number in
    let sizes = plus_sizes rows [] c.loop-part.part.now c.in-Plus.left c.in-Plus.right c.in-Plus.is in (
      omega (arith, ap number_nodes_of c.get.ensures, sizes.1, goes.smaller),
      (
        subst (λ (n : Number). IsNumber rows n) (sym c.get.ensures) parts.1,
        (
          subst (λ (z : ℤ). unsigned_abs z ≤ 1) (sym (exact c.args.sign c.ranges.sign)) c.requires.sign,
          (
            goes.remains.count ∙ c.requires.count,
            goes_room rows (to_z w128 (of_z w128 c.args.sign)) c.args.form.now c.loop-part.form c.args.number.now c.loop-part.part.now (terms_of rows c.get.result.now)
                (omega (arith, sizes.0, ap (terms_of rows) c.get.ensures)) c.requires.room goes,
          ),
        ),
      ),
    )

pub loop-part-preserved-in-Plus-1 : goal.loop-part-preserved-in-Plus-1
loop-part-preserved-in-Plus-1 t c =
    let rows = c.args.model.now in
    let sign = to_z w128 (of_z w128 c.args.sign) in
    subst (λ (n : Number). Goes rows sign c.args.form.now c.add_value.new.form c.args.number.now n) (sym c.get-part.ensures)
    (goes_plus rows sign c.args.form.now c.loop-part.form c.add_value.new.form c.args.number.now c.loop-part.part.now c.in-Plus.left c.in-Plus.right c.get.result.now
    c.in-Plus.is c.get.ensures c.loop-part.invariant c.add_value.ensures)

pub add_value-requires-in-Minus : goal.add_value-requires-in-Minus
add_value-requires-in-Minus t c =
    let rows = c.args.model.now in
    let goes = c.loop-part.invariant in
    let parts = minus_operands rows [] c.loop-part.part.now c.in-Minus.left c.in-Minus.right c.in-Minus.is goes.number in
    let sizes = minus_sizes rows [] c.loop-part.part.now c.in-Minus.left c.in-Minus.right c.in-Minus.is in (
      omega (arith, ap number_nodes_of c.get-in-Minus.ensures, sizes.1, goes.smaller),
      (
        subst (λ (n : Number). IsNumber rows n) (sym c.get-in-Minus.ensures) parts.1,
        (
          opposite_sign_small c.args.sign c.requires.sign,
          (
            goes.remains.count ∙ c.requires.count,
            goes_room rows (to_z w128 (of_z w128 c.args.sign)) c.args.form.now c.loop-part.form c.args.number.now c.loop-part.part.now (terms_of rows c.get-in-Minus.result.now)
                (omega (arith, sizes.0, ap (terms_of rows) c.get-in-Minus.ensures)) c.requires.room goes,
          ),
        ),
      ),
    )

pub loop-part-preserved : goal.loop-part-preserved
loop-part-preserved t c =
    let rows = c.args.model.now in
    let sign = to_z w128 (of_z w128 c.args.sign) in
    subst (λ (n : Number). Goes rows sign c.args.form.now c.add_value-in-Minus.new.form c.args.number.now n) (sym c.get-part-in-Minus.ensures)
    (goes_minus rows sign c.args.form.now c.loop-part.form c.add_value-in-Minus.new.form c.args.number.now c.loop-part.part.now c.in-Minus.left c.in-Minus.right
    c.get-in-Minus.result.now _ c.in-Minus.is c.get-in-Minus.ensures
    (opposite_sign c.args.sign c.requires.sign ∙ ap (λ (z : ℤ). pos 0 -ℤ z) (sym (exact c.args.sign c.ranges.sign)))
    c.loop-part.invariant c.add_value-in-Minus.ensures)

pub add_product-requires-clause-left : goal.add_product-requires-clause-left
add_product-requires-clause-left t c =
    subst (λ (n : Number). IsNumber c.args.model.now n) (sym c.get-in-Times.ensures)
    (times_operands c.args.model.now [] c.loop-part.part.now c.in-Times.left c.in-Times.right c.in-Times.is c.loop-part.invariant.number).0

pub add_product-requires-clause-right : goal.add_product-requires-clause-right
add_product-requires-clause-right t c =
    subst (λ (n : Number). IsNumber c.args.model.now n) (sym c.get-in-Times-2.ensures)
    (times_operands c.args.model.now [] c.loop-part.part.now c.in-Times.left c.in-Times.right c.in-Times.is c.loop-part.invariant.number).1

pub returns-in-Literal : goal.returns-in-Literal
returns-in-Literal t c =
    let rows = c.args.model.now in
    let sign = to_z w128 (of_z w128 c.args.sign) in
    let factor = to_z w128 (of_z w128 (sign *ℤ pos 1000000)) in
    let part = c.loop-part.part.now in
    subst (λ (z : ℤ). Adds c.args.form.now c.add_plain.new.form (terms_of rows c.args.number.now) (signed rows z c.args.number.now)) (exact c.args.sign c.ranges.sign)
    (goes_end rows sign c.args.form.now c.loop-part.form c.add_plain.new.form c.args.number.now part (terms_of rows part) (times rows factor part) c.loop-part.invariant
    c.add_plain.ensures (omega arith)
    (λ marks. simple rows sign part c.in-Literal.is marks
    ∙ ap (λ (z : ℤ). times rows (z *ℤ pos 1000000) part marks) (exact c.args.sign c.ranges.sign)
    ∙ ap (λ (z : ℤ). times rows z part marks) (sym (thousands_exact c.args.sign c.requires.sign))))
