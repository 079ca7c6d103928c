-- One factor is a literal, and so the product is so many times the other one.
use Rattle.std.proofs.Common.{◌+◌, arith}
use Rattle.std.specs.Prelude.{◌*ℤ◌}
use Rattle.uvl_model.specs.Amounts.{amount_of}
use Rattle.uvl_model.specs.Rules.{terms_of}
use Rattle.uvl_linear.proofs.FormLemmas.{adds_same, adds_within}
use Rattle.uvl_linear.proofs.ValueLemmas.{factor_exact, has_literal, literal_first, literal_second}
use Rattle.uvl_linear.proofs.value.add_product.Goals as goal

pub returns-in-Some : goal.returns-in-Some
returns-in-Some c =
    let rows = c.args.model.now in
    let all = terms_of rows c.args.left.now + terms_of rows c.args.right.now in
    adds_within c.args.form.now c.add_plain.new.form (terms_of rows c.args.right.now) all _ (omega arith)
    (adds_same c.args.form.now c.add_plain.new.form (terms_of rows c.args.right.now) _
    (λ marks. c.args.sign *ℤ ((amount_of rows.features marks c.args.left.now).plain *ℤ (amount_of rows.features marks c.args.right.now).plain))
    (literal_first rows c.args.sign c.in-Some.factor c.millionths.result _ c.args.left.now c.args.right.now
    (factor_exact c.args.sign c.millionths.result c.requires.sign c.millionths.ensures.in_range) c.millionths.ensures.number c.in-Some.ensures.literal)
    c.add_plain.ensures)

pub returns-in-Some-small_literal : goal.returns-in-Some-small_literal
returns-in-Some-small_literal c =
    let rows = c.args.model.now in
    let all = terms_of rows c.args.left.now + terms_of rows c.args.right.now in
    adds_within c.args.form.now c.add_plain-in-Some-small_literal.new.form (terms_of rows c.args.left.now) all _ (omega arith)
    (adds_same c.args.form.now c.add_plain-in-Some-small_literal.new.form (terms_of rows c.args.left.now) _
    (λ marks. c.args.sign *ℤ ((amount_of rows.features marks c.args.left.now).plain *ℤ (amount_of rows.features marks c.args.right.now).plain))
    (literal_second rows c.args.sign c.in-Some-small_literal.factor c.millionths-in-Some-small_literal.result _ c.args.left.now c.args.right.now
    (factor_exact c.args.sign c.millionths-in-Some-small_literal.result c.requires.sign c.millionths-in-Some-small_literal.ensures.in_range)
    c.millionths-in-Some-small_literal.ensures.number c.in-Some-small_literal.ensures.literal)
    c.add_plain-in-Some-small_literal.ensures)

pub returns-in_default-small_literal : goal.returns-in_default-small_literal
returns-in_default-small_literal c =
    absurd (has_literal c.args.model.now c.args.left.now c.args.right.now c.requires.linear c.in_default.ensures.none c.in_default-small_literal.ensures.none)
