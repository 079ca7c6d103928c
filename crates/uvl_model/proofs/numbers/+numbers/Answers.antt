-- The whole is what was added up and the part that is left, by what its operands are.
use Rattle.std.proofs.Common.{◌*◌, ◌^◌, ◌≤◌, refl, sym, ap, ◌∙◌, subst, arith, lit≤}
use Rattle.std.specs.Prelude.{ℤ, pos}
use Rattle.uvl_model.specs.declared.numbers.Amount.{Amount}
use Rattle.uvl_model.specs.declared.rule.Number.{Number}
use Rattle.uvl_model.specs.Amounts.{IsMadeOf, IsWithin, amount_of, most_terms, simple_amount}
use Rattle.uvl_model.specs.Rules.{IsNumber, number_nodes_of, terms_of}
use Rattle.uvl_model.proofs.Bounds.{exact, plain_fits, simple_is, within_more}
use Rattle.uvl_model.proofs.NumberSteps.{Going, attribute_is_last, factors_fit, going_begins, last_amount, last_fits, last_made, literal_is_last, minus_fits, minus_operands, minus_sizes, minus_step, plus_fits, plus_operands, plus_sizes, plus_step, product_is_last, same_last, sum_fits, sum_is_last, times_operands, times_sizes, top_is_there}
use Rattle.uvl_model.proofs.numbers.+numbers.Goals as goal

pub loop-part-init : goal.loop-part-init
loop-part-init t c = going_begins c.args.model.now c.args.chosen.now c.args.number.now (record { plain = pos 0; value = pos 0 }) refl refl c.requires.number

pub plus-requires : goal.plus-requires
plus-requires t c =
    let rows = c.args.model.now in
    let marks = c.args.chosen.now in
    let whole = c.args.number.now in
    let part = c.loop-part.part.now in
    let rest = c.loop-part.rest in
    let going = c.loop-part.invariant in
    let is = same_last rows marks part c.literal_amount.result (simple_amount c.in-Literal.literal) c.literal_amount.ensures.amount
    (literal_is_last rows marks part c.in-Literal.literal c.in-Literal.is c.literal_amount.ensures.within) in
    last_fits rows marks whole part rest c.literal_amount.result is going c.requires.few

pub returns-in-Literal-clause-amount : goal.returns-in-Literal-clause-amount
returns-in-Literal-clause-amount t c =
    let rows = c.args.model.now in
    let marks = c.args.chosen.now in
    let whole = c.args.number.now in
    let part = c.loop-part.part.now in
    let rest = c.loop-part.rest in
    let going = c.loop-part.invariant in
    let is = same_last rows marks part c.literal_amount.result (simple_amount c.in-Literal.literal) c.literal_amount.ensures.amount
    (literal_is_last rows marks part c.in-Literal.literal c.in-Literal.is c.literal_amount.ensures.within) in
    last_amount rows marks whole part rest c.literal_amount.result c.plus.result is going c.plus.ensures

pub returns-in-Literal-clause-made_of : goal.returns-in-Literal-clause-made_of
returns-in-Literal-clause-made_of t c =
    let rows = c.args.model.now in
    let marks = c.args.chosen.now in
    let whole = c.args.number.now in
    let part = c.loop-part.part.now in
    let rest = c.loop-part.rest in
    let going = c.loop-part.invariant in
    let is = same_last rows marks part c.literal_amount.result (simple_amount c.in-Literal.literal) c.literal_amount.ensures.amount
    (literal_is_last rows marks part c.in-Literal.literal c.in-Literal.is c.literal_amount.ensures.within) in
    last_made rows marks whole part rest c.literal_amount.result c.plus.result is going c.plus.ensures

pub plus-requires-in-Attr : goal.plus-requires-in-Attr
plus-requires-in-Attr t c =
    let rows = c.args.model.now in
    let marks = c.args.chosen.now in
    let whole = c.args.number.now in
    let part = c.loop-part.part.now in
    let rest = c.loop-part.rest in
    let going = c.loop-part.invariant in
    let z = c.attribute_of.result in
    let fits = plain_fits z (within_more (10 ^ 18) (most_terms * 10 ^ 18) z (lit≤ tt) c.attribute_of.ensures.within) in
    let is = same_last rows marks part c.simple-attribute.result (simple_amount z) (simple_is c.simple-attribute.result z c.simple-attribute.ensures (exact z fits))
    (attribute_is_last rows marks part c.in-Attr.f c.in-Attr.key z c.in-Attr.is c.attribute_of.ensures.number c.attribute_of.ensures.within) in
    last_fits rows marks whole part rest c.simple-attribute.result is going c.requires.few

pub returns-in-Attr-clause-amount : goal.returns-in-Attr-clause-amount
returns-in-Attr-clause-amount t c =
    let rows = c.args.model.now in
    let marks = c.args.chosen.now in
    let whole = c.args.number.now in
    let part = c.loop-part.part.now in
    let rest = c.loop-part.rest in
    let going = c.loop-part.invariant in
    let z = c.attribute_of.result in
    let fits = plain_fits z (within_more (10 ^ 18) (most_terms * 10 ^ 18) z (lit≤ tt) c.attribute_of.ensures.within) in
    let is = same_last rows marks part c.simple-attribute.result (simple_amount z) (simple_is c.simple-attribute.result z c.simple-attribute.ensures (exact z fits))
    (attribute_is_last rows marks part c.in-Attr.f c.in-Attr.key z c.in-Attr.is c.attribute_of.ensures.number c.attribute_of.ensures.within) in
    last_amount rows marks whole part rest c.simple-attribute.result c.plus-in-Attr.result is going c.plus-in-Attr.ensures

pub returns-in-Attr-clause-made_of : goal.returns-in-Attr-clause-made_of
returns-in-Attr-clause-made_of t c =
    let rows = c.args.model.now in
    let marks = c.args.chosen.now in
    let whole = c.args.number.now in
    let part = c.loop-part.part.now in
    let rest = c.loop-part.rest in
    let going = c.loop-part.invariant in
    let z = c.attribute_of.result in
    let fits = plain_fits z (within_more (10 ^ 18) (most_terms * 10 ^ 18) z (lit≤ tt) c.attribute_of.ensures.within) in
    let is = same_last rows marks part c.simple-attribute.result (simple_amount z) (simple_is c.simple-attribute.result z c.simple-attribute.ensures (exact z fits))
    (attribute_is_last rows marks part c.in-Attr.f c.in-Attr.key z c.in-Attr.is c.attribute_of.ensures.number c.attribute_of.ensures.within) in
    last_made rows marks whole part rest c.simple-attribute.result c.plus-in-Attr.result is going c.plus-in-Attr.ensures

pub total_of-requires : goal.total_of-requires
total_of-requires t c = top_is_there c.args.model.now c.args.chosen.now c.loop-part.part.now c.in-Sum.top c.in-Sum.key c.in-Sum.is c.loop-part.invariant.number

pub simple-total-requires : goal.simple-total-requires
simple-total-requires t c =
    let rows = c.args.model.now in
    let marks = c.args.chosen.now in
    let whole = c.args.number.now in
    let part = c.loop-part.part.now in
    let rest = c.loop-part.rest in
    let going = c.loop-part.invariant in
    let z = c.total_of.result in
    let few = sum_fits rows marks whole part rest c.in-Sum.top c.in-Sum.key z c.in-Sum.is going c.requires.few c.total_of.ensures.within in
    subst (λ (x : ℤ). IsWithin (most_terms * 10 ^ 18) x) (sym (exact z (plain_fits z few))) few

pub plus-requires-in-Sum : goal.plus-requires-in-Sum
plus-requires-in-Sum t c =
    let rows = c.args.model.now in
    let marks = c.args.chosen.now in
    let whole = c.args.number.now in
    let part = c.loop-part.part.now in
    let rest = c.loop-part.rest in
    let going = c.loop-part.invariant in
    let z = c.total_of.result in
    let few = sum_fits rows marks whole part rest c.in-Sum.top c.in-Sum.key z c.in-Sum.is going c.requires.few c.total_of.ensures.within in
    let is = same_last rows marks part c.simple-total.result (simple_amount z) (simple_is c.simple-total.result z c.simple-total.ensures (exact z (plain_fits z few)))
    (sum_is_last rows marks part c.in-Sum.top c.in-Sum.key z c.in-Sum.is c.total_of.ensures.total c.total_of.ensures.within) in
    last_fits rows marks whole part rest c.simple-total.result is going c.requires.few

pub returns-in-Sum-clause-amount : goal.returns-in-Sum-clause-amount
returns-in-Sum-clause-amount t c =
    let rows = c.args.model.now in
    let marks = c.args.chosen.now in
    let whole = c.args.number.now in
    let part = c.loop-part.part.now in
    let rest = c.loop-part.rest in
    let going = c.loop-part.invariant in
    let z = c.total_of.result in
    let few = sum_fits rows marks whole part rest c.in-Sum.top c.in-Sum.key z c.in-Sum.is going c.requires.few c.total_of.ensures.within in
    let is = same_last rows marks part c.simple-total.result (simple_amount z) (simple_is c.simple-total.result z c.simple-total.ensures (exact z (plain_fits z few)))
    (sum_is_last rows marks part c.in-Sum.top c.in-Sum.key z c.in-Sum.is c.total_of.ensures.total c.total_of.ensures.within) in
    last_amount rows marks whole part rest c.simple-total.result c.plus-in-Sum.result is going c.plus-in-Sum.ensures

pub returns-in-Sum-clause-made_of : goal.returns-in-Sum-clause-made_of
returns-in-Sum-clause-made_of t c =
    let rows = c.args.model.now in
    let marks = c.args.chosen.now in
    let whole = c.args.number.now in
    let part = c.loop-part.part.now in
    let rest = c.loop-part.rest in
    let going = c.loop-part.invariant in
    let z = c.total_of.result in
    let few = sum_fits rows marks whole part rest c.in-Sum.top c.in-Sum.key z c.in-Sum.is going c.requires.few c.total_of.ensures.within in
    let is = same_last rows marks part c.simple-total.result (simple_amount z) (simple_is c.simple-total.result z c.simple-total.ensures (exact z (plain_fits z few)))
    (sum_is_last rows marks part c.in-Sum.top c.in-Sum.key z c.in-Sum.is c.total_of.ensures.total c.total_of.ensures.within) in
    last_made rows marks whole part rest c.simple-total.result c.plus-in-Sum.result is going c.plus-in-Sum.ensures

pub amount_of-requires : goal.amount_of-requires
amount_of-requires t c =
    let rows = c.args.model.now in
    let marks = c.args.chosen.now in
    let whole = c.args.number.now in
    let part = c.loop-part.part.now in
    let rest = c.loop-part.rest in
    let going = c.loop-part.invariant in
    let parts = plus_operands rows marks part c.in-Plus.left c.in-Plus.right c.in-Plus.is going.number in
    let sizes = plus_sizes rows marks part c.in-Plus.left c.in-Plus.right c.in-Plus.is in
    let few : terms_of rows c.in-Plus.right ≤ most_terms = omega (arith, sizes.0, going.few, c.requires.few) in (
      omega (arith, ap number_nodes_of c.get.ensures, sizes.1, going.smaller),
      (subst (λ (n : Number). IsNumber rows n) (sym c.get.ensures) parts.1, subst (λ (n : Number). terms_of rows n ≤ most_terms) (sym c.get.ensures) few),
    )

pub plus-rest-requires : goal.plus-rest-requires
plus-rest-requires t c =
    let rows = c.args.model.now in
    let marks = c.args.chosen.now in
    let whole = c.args.number.now in
    let part = c.loop-part.part.now in
    let rest = c.loop-part.rest in
    let going = c.loop-part.invariant in
    let made = subst (λ (n : Number). IsMadeOf (terms_of rows n) c.amount_of.result) c.get.ensures c.amount_of.ensures.made_of in
    plus_fits rows marks whole part c.in-Plus.left c.in-Plus.right rest c.amount_of.result c.in-Plus.is made going c.requires.few

pub loop-part-preserved-in-Plus : goal.loop-part-preserved-in-Plus
loop-part-preserved-in-Plus t c =
    let rows = c.args.model.now in
    let marks = c.args.chosen.now in
    let whole = c.args.number.now in
    let part = c.loop-part.part.now in
    let rest = c.loop-part.rest in
    let going = c.loop-part.invariant in
    let made = subst (λ (n : Number). IsMadeOf (terms_of rows n) c.amount_of.result) c.get.ensures c.amount_of.ensures.made_of in
    let told = c.amount_of.ensures.amount ∙ ap (amount_of rows.features marks) c.get.ensures in
    let step = plus_step rows marks whole part c.in-Plus.left c.in-Plus.right rest c.amount_of.result c.in-Plus.is told made going in
    subst (λ (n : Number). Going rows marks whole n c.plus-rest.result) (sym c.get-part.ensures)
    (subst (λ (a : Amount). Going rows marks whole c.in-Plus.left a) (sym c.plus-rest.ensures) step)

pub amount_of-requires-in-Minus : goal.amount_of-requires-in-Minus
amount_of-requires-in-Minus t c =
    let rows = c.args.model.now in
    let marks = c.args.chosen.now in
    let whole = c.args.number.now in
    let part = c.loop-part.part.now in
    let rest = c.loop-part.rest in
    let going = c.loop-part.invariant in
    let parts = minus_operands rows marks part c.in-Minus.left c.in-Minus.right c.in-Minus.is going.number in
    let sizes = minus_sizes rows marks part c.in-Minus.left c.in-Minus.right c.in-Minus.is in
    let few : terms_of rows c.in-Minus.right ≤ most_terms = omega (arith, sizes.0, going.few, c.requires.few) in (
      omega (arith, ap number_nodes_of c.get-in-Minus.ensures, sizes.1, going.smaller),
      (subst (λ (n : Number). IsNumber rows n) (sym c.get-in-Minus.ensures) parts.1, subst (λ (n : Number). terms_of rows n ≤ most_terms) (sym c.get-in-Minus.ensures) few),
    )

pub minus-rest-requires : goal.minus-rest-requires
minus-rest-requires t c =
    let rows = c.args.model.now in
    let marks = c.args.chosen.now in
    let whole = c.args.number.now in
    let part = c.loop-part.part.now in
    let rest = c.loop-part.rest in
    let going = c.loop-part.invariant in
    let made = subst (λ (n : Number). IsMadeOf (terms_of rows n) c.amount_of-in-Minus.result) c.get-in-Minus.ensures c.amount_of-in-Minus.ensures.made_of in
    minus_fits rows marks whole part c.in-Minus.left c.in-Minus.right rest c.amount_of-in-Minus.result c.in-Minus.is made going c.requires.few

pub loop-part-preserved : goal.loop-part-preserved
loop-part-preserved t c =
    let rows = c.args.model.now in
    let marks = c.args.chosen.now in
    let whole = c.args.number.now in
    let part = c.loop-part.part.now in
    let rest = c.loop-part.rest in
    let going = c.loop-part.invariant in
    let made = subst (λ (n : Number). IsMadeOf (terms_of rows n) c.amount_of-in-Minus.result) c.get-in-Minus.ensures c.amount_of-in-Minus.ensures.made_of in
    let told = c.amount_of-in-Minus.ensures.amount ∙ ap (amount_of rows.features marks) c.get-in-Minus.ensures in
    let step = minus_step rows marks whole part c.in-Minus.left c.in-Minus.right rest c.amount_of-in-Minus.result c.in-Minus.is told made going in
    subst (λ (n : Number). Going rows marks whole n c.minus-rest.result) (sym c.get-part-in-Minus.ensures)
    (subst (λ (a : Amount). Going rows marks whole c.in-Minus.left a) (sym c.minus-rest.ensures) step)

pub amount_of-left-requires : goal.amount_of-left-requires
amount_of-left-requires t c =
    let rows = c.args.model.now in
    let marks = c.args.chosen.now in
    let whole = c.args.number.now in
    let part = c.loop-part.part.now in
    let rest = c.loop-part.rest in
    let going = c.loop-part.invariant in
    let parts = times_operands rows marks part c.in-Times.left c.in-Times.right c.in-Times.is going.number in
    let sizes = times_sizes rows marks part c.in-Times.left c.in-Times.right c.in-Times.is in
    let few : terms_of rows c.in-Times.left ≤ most_terms = omega (arith, sizes.0, going.few, c.requires.few) in (
      omega (arith, ap number_nodes_of c.get-in-Times.ensures, sizes.1, going.smaller),
      (subst (λ (n : Number). IsNumber rows n) (sym c.get-in-Times.ensures) parts.0, subst (λ (n : Number). terms_of rows n ≤ most_terms) (sym c.get-in-Times.ensures) few),
    )

pub amount_of-right-requires : goal.amount_of-right-requires
amount_of-right-requires t c =
    let rows = c.args.model.now in
    let marks = c.args.chosen.now in
    let whole = c.args.number.now in
    let part = c.loop-part.part.now in
    let rest = c.loop-part.rest in
    let going = c.loop-part.invariant in
    let parts = times_operands rows marks part c.in-Times.left c.in-Times.right c.in-Times.is going.number in
    let sizes = times_sizes rows marks part c.in-Times.left c.in-Times.right c.in-Times.is in
    let few : terms_of rows c.in-Times.right ≤ most_terms = omega (arith, sizes.0, going.few, c.requires.few) in (
      omega (arith, ap number_nodes_of c.get-in-Times-2.ensures, sizes.1, going.smaller),
      (subst (λ (n : Number). IsNumber rows n) (sym c.get-in-Times-2.ensures) parts.1, subst (λ (n : Number). terms_of rows n ≤ most_terms) (sym c.get-in-Times-2.ensures) few),
    )

pub times-requires : goal.times-requires
times-requires t c =
    let rows = c.args.model.now in
    let marks = c.args.chosen.now in
    let whole = c.args.number.now in
    let part = c.loop-part.part.now in
    let rest = c.loop-part.rest in
    let going = c.loop-part.invariant in
    let x = c.amount_of-left.result in
    let y = c.amount_of-right.result in
    let left_is = c.amount_of-left.ensures.amount ∙ ap (amount_of rows.features marks) c.get-in-Times.ensures in
    let right_is = c.amount_of-right.ensures.amount ∙ ap (amount_of rows.features marks) c.get-in-Times-2.ensures in
    let left_made = subst (λ (n : Number). IsMadeOf (terms_of rows n) x) c.get-in-Times.ensures c.amount_of-left.ensures.made_of in
    let right_made = subst (λ (n : Number). IsMadeOf (terms_of rows n) y) c.get-in-Times-2.ensures c.amount_of-right.ensures.made_of in
    factors_fit rows marks whole part c.in-Times.left c.in-Times.right rest x y c.in-Times.is going c.requires.few left_is left_made right_is right_made

pub plus-requires-in-Times : goal.plus-requires-in-Times
plus-requires-in-Times t c =
    let rows = c.args.model.now in
    let marks = c.args.chosen.now in
    let whole = c.args.number.now in
    let part = c.loop-part.part.now in
    let rest = c.loop-part.rest in
    let going = c.loop-part.invariant in
    let x = c.amount_of-left.result in
    let y = c.amount_of-right.result in
    let left_is = c.amount_of-left.ensures.amount ∙ ap (amount_of rows.features marks) c.get-in-Times.ensures in
    let right_is = c.amount_of-right.ensures.amount ∙ ap (amount_of rows.features marks) c.get-in-Times-2.ensures in
    let left_made = subst (λ (n : Number). IsMadeOf (terms_of rows n) x) c.get-in-Times.ensures c.amount_of-left.ensures.made_of in
    let right_made = subst (λ (n : Number). IsMadeOf (terms_of rows n) y) c.get-in-Times-2.ensures c.amount_of-right.ensures.made_of in
    let is = product_is_last rows marks part c.in-Times.left c.in-Times.right x y c.times.result c.in-Times.is going.number left_is left_made right_is right_made c.times.ensures in
    last_fits rows marks whole part rest c.times.result is going c.requires.few

pub returns-in-Times-clause-amount : goal.returns-in-Times-clause-amount
returns-in-Times-clause-amount t c =
    let rows = c.args.model.now in
    let marks = c.args.chosen.now in
    let whole = c.args.number.now in
    let part = c.loop-part.part.now in
    let rest = c.loop-part.rest in
    let going = c.loop-part.invariant in
    let x = c.amount_of-left.result in
    let y = c.amount_of-right.result in
    let left_is = c.amount_of-left.ensures.amount ∙ ap (amount_of rows.features marks) c.get-in-Times.ensures in
    let right_is = c.amount_of-right.ensures.amount ∙ ap (amount_of rows.features marks) c.get-in-Times-2.ensures in
    let left_made = subst (λ (n : Number). IsMadeOf (terms_of rows n) x) c.get-in-Times.ensures c.amount_of-left.ensures.made_of in
    let right_made = subst (λ (n : Number). IsMadeOf (terms_of rows n) y) c.get-in-Times-2.ensures c.amount_of-right.ensures.made_of in
    let is = product_is_last rows marks part c.in-Times.left c.in-Times.right x y c.times.result c.in-Times.is going.number left_is left_made right_is right_made c.times.ensures in
    last_amount rows marks whole part rest c.times.result c.plus-in-Times.result is going c.plus-in-Times.ensures

pub returns-in-Times-clause-made_of : goal.returns-in-Times-clause-made_of
returns-in-Times-clause-made_of t c =
    let rows = c.args.model.now in
    let marks = c.args.chosen.now in
    let whole = c.args.number.now in
    let part = c.loop-part.part.now in
    let rest = c.loop-part.rest in
    let going = c.loop-part.invariant in
    let x = c.amount_of-left.result in
    let y = c.amount_of-right.result in
    let left_is = c.amount_of-left.ensures.amount ∙ ap (amount_of rows.features marks) c.get-in-Times.ensures in
    let right_is = c.amount_of-right.ensures.amount ∙ ap (amount_of rows.features marks) c.get-in-Times-2.ensures in
    let left_made = subst (λ (n : Number). IsMadeOf (terms_of rows n) x) c.get-in-Times.ensures c.amount_of-left.ensures.made_of in
    let right_made = subst (λ (n : Number). IsMadeOf (terms_of rows n) y) c.get-in-Times-2.ensures c.amount_of-right.ensures.made_of in
    let is = product_is_last rows marks part c.in-Times.left c.in-Times.right x y c.times.result c.in-Times.is going.number left_is left_made right_is right_made c.times.ensures in
    last_made rows marks whole part rest c.times.result c.plus-in-Times.result is going c.plus-in-Times.ensures
