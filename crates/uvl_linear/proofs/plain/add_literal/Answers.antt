-- The product is exact, and no larger than the largest term.
use Rattle.std.proofs.Common.{ap, ◌∙◌}
use Rattle.std.specs.Prelude.{ℤ, ◌*ℤ◌}
use Rattle.uvl_linear.proofs.FormLemmas.{adds_same}
use Rattle.uvl_linear.proofs.PlainLemmas.{product_is, product_small}
use Rattle.uvl_linear.proofs.plain.add_literal.Goals as goal

pub add_constant-requires : goal.add_constant-requires
add_constant-requires c = record {
  small = product_small c.args.factor c.millionths.result c.requires.factor c.millionths.ensures.in_range;
  room = c.requires.room;
}

pub returns : goal.returns
returns c =
    adds_same c.args.form.now c.add_constant.new.self 1 _ (λ marks. c.args.factor *ℤ c.args.literal)
    (λ marks. product_is c.args.factor c.millionths.result c.requires.factor c.millionths.ensures.in_range
    ∙ ap (λ (z : ℤ). c.args.factor *ℤ z) c.millionths.ensures.number)
    c.add_constant.ensures
