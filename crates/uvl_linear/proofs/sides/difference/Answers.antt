-- The first number is added to nothing, and the opposite of the second one to that.
use Rattle.uvl_model.specs.Amounts.{amount_of}
use Rattle.uvl_linear.proofs.ValueLemmas.{both_added}
use Rattle.uvl_linear.proofs.sides.difference.Goals as goal

pub returns-clause-value : goal.returns-clause-value
returns-clause-value c marks =
    both_added _ _ _ (amount_of c.args.model.now.features marks c.args.first.now).value (amount_of c.args.model.now.features marks c.args.second.now).value
    (c.in_ok-form.ensures.value marks) (c.add_value.ensures.value marks) (c.add_value-2.ensures.value marks)
