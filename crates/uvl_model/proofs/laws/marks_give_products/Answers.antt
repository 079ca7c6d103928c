-- Membership alone counts.
use Rattle.uvl_model.proofs.Families.{product_of_marks}
use Rattle.uvl_model.proofs.laws.marks_give_products.Goals as goal

pub returns : goal.returns
returns c = product_of_marks
