-- The check of the rows decides for the set of the marked names.
use Rattle.uvl_model.proofs.Families.{product_of_boolean}
use Rattle.uvl_model.proofs.laws.rows_check_products.Goals as goal

pub returns : goal.returns
returns c = product_of_boolean
