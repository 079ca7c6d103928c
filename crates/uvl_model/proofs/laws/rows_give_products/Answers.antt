-- The check of the rows decides for the tree, and the rules read the same heads.
use Rattle.uvl_model.proofs.Families.{spelled_products}
use Rattle.uvl_model.proofs.laws.rows_give_products.Goals as goal

pub returns : goal.returns
returns c = spelled_products
