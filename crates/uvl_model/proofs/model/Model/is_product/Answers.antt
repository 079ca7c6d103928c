-- The root, the groups and the rules tell whether the chosen features are a product.
use Rattle.std.proofs.Common.{sym, ◌∙◌}
use Rattle.uvl_model.proofs.Families.{product_of_chosen, product_of_set}
use Rattle.uvl_model.proofs.model.Model.is_product.Goals as goal

pub returns-clause-product : goal.returns-clause-product
returns-clause-product c =
    c.rows_hold.ensures.met ∙ sym (product_of_chosen c.args.self.now c.args.chosen.now c.rows_hold.ensures.sound)

pub returns-clause-each_set : goal.returns-clause-each_set
returns-clause-each_set c = λ set stand.
    c.rows_hold.ensures.met ∙ sym (product_of_set c.args.self.now c.args.chosen.now set c.rows_hold.ensures.sound stand)
