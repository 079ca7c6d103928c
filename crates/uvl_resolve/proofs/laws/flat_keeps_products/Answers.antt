-- The tree and the constraints are those of the flat model.
use Rattle.std.proofs.Common.{◌≡◌, Option, List, ap, sym, ◌∙◌}
use Rattle.std.specs.Prelude.{unwrap_or}
use Rattle.uvl_model.specs.Constraints.{constraints_of}
use Rattle.uvl_semantics.specs.Constraint.{Constraint}
use Rattle.uvl_semantics.specs.Family.{ProductsOf}
use Rattle.uvl_semantics.specs.Tree.{Tree}
use Rattle.uvl_resolve.proofs.laws.flat_keeps_products.Goals as goal

pub returns : goal.returns
returns c = λ files rows tree constraints flat placed said.
    let same_tree : flat.tree ≡ tree = ap (λ (o : Option Tree). unwrap_or o tree) (sym flat.placed ∙ placed) in
    let same : constraints_of rows ≡ constraints = ap (λ (o : Option (List Constraint)). unwrap_or o constraints) (sym flat.constraints ∙ said) in
    c.rows_give_products.ensures flat.tree rows flat.spelled
    ∙ ap (λ (t : Tree). ProductsOf t (constraints_of rows)) same_tree ∙ ap (ProductsOf tree) same
