-- The diagram is that of a void family exactly where its value is always no.
use Rattle.uvl_analyses.proofs.Meaning.{void-constant, not_void-none}
use Rattle.uvl_analyses.proofs.products.void.Goals as goal

pub returns-in-Some : goal.returns-in-Some
returns-in-Some c =
    void-constant c.args.it.now.model c.args.kernel.now c.args.it.now.map c.args.it.now.products c.requires c.products_are_sets.ensures c.in-Some.value c.in-Some.ensures.value

pub returns-in-None : goal.returns-in-None
returns-in-None c =
    not_void-none c.args.it.now.model c.args.kernel.now c.args.it.now.map c.args.it.now.products c.requires c.products_are_sets.ensures c.in-None.ensures.exact
