-- A model has fewer features than a table may have variables, and what compiling it lacks is told of the document order.
use Rattle.std.proofs.Common.{Err, length, ap, ◌∙◌, arith}
use Rattle.std.proofs.lemmas.Result.{err_from_is_err_and}
use Rattle.uvl_run.proofs.Placed.{few_names, short_in_order}
use Rattle.uvl_run.proofs.state.compiled.Goals as goal

pub unreachable-requires : goal.unreachable-requires
unreachable-requires c =
    let many = (c.place.ensures.too_many c.in-Err-TooManyVariables.field-0-0).0 (c.in-Err-TooManyVariables.is ∙ ap Err c.in-Err-TooManyVariables.field-0-is) in
    let few = few_names c.rows_give_names.ensures c.args.model c.features.ensures.sound _ c.new-names.ensures in
    let features = ap length c.features.ensures.rows in
    let limit = c.features.ensures.few in
    omega (arith, many.0, many.1, few, features, limit)

pub returns-in_err-products-clause-cause : goal.returns-in_err-products-clause-cause
returns-in_err-products-clause-cause c =
    let p = err_from_is_err_and c.from_residual.result c.from_residual.ensures.1 in
    let placed = c.in-Ok.ensures in
    rw (p.1, p.2) (short_in_order c.rows_give_names.ensures c.enough_is_enough.ensures c.args.model c.features.ensures.sound c.args.kernel.now c.place.new.kernel _ _ c.in-Ok.map c.in_err-products.field-0.0
    c.requires.empty c.requires.none_live c.new-names.ensures placed.names placed.named placed.as_many placed.adds c.in_err-products.ensures.cause)
