-- The union is refused where the budget is too small for it.
use Rattle.dd_quant.proofs.ExistsLemmas.{union-short}
use Rattle.dd_quant.proofs.quantification.either.Goals as goal

pub returns-clause-cause : goal.returns-clause-cause
returns-clause-cause c = union-short c.args.kernel.now c.or-made.new.self c.args.low c.args.high c.or-made.result c.or-made.ensures.cause
