-- The new handle's value stays.
use Rattle.dd_store.specs.Exhausted.{value_at}
use Rattle.dd_quant.specs.Exists.{without}
use Rattle.dd_quant.proofs.ExistsLemmas.{value-told}
use Rattle.dd_quant.proofs.quantification.without_next.Goals as goal

pub returns-clause-value : goal.returns-clause-value
returns-clause-value c =
    value-told c.without_variable-made.new.kernel c.release.new.self (without c.args.var.0 (value_at c.args.kernel.now c.args.f)) c.without_variable-made.result
    c.release.ensures.grows c.without_variable-made.ensures.value
