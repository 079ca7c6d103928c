-- A number as it is written is in range.
use Rattle.std.proofs.Common.{subst}
use Rattle.uvl_base.specs.Number.{InRange}
use Rattle.uvl_model.proofs.Bounds.{range_within}
use Rattle.uvl_model.proofs.numbers.literal_amount.Goals as goal

pub returns-clause-within : goal.returns-clause-within
returns-clause-within c = range_within c.args.literal (subst InRange c.millionths.ensures.number c.millionths.ensures.in_range)
