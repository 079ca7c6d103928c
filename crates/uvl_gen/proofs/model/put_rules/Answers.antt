-- One rule more.
use Rattle.std.proofs.Common.{◌*◌, arith}
use Rattle.uvl_gen.specs.Generated.{rule_line}
use Rattle.uvl_gen.proofs.Numbers.{one_more}
use Rattle.uvl_gen.proofs.model.put_rules.Goals as goal

pub loop-tens-preserved : goal.loop-tens-preserved
loop-tens-preserved c = (
  omega arith,
  one_more (λ tens. rule_line (10 * tens)) 1 c.loop-tens.tens _ _ _ c.loop-tens.invariant.0 c.loop-tens.invariant.1 c.in_ok-put_rule.ensures,
)
