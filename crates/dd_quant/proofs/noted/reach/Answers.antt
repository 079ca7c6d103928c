-- The level leads as far as the edge, if it led less far.
use Rattle.dd_quant.proofs.NotedLemmas.{reach-put}
use Rattle.dd_quant.proofs.noted.reach.Goals as goal

pub returns-clause-passed : goal.returns-clause-passed
returns-clause-passed c = reach-put c.args.far.now c.args.from c.args.to c.larger.result c.requires c.larger.ensures c.args.is_noted c.if-not-is_noted.false
