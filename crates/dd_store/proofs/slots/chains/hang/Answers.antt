-- The heads of one variable change.
use Rattle.std.proofs.Common.{ap}
use Rattle.std.proofs.Math.ListN.{set}
use Rattle.dd_store.proofs.PutLemmas.{hang-place, hang-same}
use Rattle.dd_store.proofs.slots.chains.hang.Goals as goal

pub returns-clause-place : goal.returns-clause-place
returns-clause-place c = hang-place _ _ _ _ c.index-variables-row.result _ c.requires.known c.put.ensures.first c.put.ensures.within c.put.ensures.heads c.put.ensures.nodes

pub returns-clause-others : goal.returns-clause-others
returns-clause-others c = ap (set c.args.variables.now c.args.row.now.var.0) (hang-same _ _ _ c.requires.known)
