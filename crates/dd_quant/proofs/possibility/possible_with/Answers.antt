-- The values are those of the literals.
use Rattle.dd_quant.proofs.WalkLemmas.{possible-told}
use Rattle.dd_quant.proofs.possibility.possible_with.Goals as goal

pub returns-in-Some : goal.returns-in-Some
returns-in-Some c =
    possible-told c.args.kernel.now c.args.given.now c.in-Some.values.items c.deref.result.now c.variables.result c.node_of-node.result.0 c.args.f.now c.can_be.result
    (rw c.in-Some.is at c.in_ok-given_values.ensures) c.deref.ensures.value c.node_of-node.ensures.place c.can_be.ensures.value
