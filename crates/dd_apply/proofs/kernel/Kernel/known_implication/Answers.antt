-- What is settled without the table is so in it.
use Rattle.dd_apply.proofs.ImplyLemmas.{implied}
use Rattle.dd_apply.proofs.kernel.Kernel.known_implication.Goals as goal

pub returns-in-Some-clause-value : goal.returns-in-Some-clause-value
returns-in-Some-clause-value c =
    implied c.args.self.now c.args.a.0 c.args.b.0 c.in-Some.answer c.order-order.ensures.sound c.requires.a_held c.requires.b_held c.in-Some.ensures.settled
