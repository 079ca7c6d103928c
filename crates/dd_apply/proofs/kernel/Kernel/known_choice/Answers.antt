-- What is settled without the table is right in it.
use Rattle.dd_apply.proofs.JoinLemmas.{choice-right}
use Rattle.dd_apply.proofs.kernel.Kernel.known_choice.Goals as goal

pub returns-in-Some-clause-right : goal.returns-in-Some-clause-right
returns-in-Some-clause-right c =
    choice-right c.args.self.now c.order-order.ensures.sound c.args.c.0 c.args.a.0 c.args.b.0 c.in-Some.node.0 c.requires.c_held c.requires.a_held c.requires.b_held
    c.in-Some.ensures.settled
