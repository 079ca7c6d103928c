-- The answer is right as a constant's number.
use Rattle.std.proofs.Common.{rules, ◌≡◌, if◌then◌else◌}
use Rattle.dd_apply.specs.Right.{DoesImply}
use Rattle.dd_apply.proofs.HeldLemmas.{held-there}
use Rattle.dd_apply.proofs.ImplyLemmas.{as-number}
use Rattle.dd_apply.proofs.kernel.Kernel.keep_implication.Goals as goal

pub keep-requires : goal.keep-requires
keep-requires c =
    let is : c.from.result ≡ (if c.args.answer then 1 else 0) = search rules in (
      held-there c.args.self.now c.order-order.ensures.sound c.args.a.0 c.requires.a_held,
      held-there c.args.self.now c.order-order.ensures.sound c.args.b.0 c.requires.b_held,
      as-number c.args.answer c.from.result (DoesImply c.args.self.now c.args.a.0 c.args.b.0) is c.requires.right,
    )
