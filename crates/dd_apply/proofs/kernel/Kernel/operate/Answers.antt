-- The whole call: a function for each assignment, and the cause of its refusal.
use Rattle.std.proofs.Common.{◌+◌, ◌*◌, arith}
use Rattle.dd_store.specs.Exhausted.{value_at}
use Rattle.dd_apply.specs.Truth.{applied}
use Rattle.dd_apply.proofs.RoomLemmas.{values-told, cause-told}
use Rattle.dd_apply.proofs.CombineLemmas.{levels}
use Rattle.dd_apply.proofs.kernel.Kernel.operate.Goals as goal

pub returns-clause-value : goal.returns-clause-value
returns-clause-value c = values-told c.combine.new.self (applied c.args.operation (value_at c.args.self.now c.args.a.0) (value_at c.args.self.now c.args.b.0)) c.combine.result c.combine.ensures.value

pub returns-clause-cause : goal.returns-clause-cause
returns-clause-cause c =
    cause-told c.args.self.now c.combine.new.self (applied c.args.operation (value_at c.args.self.now c.args.a.0) (value_at c.args.self.now c.args.b.0))
    (2 * (levels c.args.self.now c.args.a.0 c.args.b.0 + 1)) c.combine.result c.order-order.ensures.sound (omega arith) c.combine.ensures.cause
