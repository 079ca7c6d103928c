-- A live handle is held, and so is a constant.
use Rattle.std.proofs.Common.{ℕ, IfErr, sym, subst, inl, arith}
use Rattle.dd_store.specs.Size.{Function}
use Rattle.dd_apply.specs.Cause.{IsCause}
use Rattle.dd_apply.specs.Made.{StaysUnlessFull}
use Rattle.dd_apply.proofs.JoinLemmas.{not-is, not-told}
use Rattle.dd_apply.specs.Held.{IsHeld}
use Rattle.dd_apply.proofs.HeldLemmas.{live-held}
use Rattle.dd_apply.proofs.kernel.Kernel.not.Goals as goal

pub operate-requires-clause-a_held : goal.operate-requires-clause-a_held
operate-requires-clause-a_held c =
    subst (λ (n : ℕ). IsHeld c.args.self.now n) (sym c.node_of-a.ensures.place) (live-held c.args.self.now c.args.a.now c.requires)

pub operate-requires-clause-b_held : goal.operate-requires-clause-b_held
operate-requires-clause-b_held c = inl (omega arith)

pub returns-clause-value : goal.returns-clause-value
returns-clause-value c =
    not-told c.args.self.now c.operate.new.self c.node_of-a.result.0 c.args.a.now c.operate.result c.order-order.ensures.sound c.node_of-a.ensures.place c.operate.ensures.value

pub returns-clause-cause : goal.returns-clause-cause
returns-clause-cause c =
    subst (λ (f : Function). IfErr c.operate.result (IsCause c.args.self.now c.operate.new.self f))
    (not-is c.args.self.now c.node_of-a.result.0 c.args.a.now c.order-order.ensures.sound c.node_of-a.ensures.place) c.operate.ensures.cause

pub returns-clause-stays : goal.returns-clause-stays
returns-clause-stays c =
    subst (λ (f : Function). StaysUnlessFull c.args.self.now c.operate.new.self f)
    (not-is c.args.self.now c.node_of-a.result.0 c.args.a.now c.order-order.ensures.sound c.node_of-a.ensures.place) c.operate.ensures.stays
