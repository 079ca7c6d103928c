-- The whole call: a function for each assignment, and the cause of its refusal.
use Rattle.std.proofs.Common.{◌≡◌, ◌∙◌, ℕ, ◌+◌, ◌*◌, Bool, IfOk, IfErr, ap, subst, arith}
use Rattle.dd_store.specs.Exhausted.{value_at}
use Rattle.dd_store.specs.Size.{Function}
use Rattle.dd_store.specs.Table.{Table, value_of}
use Rattle.dd_apply.specs.Cause.{IsCause}
use Rattle.dd_apply.specs.Made.{StaysUnlessFull}
use Rattle.dd_apply.specs.Truth.{chosen}
use Rattle.dd_apply.proofs.RoomLemmas.{values-told, cause-told}
use Rattle.dd_apply.proofs.ChooseLemmas.{levels3}
use Rattle.dd_apply.proofs.kernel.Kernel.ite.Goals as goal

same : (t : Table) (c a b k m n : ℕ) → c ≡ k → a ≡ m → b ≡ n → chosen (value_at t c) (value_at t a) (value_at t b) ≡ chosen (value_at t k) (value_at t m) (value_at t n)
same t c a b k m n one two three =
    ap (λ (i : ℕ). chosen (value_at t i) (value_at t a) (value_at t b)) one
    ∙ ap (λ (i : ℕ). chosen (value_at t k) (value_at t i) (value_at t b)) two
    ∙ ap (λ (i : ℕ). chosen (value_at t k) (value_at t m) (value_at t i)) three

pub returns-clause-value : goal.returns-clause-value
returns-clause-value c =
    let s = c.args.self.now in
    subst (λ (f : Function). IfOk c.choose.result (λ h. (x : ℕ → Bool) → value_of c.choose.new.self h x ≡ f x))
    (same s c.node_of-condition.result.0 c.node_of-a.result.0 c.node_of-b.result.0 c.args.condition.now c.args.a.now c.args.b.now
    c.node_of-condition.ensures.place c.node_of-a.ensures.place c.node_of-b.ensures.place)
    (values-told c.choose.new.self (chosen (value_at s c.node_of-condition.result.0) (value_at s c.node_of-a.result.0) (value_at s c.node_of-b.result.0)) c.choose.result c.choose.ensures.value)

pub returns-clause-cause : goal.returns-clause-cause
returns-clause-cause c =
    let s = c.args.self.now in
    subst (λ (f : Function). IfErr c.choose.result (IsCause s c.choose.new.self f))
    (same s c.node_of-condition.result.0 c.node_of-a.result.0 c.node_of-b.result.0 c.args.condition.now c.args.a.now c.args.b.now
    c.node_of-condition.ensures.place c.node_of-a.ensures.place c.node_of-b.ensures.place)
    (cause-told s c.choose.new.self (chosen (value_at s c.node_of-condition.result.0) (value_at s c.node_of-a.result.0) (value_at s c.node_of-b.result.0))
    (2 * (levels3 s c.node_of-condition.result.0 c.node_of-a.result.0 c.node_of-b.result.0 + 1)) c.choose.result c.order-order.ensures.sound (omega arith) c.choose.ensures.cause)

pub returns-clause-stays : goal.returns-clause-stays
returns-clause-stays c =
    let s = c.args.self.now in
    subst (λ (f : Function). StaysUnlessFull s c.choose.new.self f)
    (same s c.node_of-condition.result.0 c.node_of-a.result.0 c.node_of-b.result.0 c.args.condition.now c.args.a.now c.args.b.now
    c.node_of-condition.ensures.place c.node_of-a.ensures.place c.node_of-b.ensures.place)
    c.choose.ensures.stays
