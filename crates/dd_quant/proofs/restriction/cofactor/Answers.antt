-- The recursion from the handle's node, with nothing remembered.
use Rattle.std.proofs.Common.{◌≡◌, ℕ, ◌+◌, ◌-◌, ◌*◌, [], ◌∷◌, IfOk, IfErr, length, refl, inl, sym, subst, arith}
use Rattle.dd_store.specs.Exhausted.{value_at}
use Rattle.dd_store.specs.Size.{fixed}
use Rattle.dd_store.specs.Table.{top_of}
use Rattle.dd_apply.specs.Cause.{IsCause}
use Rattle.dd_apply.specs.Held.{IsHeld}
use Rattle.dd_apply.proofs.HeldLemmas.{live-held}
use Rattle.dd_apply.proofs.RoomLemmas.{cause-told, values-told}
use Rattle.dd_quant.proofs.RestrictLemmas.{no-answers}
use Rattle.dd_quant.proofs.ShortLemmas.{short-told}
use Rattle.dd_quant.proofs.restriction.cofactor.Goals as goal

pub restrict-requires-clause-held : goal.restrict-requires-clause-held
restrict-requires-clause-held c = subst (λ (n : ℕ). IsHeld c.args.kernel.now n) (sym c.node_of-node.ensures.place) (live-held c.args.kernel.now c.args.f.now c.requires.live)

pub restrict-requires-clause-right : goal.restrict-requires-clause-right
restrict-requires-clause-right c = no-answers c.args.kernel.now c.args.var.0 c.args.value c.new-answers.result.items c.new-answers.ensures.items

pub returns-clause-value : goal.returns-clause-value
returns-clause-value c =
    let t = c.args.kernel.now in
    let u = c.restrict.new.kernel in
    values-told u (fixed (value_at t c.args.f.now) c.args.var.0 c.args.value) c.restrict.result
    (subst (λ (n : ℕ). IfOk c.restrict.result (λ h. value_at u h ≡ fixed (value_at t n) c.args.var.0 c.args.value)) c.node_of-node.ensures.place c.restrict.ensures.value)

pub returns-clause-full : goal.returns-clause-full
returns-clause-full c =
    let t = c.args.kernel.now in
    let u = c.restrict.new.kernel in
    let most = 2 * (length t.order - top_of t c.node_of-node.result.0 + 1) in
    subst (λ (n : ℕ). IfErr c.restrict.result (IsCause t u (fixed (value_at t n) c.args.var.0 c.args.value))) c.node_of-node.ensures.place
    (cause-told t u (fixed (value_at t c.node_of-node.result.0) c.args.var.0 c.args.value) most c.restrict.result c.order-order.ensures.sound (omega arith) c.restrict.ensures.cause)

pub returns-clause-cause : goal.returns-clause-cause
returns-clause-cause c =
    let t = c.args.kernel.now in
    let u = c.restrict.new.kernel in
    let f = fixed (value_at t c.args.f.now) c.args.var.0 c.args.value in
    let most = 2 * (length t.order - top_of t c.node_of-node.result.0 + 1) in
    short-told t u f (f ∷ []) c.restrict.result (inl refl)
    (subst (λ (n : ℕ). IfErr c.restrict.result (IsCause t u (fixed (value_at t n) c.args.var.0 c.args.value))) c.node_of-node.ensures.place
    (cause-told t u (fixed (value_at t c.node_of-node.result.0) c.args.var.0 c.args.value) most c.restrict.result c.order-order.ensures.sound (omega arith) c.restrict.ensures.cause))
