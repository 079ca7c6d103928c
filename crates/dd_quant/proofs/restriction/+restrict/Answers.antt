-- The node is split past its variable, and the halves' results joined.
use Rattle.std.proofs.Common.{◌∙◌, ℕ, ◌<◌, ◌≤◌, ◌+◌, ◌-◌, ◌*◌, true, false, List, Option, length, subst, sym, arith}
use Rattle.std.specs.List.{Contains}
use Rattle.std.proofs.lemmas.Result.{err_from_is_err_and}
use Rattle.dd_store.specs.declared.row.NodeNo.{NodeNo}
use Rattle.dd_store.specs.Exhausted.{value_at}
use Rattle.dd_store.specs.Size.{Function, cofactors, fixed}
use Rattle.dd_store.specs.Table.{top_of}
use Rattle.dd_store.proofs.CofactorLemmas.{fixed-cofactor}
use Rattle.dd_store.proofs.CountLemmas.{live_gained}
use Rattle.dd_apply.proofs.HeldLemmas.{held-there}
use Rattle.dd_apply.proofs.RoomLemmas.{cause-part}
use Rattle.dd_apply.proofs.StepLemmas.{cause-second, above-low, above-high, fork-is, joined-value, joined-gain, joined-keeps-handles, joined-keeps, joined-cause, given-up-keeps}
use Rattle.dd_quant.specs.steps.Remembered.{AreAnswers}
use Rattle.dd_quant.proofs.RestrictLemmas.{fixed-constant, free, half-held, half-fewer, half-value, after-held, after-inside, after-fewer, after-value, asked-after, node-held, answers-grow}
use Rattle.dd_quant.proofs.restriction.+restrict.Goals as goal

more : (t u : ℕ) → t < u → 2 * (t + 1) + 1 ≤ 2 * (u + 1)
more t u less = omega arith

pub returns-in_default-clause-value : goal.returns-in_default-clause-value
returns-in_default-clause-value t c =
    (λ j a. c.in_ok-hold.ensures.value a j) ∙ fixed-constant c.args.kernel.now c.order-order.ensures.sound c.args.node.0 c.args.literal.var.0 c.args.literal.value c.in_default.ensures.constants

pub returns-in-Some-known-clause-value : goal.returns-in-Some-known-clause-value
returns-in-Some-known-clause-value t c = (λ j a. c.in_ok-hold-2.ensures.value a j) ∙ c.in-Some-known.ensures.right.value

pub ends_of-requires : goal.ends_of-requires
ends_of-requires t c = held-there c.args.kernel.now c.order-order.ensures.sound c.args.node.0 c.requires.held

pub returns-in_default-clause-right : goal.returns-in_default-clause-right
returns-in_default-clause-right t c =
    answers-grow c.args.kernel.now c.hold.new.self c.args.literal.var.0 c.args.literal.value c.args.answers.now.items c.hold.ensures.grows c.requires.right

pub known-requires-clause-right : goal.known-requires-clause-right
known-requires-clause-right t c =
    subst (λ (xs : List (Option NodeNo)). AreAnswers c.args.kernel.now c.args.literal.var.0 c.args.literal.value xs) (sym c.deref.ensures.value) c.requires.right

pub returns-in-Some-known-clause-right : goal.returns-in-Some-known-clause-right
returns-in-Some-known-clause-right t c =
    answers-grow c.args.kernel.now c.hold-in-Some-known.new.self c.args.literal.var.0 c.args.literal.value c.args.answers.now.items c.hold-in-Some-known.ensures.grows c.requires.right

pub restrict-requires : goal.restrict-requires
restrict-requires t c =
    let s = c.args.kernel.now in
    let n = c.args.node.0 in
    let ends = c.in-Some.ends in
    let w = ends.var.0 in
    let v = c.args.literal.var.0 in
    let b = c.args.literal.value in
    let sound = c.order-order.ensures.sound in
    let e = c.in-Some.ensures.ends in
    let below = c.in_default-known.ensures.above in
    let f : Function = fixed (value_at s n) v b in
    let free' = free s sound n w ends.low.0 ends.high.0 e v b c.requires.held c.requires.variable below in
    let less = half-fewer s sound n w ends.low.0 ends.high.0 e v b c.requires.held c.requires.variable below false in
    (omega arith, (half-held s sound n w ends.low.0 ends.high.0 e v b c.requires.held c.requires.variable below false, (c.requires.variable, c.requires.right)))

pub returns-in_err-low-clause-cause : goal.returns-in_err-low-clause-cause
returns-in_err-low-clause-cause t c =
    let p = err_from_is_err_and c.from_residual-in_err-low.result c.from_residual-in_err-low.ensures.1 in
    let s = c.args.kernel.now in
    let n = c.args.node.0 in
    let ends = c.in-Some.ends in
    let w = ends.var.0 in
    let v = c.args.literal.var.0 in
    let b = c.args.literal.value in
    let sound = c.order-order.ensures.sound in
    let e = c.in-Some.ensures.ends in
    let below = c.in_default-known.ensures.above in
    let f : Function = fixed (value_at s n) v b in
    let free' = free s sound n w ends.low.0 ends.high.0 e v b c.requires.held c.requires.variable below in
    let less = half-fewer s sound n w ends.low.0 ends.high.0 e v b c.requires.held c.requires.variable below false in
    rw (p.1, p.2)
    (cause-part s c.restrict.new.kernel f (fixed (value_at s ends.low.0) v b) (2 * (length s.order - top_of s ends.low.0 + 1)) (2 * (length s.order - top_of s n + 1)) c.in_err-low.field-0.0
    (subst (λ (g : Function). Contains (cofactors s.order f) g) (sym (half-value s sound n w ends.low.0 ends.high.0 e v b c.requires.held c.requires.variable below false)) (fixed-cofactor s.order f w false e.variable free')) (omega arith) c.in_err-low.ensures.cause)

pub restrict-requires-2 : goal.restrict-requires-2
restrict-requires-2 t c =
    let s = c.args.kernel.now in
    let n = c.args.node.0 in
    let ends = c.in-Some.ends in
    let w = ends.var.0 in
    let v = c.args.literal.var.0 in
    let b = c.args.literal.value in
    let sound = c.order-order.ensures.sound in
    let e = c.in-Some.ensures.ends in
    let below = c.in_default-known.ensures.above in
    let f : Function = fixed (value_at s n) v b in
    let free' = free s sound n w ends.low.0 ends.high.0 e v b c.requires.held c.requires.variable below in
    let m = c.restrict.new.kernel in
    let keeps = c.in_ok-low.ensures.keeps in
    let gain = c.in_ok-low.ensures.gained in
    let is_low = c.in_ok-low.ensures.value ∙ half-value s sound n w ends.low.0 ends.high.0 e v b c.requires.held c.requires.variable below false in
    let after = after-value s sound n w ends.low.0 ends.high.0 e v b c.requires.held c.requires.variable below true m keeps (live_gained gain) in
    let less = after-fewer s sound n w ends.low.0 ends.high.0 e v b c.requires.held c.requires.variable below true m keeps (live_gained gain) in
    (omega arith, (after-held s sound n w ends.low.0 ends.high.0 e v b c.requires.held c.requires.variable below true m keeps (live_gained gain), (after-inside s sound n w ends.low.0 ends.high.0 e v b c.requires.held c.requires.variable below true m keeps (live_gained gain), c.in_ok-low.ensures.right)))

pub join-requires-clause-held : goal.join-requires-clause-held
join-requires-clause-held t c =
    let s = c.args.kernel.now in
    let n = c.args.node.0 in
    let ends = c.in-Some.ends in
    let w = ends.var.0 in
    let v = c.args.literal.var.0 in
    let b = c.args.literal.value in
    let sound = c.order-order.ensures.sound in
    let e = c.in-Some.ensures.ends in
    let below = c.in_default-known.ensures.above in
    let f : Function = fixed (value_at s n) v b in
    let free' = free s sound n w ends.low.0 ends.high.0 e v b c.requires.held c.requires.variable below in
    let m = c.restrict.new.kernel in
    let keeps = c.in_ok-low.ensures.keeps in
    let gain = c.in_ok-low.ensures.gained in
    let is_low = c.in_ok-low.ensures.value ∙ half-value s sound n w ends.low.0 ends.high.0 e v b c.requires.held c.requires.variable below false in
    let after = after-value s sound n w ends.low.0 ends.high.0 e v b c.requires.held c.requires.variable below true m keeps (live_gained gain) in
    let u = c.restrict-2.new.kernel in
    let keeps' = c.in-Ok.ensures.keeps in
    let gain' = c.in-Ok.ensures.gained in
    let is_high = c.in-Ok.ensures.value ∙ after in
    node-held s m u sound n c.requires.held keeps gain keeps' gain'

pub join-requires-clause-above_low : goal.join-requires-clause-above_low
join-requires-clause-above_low t c =
    let s = c.args.kernel.now in
    let n = c.args.node.0 in
    let ends = c.in-Some.ends in
    let w = ends.var.0 in
    let v = c.args.literal.var.0 in
    let b = c.args.literal.value in
    let sound = c.order-order.ensures.sound in
    let e = c.in-Some.ensures.ends in
    let below = c.in_default-known.ensures.above in
    let f : Function = fixed (value_at s n) v b in
    let free' = free s sound n w ends.low.0 ends.high.0 e v b c.requires.held c.requires.variable below in
    let m = c.restrict.new.kernel in
    let keeps = c.in_ok-low.ensures.keeps in
    let gain = c.in_ok-low.ensures.gained in
    let is_low = c.in_ok-low.ensures.value ∙ half-value s sound n w ends.low.0 ends.high.0 e v b c.requires.held c.requires.variable below false in
    let after = after-value s sound n w ends.low.0 ends.high.0 e v b c.requires.held c.requires.variable below true m keeps (live_gained gain) in
    let u = c.restrict-2.new.kernel in
    let keeps' = c.in-Ok.ensures.keeps in
    let gain' = c.in-Ok.ensures.gained in
    let is_high = c.in-Ok.ensures.value ∙ after in
    above-low s m u f w c.in_ok-low.low c.in-Ok.high sound e.variable free' keeps gain is_low keeps' gain' is_high

pub join-requires-clause-above_high : goal.join-requires-clause-above_high
join-requires-clause-above_high t c =
    let s = c.args.kernel.now in
    let n = c.args.node.0 in
    let ends = c.in-Some.ends in
    let w = ends.var.0 in
    let v = c.args.literal.var.0 in
    let b = c.args.literal.value in
    let sound = c.order-order.ensures.sound in
    let e = c.in-Some.ensures.ends in
    let below = c.in_default-known.ensures.above in
    let f : Function = fixed (value_at s n) v b in
    let free' = free s sound n w ends.low.0 ends.high.0 e v b c.requires.held c.requires.variable below in
    let m = c.restrict.new.kernel in
    let keeps = c.in_ok-low.ensures.keeps in
    let gain = c.in_ok-low.ensures.gained in
    let is_low = c.in_ok-low.ensures.value ∙ half-value s sound n w ends.low.0 ends.high.0 e v b c.requires.held c.requires.variable below false in
    let after = after-value s sound n w ends.low.0 ends.high.0 e v b c.requires.held c.requires.variable below true m keeps (live_gained gain) in
    let u = c.restrict-2.new.kernel in
    let keeps' = c.in-Ok.ensures.keeps in
    let gain' = c.in-Ok.ensures.gained in
    let is_high = c.in-Ok.ensures.value ∙ after in
    above-high s m u f w c.in_ok-low.low c.in-Ok.high sound e.variable free' keeps gain is_low keeps' gain' is_high

pub join-requires-clause-asked : goal.join-requires-clause-asked
join-requires-clause-asked t c =
    let s = c.args.kernel.now in
    let n = c.args.node.0 in
    let ends = c.in-Some.ends in
    let w = ends.var.0 in
    let v = c.args.literal.var.0 in
    let b = c.args.literal.value in
    let sound = c.order-order.ensures.sound in
    let e = c.in-Some.ensures.ends in
    let below = c.in_default-known.ensures.above in
    let f : Function = fixed (value_at s n) v b in
    let free' = free s sound n w ends.low.0 ends.high.0 e v b c.requires.held c.requires.variable below in
    let m = c.restrict.new.kernel in
    let keeps = c.in_ok-low.ensures.keeps in
    let gain = c.in_ok-low.ensures.gained in
    let is_low = c.in_ok-low.ensures.value ∙ half-value s sound n w ends.low.0 ends.high.0 e v b c.requires.held c.requires.variable below false in
    let after = after-value s sound n w ends.low.0 ends.high.0 e v b c.requires.held c.requires.variable below true m keeps (live_gained gain) in
    let u = c.restrict-2.new.kernel in
    let keeps' = c.in-Ok.ensures.keeps in
    let gain' = c.in-Ok.ensures.gained in
    let is_high = c.in-Ok.ensures.value ∙ after in
    fork-is s m u f w c.in_ok-low.low c.in-Ok.high sound e.variable free' keeps gain is_low keeps' gain' is_high ∙ sym (asked-after s m u sound n v b c.requires.held keeps gain keeps' gain')

pub returns-in-Ok-clause-value : goal.returns-in-Ok-clause-value
returns-in-Ok-clause-value t c =
    let s = c.args.kernel.now in
    let n = c.args.node.0 in
    let ends = c.in-Some.ends in
    let w = ends.var.0 in
    let v = c.args.literal.var.0 in
    let b = c.args.literal.value in
    let sound = c.order-order.ensures.sound in
    let e = c.in-Some.ensures.ends in
    let below = c.in_default-known.ensures.above in
    let f : Function = fixed (value_at s n) v b in
    let free' = free s sound n w ends.low.0 ends.high.0 e v b c.requires.held c.requires.variable below in
    let m = c.restrict.new.kernel in
    let keeps = c.in_ok-low.ensures.keeps in
    let gain = c.in_ok-low.ensures.gained in
    let is_low = c.in_ok-low.ensures.value ∙ half-value s sound n w ends.low.0 ends.high.0 e v b c.requires.held c.requires.variable below false in
    let after = after-value s sound n w ends.low.0 ends.high.0 e v b c.requires.held c.requires.variable below true m keeps (live_gained gain) in
    let u = c.restrict-2.new.kernel in
    let keeps' = c.in-Ok.ensures.keeps in
    let gain' = c.in-Ok.ensures.gained in
    let is_high = c.in-Ok.ensures.value ∙ after in
    joined-value s m u f w c.in_ok-low.low c.in-Ok.high sound e.variable free' keeps gain is_low keeps' gain' is_high c.join.new.kernel c.join.result c.join.ensures.value

pub returns-in-Ok-clause-gained : goal.returns-in-Ok-clause-gained
returns-in-Ok-clause-gained t c =
    let s = c.args.kernel.now in
    let n = c.args.node.0 in
    let ends = c.in-Some.ends in
    let w = ends.var.0 in
    let v = c.args.literal.var.0 in
    let b = c.args.literal.value in
    let sound = c.order-order.ensures.sound in
    let e = c.in-Some.ensures.ends in
    let below = c.in_default-known.ensures.above in
    let f : Function = fixed (value_at s n) v b in
    let free' = free s sound n w ends.low.0 ends.high.0 e v b c.requires.held c.requires.variable below in
    let m = c.restrict.new.kernel in
    let keeps = c.in_ok-low.ensures.keeps in
    let gain = c.in_ok-low.ensures.gained in
    let is_low = c.in_ok-low.ensures.value ∙ half-value s sound n w ends.low.0 ends.high.0 e v b c.requires.held c.requires.variable below false in
    let after = after-value s sound n w ends.low.0 ends.high.0 e v b c.requires.held c.requires.variable below true m keeps (live_gained gain) in
    let u = c.restrict-2.new.kernel in
    let keeps' = c.in-Ok.ensures.keeps in
    let gain' = c.in-Ok.ensures.gained in
    let is_high = c.in-Ok.ensures.value ∙ after in
    joined-gain s m u f w c.in_ok-low.low c.in-Ok.high sound e.variable free' keeps gain is_low keeps' gain' is_high c.join.new.kernel c.join.result c.join.ensures.traded

pub returns-in-Ok-clause-refused : goal.returns-in-Ok-clause-refused
returns-in-Ok-clause-refused t c =
    let s = c.args.kernel.now in
    let n = c.args.node.0 in
    let ends = c.in-Some.ends in
    let w = ends.var.0 in
    let v = c.args.literal.var.0 in
    let b = c.args.literal.value in
    let sound = c.order-order.ensures.sound in
    let e = c.in-Some.ensures.ends in
    let below = c.in_default-known.ensures.above in
    let f : Function = fixed (value_at s n) v b in
    let free' = free s sound n w ends.low.0 ends.high.0 e v b c.requires.held c.requires.variable below in
    let m = c.restrict.new.kernel in
    let keeps = c.in_ok-low.ensures.keeps in
    let gain = c.in_ok-low.ensures.gained in
    let is_low = c.in_ok-low.ensures.value ∙ half-value s sound n w ends.low.0 ends.high.0 e v b c.requires.held c.requires.variable below false in
    let after = after-value s sound n w ends.low.0 ends.high.0 e v b c.requires.held c.requires.variable below true m keeps (live_gained gain) in
    let u = c.restrict-2.new.kernel in
    let keeps' = c.in-Ok.ensures.keeps in
    let gain' = c.in-Ok.ensures.gained in
    let is_high = c.in-Ok.ensures.value ∙ after in
    joined-keeps-handles s m u f w c.in_ok-low.low c.in-Ok.high sound e.variable free' keeps gain is_low keeps' gain' is_high c.join.new.kernel c.join.result c.join.ensures.lost

pub returns-in-Ok-clause-keeps : goal.returns-in-Ok-clause-keeps
returns-in-Ok-clause-keeps t c =
    let s = c.args.kernel.now in
    let n = c.args.node.0 in
    let ends = c.in-Some.ends in
    let w = ends.var.0 in
    let v = c.args.literal.var.0 in
    let b = c.args.literal.value in
    let sound = c.order-order.ensures.sound in
    let e = c.in-Some.ensures.ends in
    let below = c.in_default-known.ensures.above in
    let f : Function = fixed (value_at s n) v b in
    let free' = free s sound n w ends.low.0 ends.high.0 e v b c.requires.held c.requires.variable below in
    let m = c.restrict.new.kernel in
    let keeps = c.in_ok-low.ensures.keeps in
    let gain = c.in_ok-low.ensures.gained in
    let is_low = c.in_ok-low.ensures.value ∙ half-value s sound n w ends.low.0 ends.high.0 e v b c.requires.held c.requires.variable below false in
    let after = after-value s sound n w ends.low.0 ends.high.0 e v b c.requires.held c.requires.variable below true m keeps (live_gained gain) in
    let u = c.restrict-2.new.kernel in
    let keeps' = c.in-Ok.ensures.keeps in
    let gain' = c.in-Ok.ensures.gained in
    let is_high = c.in-Ok.ensures.value ∙ after in
    joined-keeps s m u f w c.in_ok-low.low c.in-Ok.high sound e.variable free' keeps gain is_low keeps' gain' is_high c.join.new.kernel c.join.ensures.keeps

pub returns-in-Ok-clause-cause : goal.returns-in-Ok-clause-cause
returns-in-Ok-clause-cause t c =
    let s = c.args.kernel.now in
    let n = c.args.node.0 in
    let ends = c.in-Some.ends in
    let w = ends.var.0 in
    let v = c.args.literal.var.0 in
    let b = c.args.literal.value in
    let sound = c.order-order.ensures.sound in
    let e = c.in-Some.ensures.ends in
    let below = c.in_default-known.ensures.above in
    let f : Function = fixed (value_at s n) v b in
    let free' = free s sound n w ends.low.0 ends.high.0 e v b c.requires.held c.requires.variable below in
    let m = c.restrict.new.kernel in
    let keeps = c.in_ok-low.ensures.keeps in
    let gain = c.in_ok-low.ensures.gained in
    let is_low = c.in_ok-low.ensures.value ∙ half-value s sound n w ends.low.0 ends.high.0 e v b c.requires.held c.requires.variable below false in
    let after = after-value s sound n w ends.low.0 ends.high.0 e v b c.requires.held c.requires.variable below true m keeps (live_gained gain) in
    let u = c.restrict-2.new.kernel in
    let keeps' = c.in-Ok.ensures.keeps in
    let gain' = c.in-Ok.ensures.gained in
    let is_high = c.in-Ok.ensures.value ∙ after in
    joined-cause s m u f w c.in_ok-low.low c.in-Ok.high sound e.variable free' keeps gain is_low keeps' gain' is_high c.join.new.kernel (2 * (length s.order - top_of s n + 1)) c.join.result (omega arith) c.join.ensures.cause

pub returns-in-Err-clause-keeps : goal.returns-in-Err-clause-keeps
returns-in-Err-clause-keeps t c =
    given-up-keeps c.args.kernel.now c.restrict.new.kernel c.restrict-2.new.kernel c.release.new.self c.in_ok-low.low
    c.in_ok-low.ensures.keeps c.in_ok-low.ensures.gained c.in-Err.ensures.keeps c.in-Err.ensures.refused c.release.ensures.grows.keeps

pub returns-in-Err-clause-cause : goal.returns-in-Err-clause-cause
returns-in-Err-clause-cause t c =
    let s = c.args.kernel.now in
    let n = c.args.node.0 in
    let ends = c.in-Some.ends in
    let w = ends.var.0 in
    let v = c.args.literal.var.0 in
    let b = c.args.literal.value in
    let sound = c.order-order.ensures.sound in
    let e = c.in-Some.ensures.ends in
    let below = c.in_default-known.ensures.above in
    let f : Function = fixed (value_at s n) v b in
    let free' = free s sound n w ends.low.0 ends.high.0 e v b c.requires.held c.requires.variable below in
    let m = c.restrict.new.kernel in
    let keeps = c.in_ok-low.ensures.keeps in
    let gain = c.in_ok-low.ensures.gained in
    let is_low = c.in_ok-low.ensures.value ∙ half-value s sound n w ends.low.0 ends.high.0 e v b c.requires.held c.requires.variable below false in
    let after = after-value s sound n w ends.low.0 ends.high.0 e v b c.requires.held c.requires.variable below true m keeps (live_gained gain) in
    let u = c.restrict-2.new.kernel in
    let less = after-fewer s sound n w ends.low.0 ends.high.0 e v b c.requires.held c.requires.variable below true m keeps (live_gained gain) in
    cause-second s m u f w c.in_ok-low.low 0 sound e.variable free' keeps gain is_low c.release.new.self
    (fixed (value_at m ends.high.0) v b) (2 * (length m.order - top_of m ends.high.0 + 1)) (2 * (length s.order - top_of s n + 1)) c.in-Err.refusal after
    (more (length m.order - top_of m ends.high.0) (length s.order - top_of s n) less) c.release.ensures.grows c.in-Err.ensures.cause
