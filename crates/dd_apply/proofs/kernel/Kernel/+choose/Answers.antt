-- The nodes are split past the highest one's variable, and the halves' results joined.
use Rattle.std.proofs.Common.{◌≡◌, ◌∙◌, ℕ, ◌<◌, ◌≤◌, ◌+◌, ◌*◌, true, false, min, length, inl, inr, ap, subst, sym, arith}
use Rattle.std.specs.List.{Contains}
use Rattle.std.proofs.lemmas.Result.{err_from_is_err_and}
use Rattle.dd_store.specs.declared.row.NodeNo.{NodeNo}
use Rattle.dd_apply.proofs.MadeLemmas.{stays-part}
use Rattle.dd_apply.specs.Made.{StaysUnlessFull}
use Rattle.dd_store.specs.Exhausted.{value_at}
use Rattle.dd_store.specs.Follow.{IsThere}
use Rattle.dd_store.specs.Size.{Function, cofactors, fixed}
use Rattle.dd_store.specs.Table.{Table, row_of, top_of, level_of}
use Rattle.dd_store.proofs.ChangeLemmas.{keeps_then}
use Rattle.dd_store.proofs.CofactorLemmas.{fixed-cofactor}
use Rattle.dd_store.proofs.CountLemmas.{live_gained}
use Rattle.dd_apply.specs.Split.{fork}
use Rattle.dd_apply.specs.Truth.{chosen}
use Rattle.dd_apply.proofs.HeldLemmas.{held-there}
use Rattle.dd_apply.proofs.RoomLemmas.{cause-part}
use Rattle.dd_apply.proofs.StepLemmas.{cause-second, above-low, above-high, fork-is, joined-value, joined-gain, joined-keeps-handles, joined-keeps, joined-cause, joined-stays, given-up-keeps, given-up-stays}
use Rattle.dd_apply.proofs.ChooseLemmas.{levels3, some-node, free3, held-halves3, fewer3, half-value3, held-after3, fewer-after3, value-after3, asked-after3}
use Rattle.dd_apply.proofs.kernel.Kernel.+choose.Goals as goal

top-is : (s : Table) (v n l c a b : ℕ) → level_of s v ≡ top_of s n → top_of s n ≡ min (top_of s c) (top_of s l) → top_of s l ≡ min (top_of s a) (top_of s b)
    → level_of s v ≡ min (top_of s c) (min (top_of s a) (top_of s b))
top-is s v n l c a b one two three = one ∙ two ∙ ap (λ (k : ℕ). min (top_of s c) k) three

more : (t u : ℕ) → t < u → 2 * (t + 1) + 1 ≤ 2 * (u + 1)
more t u less = omega arith

pub returns-in-Some-clause-value : goal.returns-in-Some-clause-value
returns-in-Some-clause-value t c = (λ j a. c.in_ok-hold_known.ensures.value a j) ∙ c.in-Some.ensures.right.4

pub higher-lower-requires-clause-a_there : goal.higher-lower-requires-clause-a_there
higher-lower-requires-clause-a_there t c =
    held-there c.args.self.now c.order-order.ensures.sound c.args.a.0 c.requires.a_held

pub higher-lower-requires-clause-b_there : goal.higher-lower-requires-clause-b_there
higher-lower-requires-clause-b_there t c =
    held-there c.args.self.now c.order-order.ensures.sound c.args.b.0 c.requires.b_held

pub higher-requires-clause-a_there : goal.higher-requires-clause-a_there
higher-requires-clause-a_there t c =
    held-there c.args.self.now c.order-order.ensures.sound c.args.c.0 c.requires.c_held

pub higher-requires-clause-b_there : goal.higher-requires-clause-b_there
higher-requires-clause-b_there t c =
    elim c.higher-lower.ensures.one [
      | inl same ↦ subst (λ (n : NodeNo). IsThere (row_of c.args.self.now) n.0) (sym same) (held-there c.args.self.now c.order-order.ensures.sound c.args.a.0 c.requires.a_held)
      | inr same ↦ subst (λ (n : NodeNo). IsThere (row_of c.args.self.now) n.0) (sym same) (held-there c.args.self.now c.order-order.ensures.sound c.args.b.0 c.requires.b_held)
    ]

pub tested-var-requires-clause-there : goal.tested-var-requires-clause-there
tested-var-requires-clause-there t c =
    elim c.higher.ensures.one [
      | inl same ↦ subst (λ (n : NodeNo). IsThere (row_of c.args.self.now) n.0) (sym same) (held-there c.args.self.now c.order-order.ensures.sound c.args.c.0 c.requires.c_held)
      | inr same ↦ subst (λ (n : NodeNo). IsThere (row_of c.args.self.now) n.0) (sym same) (elim c.higher-lower.ensures.one [ inl at ↦ subst (λ (n : NodeNo). IsThere (row_of c.args.self.now) n.0) (sym at) (held-there c.args.self.now c.order-order.ensures.sound c.args.a.0 c.requires.a_held) | inr at ↦ subst (λ (n : NodeNo). IsThere (row_of c.args.self.now) n.0) (sym at) (held-there c.args.self.now c.order-order.ensures.sound c.args.b.0 c.requires.b_held) ])
    ]

pub tested-var-requires-clause-no_constant : goal.tested-var-requires-clause-no_constant
tested-var-requires-clause-no_constant t c =
    let less = some-node c.args.self.now c.order-order.ensures.sound c.args.c.0 c.args.a.0 c.args.b.0 c.requires.c_held c.in_default.ensures.node in
    subst (λ (n : ℕ). n < length c.args.self.now.order) (sym (c.higher.ensures.top ∙ ap (λ (k : ℕ). min (top_of c.args.self.now c.args.c.0) k) c.higher-lower.ensures.top)) less

pub past-requires : goal.past-requires
past-requires t c =
    held-there c.args.self.now c.order-order.ensures.sound c.args.c.0 c.requires.c_held

pub past-requires-2 : goal.past-requires-2
past-requires-2 t c =
    held-there c.args.self.now c.order-order.ensures.sound c.args.a.0 c.requires.a_held

pub past-requires-3 : goal.past-requires-3
past-requires-3 t c =
    held-there c.args.self.now c.order-order.ensures.sound c.args.b.0 c.requires.b_held

pub choose-requires : goal.choose-requires
choose-requires t c =
    let s = c.args.self.now in
    let v = c.tested-var.result.0 in
    let sound = c.order-order.ensures.sound in
    let inside = c.tested-var.ensures.variable in
    let top = top-is s v c.higher.result.0 c.higher-lower.result.0 c.args.c.0 c.args.a.0 c.args.b.0 c.tested-var.ensures.top c.higher.ensures.top c.higher-lower.ensures.top in
    let less = fewer3 s sound c.args.c.0 c.args.a.0 c.args.b.0 v c.requires.c_held c.requires.a_held c.requires.b_held inside top false c.past.result.0.0 c.past-2.result.0.0 c.past-3.result.0.0 c.past.ensures.low c.past-2.ensures.low c.past-3.ensures.low in
    let held = held-halves3 s sound c.args.c.0 c.args.a.0 c.args.b.0 v c.requires.c_held c.requires.a_held c.requires.b_held inside top false c.past.result.0.0 c.past-2.result.0.0 c.past-3.result.0.0 c.past.ensures.low c.past-2.ensures.low c.past-3.ensures.low in
    (omega arith, (held.0, (held.1, held.2)))

pub returns-in_err-low-clause-cause : goal.returns-in_err-low-clause-cause
returns-in_err-low-clause-cause t c =
    let s = c.args.self.now in
    let v = c.tested-var.result.0 in
    let sound = c.order-order.ensures.sound in
    let inside = c.tested-var.ensures.variable in
    let top = top-is s v c.higher.result.0 c.higher-lower.result.0 c.args.c.0 c.args.a.0 c.args.b.0 c.tested-var.ensures.top c.higher.ensures.top c.higher-lower.ensures.top in
    let p = err_from_is_err_and c.from_residual-in_err-low.result c.from_residual-in_err-low.ensures.1 in
    let f : Function = chosen (value_at s c.args.c.0) (value_at s c.args.a.0) (value_at s c.args.b.0) in
    let less = fewer3 s sound c.args.c.0 c.args.a.0 c.args.b.0 v c.requires.c_held c.requires.a_held c.requires.b_held inside top false c.past.result.0.0 c.past-2.result.0.0 c.past-3.result.0.0 c.past.ensures.low c.past-2.ensures.low c.past-3.ensures.low in
    let is = half-value3 s sound c.args.c.0 c.args.a.0 c.args.b.0 v c.requires.c_held c.requires.a_held c.requires.b_held inside top false c.past.result.0.0 c.past-2.result.0.0 c.past-3.result.0.0 c.past.ensures.low c.past-2.ensures.low c.past-3.ensures.low in
    let free' = free3 s sound c.args.c.0 c.args.a.0 c.args.b.0 v c.requires.c_held c.requires.a_held c.requires.b_held inside top in
    rw (p.1, p.2)
    (cause-part s c.choose.new.self f (chosen (value_at s c.past.result.0.0) (value_at s c.past-2.result.0.0) (value_at s c.past-3.result.0.0))
    (2 * (levels3 s c.past.result.0.0 c.past-2.result.0.0 c.past-3.result.0.0 + 1)) (2 * (levels3 s c.args.c.0 c.args.a.0 c.args.b.0 + 1)) c.in_err-low.field-0.0
    (subst (λ (g : Function). Contains (cofactors s.order f) g) (sym is) (fixed-cofactor s.order f v false inside free')) (omega arith) c.in_err-low.ensures.cause)

pub choose-requires-2 : goal.choose-requires-2
choose-requires-2 t c =
    let s = c.args.self.now in
    let v = c.tested-var.result.0 in
    let sound = c.order-order.ensures.sound in
    let inside = c.tested-var.ensures.variable in
    let top = top-is s v c.higher.result.0 c.higher-lower.result.0 c.args.c.0 c.args.a.0 c.args.b.0 c.tested-var.ensures.top c.higher.ensures.top c.higher-lower.ensures.top in
    let m = c.choose.new.self in
    let keeps = c.in_ok-low.ensures.keeps in
    let gain = c.in_ok-low.ensures.gained in
    let less = fewer-after3 s sound c.args.c.0 c.args.a.0 c.args.b.0 v c.requires.c_held c.requires.a_held c.requires.b_held inside top true c.past.result.1.0 c.past-2.result.1.0 c.past-3.result.1.0 c.past.ensures.high c.past-2.ensures.high c.past-3.ensures.high m keeps (live_gained gain) in
    let held = held-after3 s sound c.args.c.0 c.args.a.0 c.args.b.0 v c.requires.c_held c.requires.a_held c.requires.b_held inside top true c.past.result.1.0 c.past-2.result.1.0 c.past-3.result.1.0 c.past.ensures.high c.past-2.ensures.high c.past-3.ensures.high m keeps (live_gained gain) in
    (omega arith, (held.0, (held.1, held.2)))

pub join-requires-clause-above_low : goal.join-requires-clause-above_low
join-requires-clause-above_low t c =
    let s = c.args.self.now in
    let v = c.tested-var.result.0 in
    let sound = c.order-order.ensures.sound in
    let inside = c.tested-var.ensures.variable in
    let top = top-is s v c.higher.result.0 c.higher-lower.result.0 c.args.c.0 c.args.a.0 c.args.b.0 c.tested-var.ensures.top c.higher.ensures.top c.higher-lower.ensures.top in
    let m = c.choose.new.self in
    let u = c.choose-2.new.self in
    let f : Function = chosen (value_at s c.args.c.0) (value_at s c.args.a.0) (value_at s c.args.b.0) in
    let free' = free3 s sound c.args.c.0 c.args.a.0 c.args.b.0 v c.requires.c_held c.requires.a_held c.requires.b_held inside top in
    let keeps = c.in_ok-low.ensures.keeps in
    let gain = c.in_ok-low.ensures.gained in
    let is_low = c.in_ok-low.ensures.value ∙ half-value3 s sound c.args.c.0 c.args.a.0 c.args.b.0 v c.requires.c_held c.requires.a_held c.requires.b_held inside top false c.past.result.0.0 c.past-2.result.0.0 c.past-3.result.0.0 c.past.ensures.low c.past-2.ensures.low c.past-3.ensures.low in
    let after = value-after3 s sound c.args.c.0 c.args.a.0 c.args.b.0 v c.requires.c_held c.requires.a_held c.requires.b_held inside top true c.past.result.1.0 c.past-2.result.1.0 c.past-3.result.1.0 c.past.ensures.high c.past-2.ensures.high c.past-3.ensures.high m keeps (live_gained gain) in
    let keeps' = c.in-Ok.ensures.keeps in
    let gain' = c.in-Ok.ensures.gained in
    let is_high = c.in-Ok.ensures.value ∙ after in
    above-low s m u f v c.in_ok-low.low c.in-Ok.high sound inside free' keeps gain is_low keeps' gain' is_high

pub join-requires-clause-above_high : goal.join-requires-clause-above_high
join-requires-clause-above_high t c =
    let s = c.args.self.now in
    let v = c.tested-var.result.0 in
    let sound = c.order-order.ensures.sound in
    let inside = c.tested-var.ensures.variable in
    let top = top-is s v c.higher.result.0 c.higher-lower.result.0 c.args.c.0 c.args.a.0 c.args.b.0 c.tested-var.ensures.top c.higher.ensures.top c.higher-lower.ensures.top in
    let m = c.choose.new.self in
    let u = c.choose-2.new.self in
    let f : Function = chosen (value_at s c.args.c.0) (value_at s c.args.a.0) (value_at s c.args.b.0) in
    let free' = free3 s sound c.args.c.0 c.args.a.0 c.args.b.0 v c.requires.c_held c.requires.a_held c.requires.b_held inside top in
    let keeps = c.in_ok-low.ensures.keeps in
    let gain = c.in_ok-low.ensures.gained in
    let is_low = c.in_ok-low.ensures.value ∙ half-value3 s sound c.args.c.0 c.args.a.0 c.args.b.0 v c.requires.c_held c.requires.a_held c.requires.b_held inside top false c.past.result.0.0 c.past-2.result.0.0 c.past-3.result.0.0 c.past.ensures.low c.past-2.ensures.low c.past-3.ensures.low in
    let after = value-after3 s sound c.args.c.0 c.args.a.0 c.args.b.0 v c.requires.c_held c.requires.a_held c.requires.b_held inside top true c.past.result.1.0 c.past-2.result.1.0 c.past-3.result.1.0 c.past.ensures.high c.past-2.ensures.high c.past-3.ensures.high m keeps (live_gained gain) in
    let keeps' = c.in-Ok.ensures.keeps in
    let gain' = c.in-Ok.ensures.gained in
    let is_high = c.in-Ok.ensures.value ∙ after in
    above-high s m u f v c.in_ok-low.low c.in-Ok.high sound inside free' keeps gain is_low keeps' gain' is_high

pub join-requires-clause-asked : goal.join-requires-clause-asked
join-requires-clause-asked t c =
    let s = c.args.self.now in
    let v = c.tested-var.result.0 in
    let sound = c.order-order.ensures.sound in
    let inside = c.tested-var.ensures.variable in
    let top = top-is s v c.higher.result.0 c.higher-lower.result.0 c.args.c.0 c.args.a.0 c.args.b.0 c.tested-var.ensures.top c.higher.ensures.top c.higher-lower.ensures.top in
    let m = c.choose.new.self in
    let u = c.choose-2.new.self in
    let f : Function = chosen (value_at s c.args.c.0) (value_at s c.args.a.0) (value_at s c.args.b.0) in
    let free' = free3 s sound c.args.c.0 c.args.a.0 c.args.b.0 v c.requires.c_held c.requires.a_held c.requires.b_held inside top in
    let keeps = c.in_ok-low.ensures.keeps in
    let gain = c.in_ok-low.ensures.gained in
    let is_low = c.in_ok-low.ensures.value ∙ half-value3 s sound c.args.c.0 c.args.a.0 c.args.b.0 v c.requires.c_held c.requires.a_held c.requires.b_held inside top false c.past.result.0.0 c.past-2.result.0.0 c.past-3.result.0.0 c.past.ensures.low c.past-2.ensures.low c.past-3.ensures.low in
    let after = value-after3 s sound c.args.c.0 c.args.a.0 c.args.b.0 v c.requires.c_held c.requires.a_held c.requires.b_held inside top true c.past.result.1.0 c.past-2.result.1.0 c.past-3.result.1.0 c.past.ensures.high c.past-2.ensures.high c.past-3.ensures.high m keeps (live_gained gain) in
    let keeps' = c.in-Ok.ensures.keeps in
    let gain' = c.in-Ok.ensures.gained in
    let is_high = c.in-Ok.ensures.value ∙ after in
    asked-after3 s u c.args.c.0 c.args.a.0 c.args.b.0 (fork v (value_at u c.in_ok-low.low) (value_at u c.in-Ok.high)) sound
    (keeps_then keeps keeps' (λ n first end. live_gained gain n first)) (λ n first. live_gained gain' n (live_gained gain n first))
    c.requires.c_held c.requires.a_held c.requires.b_held (fork-is s m u f v c.in_ok-low.low c.in-Ok.high sound inside free' keeps gain is_low keeps' gain' is_high)

pub returns-in-Ok-clause-value : goal.returns-in-Ok-clause-value
returns-in-Ok-clause-value t c =
    let s = c.args.self.now in
    let v = c.tested-var.result.0 in
    let sound = c.order-order.ensures.sound in
    let inside = c.tested-var.ensures.variable in
    let top = top-is s v c.higher.result.0 c.higher-lower.result.0 c.args.c.0 c.args.a.0 c.args.b.0 c.tested-var.ensures.top c.higher.ensures.top c.higher-lower.ensures.top in
    let m = c.choose.new.self in
    let u = c.choose-2.new.self in
    let f : Function = chosen (value_at s c.args.c.0) (value_at s c.args.a.0) (value_at s c.args.b.0) in
    let free' = free3 s sound c.args.c.0 c.args.a.0 c.args.b.0 v c.requires.c_held c.requires.a_held c.requires.b_held inside top in
    let keeps = c.in_ok-low.ensures.keeps in
    let gain = c.in_ok-low.ensures.gained in
    let is_low = c.in_ok-low.ensures.value ∙ half-value3 s sound c.args.c.0 c.args.a.0 c.args.b.0 v c.requires.c_held c.requires.a_held c.requires.b_held inside top false c.past.result.0.0 c.past-2.result.0.0 c.past-3.result.0.0 c.past.ensures.low c.past-2.ensures.low c.past-3.ensures.low in
    let after = value-after3 s sound c.args.c.0 c.args.a.0 c.args.b.0 v c.requires.c_held c.requires.a_held c.requires.b_held inside top true c.past.result.1.0 c.past-2.result.1.0 c.past-3.result.1.0 c.past.ensures.high c.past-2.ensures.high c.past-3.ensures.high m keeps (live_gained gain) in
    let keeps' = c.in-Ok.ensures.keeps in
    let gain' = c.in-Ok.ensures.gained in
    let is_high = c.in-Ok.ensures.value ∙ after in
    joined-value s m u f v c.in_ok-low.low c.in-Ok.high sound inside free' keeps gain is_low keeps' gain' is_high c.join.new.self c.join.result c.join.ensures.value

pub returns-in-Ok-clause-gained : goal.returns-in-Ok-clause-gained
returns-in-Ok-clause-gained t c =
    let s = c.args.self.now in
    let v = c.tested-var.result.0 in
    let sound = c.order-order.ensures.sound in
    let inside = c.tested-var.ensures.variable in
    let top = top-is s v c.higher.result.0 c.higher-lower.result.0 c.args.c.0 c.args.a.0 c.args.b.0 c.tested-var.ensures.top c.higher.ensures.top c.higher-lower.ensures.top in
    let m = c.choose.new.self in
    let u = c.choose-2.new.self in
    let f : Function = chosen (value_at s c.args.c.0) (value_at s c.args.a.0) (value_at s c.args.b.0) in
    let free' = free3 s sound c.args.c.0 c.args.a.0 c.args.b.0 v c.requires.c_held c.requires.a_held c.requires.b_held inside top in
    let keeps = c.in_ok-low.ensures.keeps in
    let gain = c.in_ok-low.ensures.gained in
    let is_low = c.in_ok-low.ensures.value ∙ half-value3 s sound c.args.c.0 c.args.a.0 c.args.b.0 v c.requires.c_held c.requires.a_held c.requires.b_held inside top false c.past.result.0.0 c.past-2.result.0.0 c.past-3.result.0.0 c.past.ensures.low c.past-2.ensures.low c.past-3.ensures.low in
    let after = value-after3 s sound c.args.c.0 c.args.a.0 c.args.b.0 v c.requires.c_held c.requires.a_held c.requires.b_held inside top true c.past.result.1.0 c.past-2.result.1.0 c.past-3.result.1.0 c.past.ensures.high c.past-2.ensures.high c.past-3.ensures.high m keeps (live_gained gain) in
    let keeps' = c.in-Ok.ensures.keeps in
    let gain' = c.in-Ok.ensures.gained in
    let is_high = c.in-Ok.ensures.value ∙ after in
    joined-gain s m u f v c.in_ok-low.low c.in-Ok.high sound inside free' keeps gain is_low keeps' gain' is_high c.join.new.self c.join.result c.join.ensures.traded

pub returns-in-Ok-clause-refused : goal.returns-in-Ok-clause-refused
returns-in-Ok-clause-refused t c =
    let s = c.args.self.now in
    let v = c.tested-var.result.0 in
    let sound = c.order-order.ensures.sound in
    let inside = c.tested-var.ensures.variable in
    let top = top-is s v c.higher.result.0 c.higher-lower.result.0 c.args.c.0 c.args.a.0 c.args.b.0 c.tested-var.ensures.top c.higher.ensures.top c.higher-lower.ensures.top in
    let m = c.choose.new.self in
    let u = c.choose-2.new.self in
    let f : Function = chosen (value_at s c.args.c.0) (value_at s c.args.a.0) (value_at s c.args.b.0) in
    let free' = free3 s sound c.args.c.0 c.args.a.0 c.args.b.0 v c.requires.c_held c.requires.a_held c.requires.b_held inside top in
    let keeps = c.in_ok-low.ensures.keeps in
    let gain = c.in_ok-low.ensures.gained in
    let is_low = c.in_ok-low.ensures.value ∙ half-value3 s sound c.args.c.0 c.args.a.0 c.args.b.0 v c.requires.c_held c.requires.a_held c.requires.b_held inside top false c.past.result.0.0 c.past-2.result.0.0 c.past-3.result.0.0 c.past.ensures.low c.past-2.ensures.low c.past-3.ensures.low in
    let after = value-after3 s sound c.args.c.0 c.args.a.0 c.args.b.0 v c.requires.c_held c.requires.a_held c.requires.b_held inside top true c.past.result.1.0 c.past-2.result.1.0 c.past-3.result.1.0 c.past.ensures.high c.past-2.ensures.high c.past-3.ensures.high m keeps (live_gained gain) in
    let keeps' = c.in-Ok.ensures.keeps in
    let gain' = c.in-Ok.ensures.gained in
    let is_high = c.in-Ok.ensures.value ∙ after in
    joined-keeps-handles s m u f v c.in_ok-low.low c.in-Ok.high sound inside free' keeps gain is_low keeps' gain' is_high c.join.new.self c.join.result c.join.ensures.lost

pub returns-in-Ok-clause-keeps : goal.returns-in-Ok-clause-keeps
returns-in-Ok-clause-keeps t c =
    let s = c.args.self.now in
    let v = c.tested-var.result.0 in
    let sound = c.order-order.ensures.sound in
    let inside = c.tested-var.ensures.variable in
    let top = top-is s v c.higher.result.0 c.higher-lower.result.0 c.args.c.0 c.args.a.0 c.args.b.0 c.tested-var.ensures.top c.higher.ensures.top c.higher-lower.ensures.top in
    let m = c.choose.new.self in
    let u = c.choose-2.new.self in
    let f : Function = chosen (value_at s c.args.c.0) (value_at s c.args.a.0) (value_at s c.args.b.0) in
    let free' = free3 s sound c.args.c.0 c.args.a.0 c.args.b.0 v c.requires.c_held c.requires.a_held c.requires.b_held inside top in
    let keeps = c.in_ok-low.ensures.keeps in
    let gain = c.in_ok-low.ensures.gained in
    let is_low = c.in_ok-low.ensures.value ∙ half-value3 s sound c.args.c.0 c.args.a.0 c.args.b.0 v c.requires.c_held c.requires.a_held c.requires.b_held inside top false c.past.result.0.0 c.past-2.result.0.0 c.past-3.result.0.0 c.past.ensures.low c.past-2.ensures.low c.past-3.ensures.low in
    let after = value-after3 s sound c.args.c.0 c.args.a.0 c.args.b.0 v c.requires.c_held c.requires.a_held c.requires.b_held inside top true c.past.result.1.0 c.past-2.result.1.0 c.past-3.result.1.0 c.past.ensures.high c.past-2.ensures.high c.past-3.ensures.high m keeps (live_gained gain) in
    let keeps' = c.in-Ok.ensures.keeps in
    let gain' = c.in-Ok.ensures.gained in
    let is_high = c.in-Ok.ensures.value ∙ after in
    joined-keeps s m u f v c.in_ok-low.low c.in-Ok.high sound inside free' keeps gain is_low keeps' gain' is_high c.join.new.self c.join.ensures.keeps

pub returns-in-Ok-clause-cause : goal.returns-in-Ok-clause-cause
returns-in-Ok-clause-cause t c =
    let s = c.args.self.now in
    let v = c.tested-var.result.0 in
    let sound = c.order-order.ensures.sound in
    let inside = c.tested-var.ensures.variable in
    let top = top-is s v c.higher.result.0 c.higher-lower.result.0 c.args.c.0 c.args.a.0 c.args.b.0 c.tested-var.ensures.top c.higher.ensures.top c.higher-lower.ensures.top in
    let m = c.choose.new.self in
    let u = c.choose-2.new.self in
    let f : Function = chosen (value_at s c.args.c.0) (value_at s c.args.a.0) (value_at s c.args.b.0) in
    let free' = free3 s sound c.args.c.0 c.args.a.0 c.args.b.0 v c.requires.c_held c.requires.a_held c.requires.b_held inside top in
    let keeps = c.in_ok-low.ensures.keeps in
    let gain = c.in_ok-low.ensures.gained in
    let is_low = c.in_ok-low.ensures.value ∙ half-value3 s sound c.args.c.0 c.args.a.0 c.args.b.0 v c.requires.c_held c.requires.a_held c.requires.b_held inside top false c.past.result.0.0 c.past-2.result.0.0 c.past-3.result.0.0 c.past.ensures.low c.past-2.ensures.low c.past-3.ensures.low in
    let after = value-after3 s sound c.args.c.0 c.args.a.0 c.args.b.0 v c.requires.c_held c.requires.a_held c.requires.b_held inside top true c.past.result.1.0 c.past-2.result.1.0 c.past-3.result.1.0 c.past.ensures.high c.past-2.ensures.high c.past-3.ensures.high m keeps (live_gained gain) in
    let keeps' = c.in-Ok.ensures.keeps in
    let gain' = c.in-Ok.ensures.gained in
    let is_high = c.in-Ok.ensures.value ∙ after in
    joined-cause s m u f v c.in_ok-low.low c.in-Ok.high sound inside free' keeps gain is_low keeps' gain' is_high c.join.new.self (2 * (levels3 s c.args.c.0 c.args.a.0 c.args.b.0 + 1)) c.join.result (omega arith) c.join.ensures.cause

pub returns-in-Err-clause-keeps : goal.returns-in-Err-clause-keeps
returns-in-Err-clause-keeps t c =
    given-up-keeps c.args.self.now c.choose.new.self c.choose-2.new.self c.release.new.self c.in_ok-low.low
    c.in_ok-low.ensures.keeps c.in_ok-low.ensures.gained c.in-Err.ensures.keeps c.in-Err.ensures.refused c.release.ensures.grows.keeps

pub returns-in-Err-clause-cause : goal.returns-in-Err-clause-cause
returns-in-Err-clause-cause t c =
    let s = c.args.self.now in
    let v = c.tested-var.result.0 in
    let sound = c.order-order.ensures.sound in
    let inside = c.tested-var.ensures.variable in
    let top = top-is s v c.higher.result.0 c.higher-lower.result.0 c.args.c.0 c.args.a.0 c.args.b.0 c.tested-var.ensures.top c.higher.ensures.top c.higher-lower.ensures.top in
    let m = c.choose.new.self in
    let u = c.choose-2.new.self in
    let f : Function = chosen (value_at s c.args.c.0) (value_at s c.args.a.0) (value_at s c.args.b.0) in
    let free' = free3 s sound c.args.c.0 c.args.a.0 c.args.b.0 v c.requires.c_held c.requires.a_held c.requires.b_held inside top in
    let keeps = c.in_ok-low.ensures.keeps in
    let gain = c.in_ok-low.ensures.gained in
    let is_low = c.in_ok-low.ensures.value ∙ half-value3 s sound c.args.c.0 c.args.a.0 c.args.b.0 v c.requires.c_held c.requires.a_held c.requires.b_held inside top false c.past.result.0.0 c.past-2.result.0.0 c.past-3.result.0.0 c.past.ensures.low c.past-2.ensures.low c.past-3.ensures.low in
    let after = value-after3 s sound c.args.c.0 c.args.a.0 c.args.b.0 v c.requires.c_held c.requires.a_held c.requires.b_held inside top true c.past.result.1.0 c.past-2.result.1.0 c.past-3.result.1.0 c.past.ensures.high c.past-2.ensures.high c.past-3.ensures.high m keeps (live_gained gain) in
    let less = fewer-after3 s sound c.args.c.0 c.args.a.0 c.args.b.0 v c.requires.c_held c.requires.a_held c.requires.b_held inside top true c.past.result.1.0 c.past-2.result.1.0 c.past-3.result.1.0 c.past.ensures.high c.past-2.ensures.high c.past-3.ensures.high m keeps (live_gained gain) in
    cause-second s m u f v c.in_ok-low.low 0 sound inside free' keeps gain is_low c.release.new.self
    (chosen (value_at m c.past.result.1.0) (value_at m c.past-2.result.1.0) (value_at m c.past-3.result.1.0))
    (2 * (levels3 m c.past.result.1.0 c.past-2.result.1.0 c.past-3.result.1.0 + 1))
    (2 * (levels3 s c.args.c.0 c.args.a.0 c.args.b.0 + 1)) c.in-Err.refusal after
    (more (levels3 m c.past.result.1.0 c.past-2.result.1.0 c.past-3.result.1.0) (levels3 s c.args.c.0 c.args.a.0 c.args.b.0) less)
    c.release.ensures.grows c.in-Err.ensures.cause

pub returns-in_err-low-clause-stays : goal.returns-in_err-low-clause-stays
returns-in_err-low-clause-stays t c =
    let s = c.args.self.now in
    let v = c.tested-var.result.0 in
    let sound = c.order-order.ensures.sound in
    let inside = c.tested-var.ensures.variable in
    let top = top-is s v c.higher.result.0 c.higher-lower.result.0 c.args.c.0 c.args.a.0 c.args.b.0 c.tested-var.ensures.top c.higher.ensures.top c.higher-lower.ensures.top in
    let f : Function = chosen (value_at s c.args.c.0) (value_at s c.args.a.0) (value_at s c.args.b.0) in
    let is = half-value3 s sound c.args.c.0 c.args.a.0 c.args.b.0 v c.requires.c_held c.requires.a_held c.requires.b_held inside top false c.past.result.0.0 c.past-2.result.0.0 c.past-3.result.0.0 c.past.ensures.low c.past-2.ensures.low c.past-3.ensures.low in
    let free' = free3 s sound c.args.c.0 c.args.a.0 c.args.b.0 v c.requires.c_held c.requires.a_held c.requires.b_held inside top in
    stays-part s c.choose.new.self f (fixed f v false) c.in_err-low.ensures.keeps (fixed-cofactor s.order f v false inside free')
    (subst (λ (g : Function). StaysUnlessFull s c.choose.new.self g) is c.in_err-low.ensures.stays)

pub returns-in-Ok-clause-stays : goal.returns-in-Ok-clause-stays
returns-in-Ok-clause-stays t c =
    let s = c.args.self.now in
    let v = c.tested-var.result.0 in
    let sound = c.order-order.ensures.sound in
    let inside = c.tested-var.ensures.variable in
    let top = top-is s v c.higher.result.0 c.higher-lower.result.0 c.args.c.0 c.args.a.0 c.args.b.0 c.tested-var.ensures.top c.higher.ensures.top c.higher-lower.ensures.top in
    let m = c.choose.new.self in
    let u = c.choose-2.new.self in
    let f : Function = chosen (value_at s c.args.c.0) (value_at s c.args.a.0) (value_at s c.args.b.0) in
    let free' = free3 s sound c.args.c.0 c.args.a.0 c.args.b.0 v c.requires.c_held c.requires.a_held c.requires.b_held inside top in
    let keeps = c.in_ok-low.ensures.keeps in
    let gain = c.in_ok-low.ensures.gained in
    let is_low = c.in_ok-low.ensures.value ∙ half-value3 s sound c.args.c.0 c.args.a.0 c.args.b.0 v c.requires.c_held c.requires.a_held c.requires.b_held inside top false c.past.result.0.0 c.past-2.result.0.0 c.past-3.result.0.0 c.past.ensures.low c.past-2.ensures.low c.past-3.ensures.low in
    let after = value-after3 s sound c.args.c.0 c.args.a.0 c.args.b.0 v c.requires.c_held c.requires.a_held c.requires.b_held inside top true c.past.result.1.0 c.past-2.result.1.0 c.past-3.result.1.0 c.past.ensures.high c.past-2.ensures.high c.past-3.ensures.high m keeps (live_gained gain) in
    let keeps' = c.in-Ok.ensures.keeps in
    let gain' = c.in-Ok.ensures.gained in
    let is_high = c.in-Ok.ensures.value ∙ after in
    let one = subst (λ (g : Function). StaysUnlessFull s m g) (half-value3 s sound c.args.c.0 c.args.a.0 c.args.b.0 v c.requires.c_held c.requires.a_held c.requires.b_held inside top false c.past.result.0.0 c.past-2.result.0.0 c.past-3.result.0.0 c.past.ensures.low c.past-2.ensures.low c.past-3.ensures.low) c.in_ok-low.ensures.stays in
    let two = subst (λ (g : Function). StaysUnlessFull m u g) after c.in-Ok.ensures.stays in
    joined-stays s m u f v c.in_ok-low.low c.in-Ok.high sound inside free' keeps gain is_low keeps' gain' is_high c.join.new.self c.join.ensures.keeps one two c.join.ensures.stays

pub returns-in-Err-clause-stays : goal.returns-in-Err-clause-stays
returns-in-Err-clause-stays t c =
    let s = c.args.self.now in
    let v = c.tested-var.result.0 in
    let sound = c.order-order.ensures.sound in
    let inside = c.tested-var.ensures.variable in
    let top = top-is s v c.higher.result.0 c.higher-lower.result.0 c.args.c.0 c.args.a.0 c.args.b.0 c.tested-var.ensures.top c.higher.ensures.top c.higher-lower.ensures.top in
    let m = c.choose.new.self in
    let u = c.choose-2.new.self in
    let f : Function = chosen (value_at s c.args.c.0) (value_at s c.args.a.0) (value_at s c.args.b.0) in
    let free' = free3 s sound c.args.c.0 c.args.a.0 c.args.b.0 v c.requires.c_held c.requires.a_held c.requires.b_held inside top in
    let keeps = c.in_ok-low.ensures.keeps in
    let gain = c.in_ok-low.ensures.gained in
    let is_low = c.in_ok-low.ensures.value ∙ half-value3 s sound c.args.c.0 c.args.a.0 c.args.b.0 v c.requires.c_held c.requires.a_held c.requires.b_held inside top false c.past.result.0.0 c.past-2.result.0.0 c.past-3.result.0.0 c.past.ensures.low c.past-2.ensures.low c.past-3.ensures.low in
    let after = value-after3 s sound c.args.c.0 c.args.a.0 c.args.b.0 v c.requires.c_held c.requires.a_held c.requires.b_held inside top true c.past.result.1.0 c.past-2.result.1.0 c.past-3.result.1.0 c.past.ensures.high c.past-2.ensures.high c.past-3.ensures.high m keeps (live_gained gain) in
    let one = subst (λ (g : Function). StaysUnlessFull s m g) (half-value3 s sound c.args.c.0 c.args.a.0 c.args.b.0 v c.requires.c_held c.requires.a_held c.requires.b_held inside top false c.past.result.0.0 c.past-2.result.0.0 c.past-3.result.0.0 c.past.ensures.low c.past-2.ensures.low c.past-3.ensures.low) c.in_ok-low.ensures.stays in
    let two = subst (λ (g : Function). StaysUnlessFull m u g) after c.in-Err.ensures.stays in
    given-up-stays s m u f v c.in_ok-low.low 0 sound inside free' keeps gain is_low c.release.new.self c.in-Err.ensures.keeps c.release.ensures.grows one two
