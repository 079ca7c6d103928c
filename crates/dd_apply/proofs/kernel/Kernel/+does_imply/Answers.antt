-- One node implies another where both of its halves imply the other's.
use Rattle.std.proofs.Common.{◌≡◌, ◌∙◌, ◌↔◌, ℕ, ◌<◌, Bool, true, false, length, inl, inr, subst, sym, arith}
use Rattle.dd_store.specs.declared.row.NodeNo.{NodeNo}
use Rattle.dd_store.specs.Follow.{IsThere}
use Rattle.dd_store.specs.Table.{Table, row_of, top_of, level_of}
use Rattle.dd_apply.specs.declared.operation.Operation.TheVariants.{And}
use Rattle.dd_apply.specs.Held.{IsHeld}
use Rattle.dd_apply.specs.Right.{DoesImply}
use Rattle.dd_apply.proofs.HeldLemmas.{held-there}
use Rattle.dd_apply.proofs.CombineLemmas.{levels, one-node, held-halves, fewer}
use Rattle.dd_apply.proofs.ImplyLemmas.{halves-imply, both-imply, below-left, below-right, first-refused, second-decides}
use Rattle.dd_apply.proofs.kernel.Kernel.+does_imply.Goals as goal

pub higher-requires-clause-a_there : goal.higher-requires-clause-a_there
higher-requires-clause-a_there t c =
    held-there c.args.self.now c.order-order.ensures.sound c.args.a.0 c.requires.a_held

pub higher-requires-clause-b_there : goal.higher-requires-clause-b_there
higher-requires-clause-b_there t c =
    held-there c.args.self.now c.order-order.ensures.sound c.args.b.0 c.requires.b_held

pub tested-var-requires-clause-there : goal.tested-var-requires-clause-there
tested-var-requires-clause-there t c =
    elim c.higher.ensures.one [
      | inl same ↦ subst (λ (n : NodeNo). IsThere (row_of c.args.self.now) n.0) (sym same) (held-there c.args.self.now c.order-order.ensures.sound c.args.a.0 c.requires.a_held)
      | inr same ↦ subst (λ (n : NodeNo). IsThere (row_of c.args.self.now) n.0) (sym same) (held-there c.args.self.now c.order-order.ensures.sound c.args.b.0 c.requires.b_held)
    ]

pub tested-var-requires-clause-no_constant : goal.tested-var-requires-clause-no_constant
tested-var-requires-clause-no_constant t c =
    let less = one-node c.args.self.now c.order-order.ensures.sound c.args.a.0 c.args.b.0 c.requires.a_held c.requires.b_held c.in_default.ensures.nodes in
    subst (λ (n : ℕ). n < length c.args.self.now.order) (sym c.higher.ensures.top) less

pub past-requires : goal.past-requires
past-requires t c =
    held-there c.args.self.now c.order-order.ensures.sound c.args.a.0 c.requires.a_held

pub past-requires-2 : goal.past-requires-2
past-requires-2 t c =
    held-there c.args.self.now c.order-order.ensures.sound c.args.b.0 c.requires.b_held

pub does_imply-requires : goal.does_imply-requires
does_imply-requires t c =
    let less = fewer c.args.self.now c.order-order.ensures.sound And c.args.a.0 c.args.b.0 c.tested-var.result.0 c.requires.a_held c.requires.b_held c.tested-var.ensures.variable
    (c.tested-var.ensures.top ∙ c.higher.ensures.top) false c.past.result.0.0 c.past-2.result.0.0 c.past.ensures.low c.past-2.ensures.low in (
      omega arith,
      held-halves c.args.self.now c.order-order.ensures.sound And c.args.a.0 c.args.b.0 c.tested-var.result.0 c.requires.a_held c.requires.b_held c.tested-var.ensures.variable
          (c.tested-var.ensures.top ∙ c.higher.ensures.top) false c.past.result.0.0 c.past-2.result.0.0 c.past.ensures.low c.past-2.ensures.low,
    )

pub keep_implication-requires-clause-a_held : goal.keep_implication-requires-clause-a_held
keep_implication-requires-clause-a_held t c =
    subst (λ (s : Table). IsHeld s c.args.a.0) (sym c.does_imply.ensures.same) c.requires.a_held

pub keep_implication-requires-clause-b_held : goal.keep_implication-requires-clause-b_held
keep_implication-requires-clause-b_held t c =
    subst (λ (s : Table). IsHeld s c.args.b.0) (sym c.does_imply.ensures.same) c.requires.b_held

pub keep_implication-requires-clause-right : goal.keep_implication-requires-clause-right
keep_implication-requires-clause-right t c =
    let s = c.args.self.now in
    let v = c.tested-var.result.0 in
    let top = c.tested-var.ensures.top ∙ c.higher.ensures.top in
    let sound = c.order-order.ensures.sound in
    let inside = c.tested-var.ensures.variable in
    let above_a = below-left (level_of s v) (top_of s c.args.a.0) (top_of s c.args.b.0) top in
    let above_b = below-right (level_of s v) (top_of s c.args.a.0) (top_of s c.args.b.0) top in
    subst (λ (u : Table). (false ≡ true) ↔ DoesImply u c.args.a.0 c.args.b.0) (sym c.does_imply.ensures.same)
    (first-refused c.does_imply.result (DoesImply s c.args.a.0 c.args.b.0) (DoesImply s c.past.result.0.0 c.past-2.result.0.0) c.if-not-does_imply.true c.does_imply.ensures.value
    (halves-imply s sound c.args.a.0 c.args.b.0 v c.requires.a_held c.requires.b_held inside above_a above_b false c.past.result.0.0 c.past-2.result.0.0 c.past.ensures.low c.past-2.ensures.low))

pub returns-then-not-does_imply-clause-value : goal.returns-then-not-does_imply-clause-value
returns-then-not-does_imply-clause-value t c =
    let s = c.args.self.now in
    let v = c.tested-var.result.0 in
    let top = c.tested-var.ensures.top ∙ c.higher.ensures.top in
    let sound = c.order-order.ensures.sound in
    let inside = c.tested-var.ensures.variable in
    let above_a = below-left (level_of s v) (top_of s c.args.a.0) (top_of s c.args.b.0) top in
    let above_b = below-right (level_of s v) (top_of s c.args.a.0) (top_of s c.args.b.0) top in
    subst (λ (r : Bool). (r ≡ true) ↔ DoesImply s c.args.a.0 c.args.b.0) (sym c.keep_implication.ensures.answer)
    (first-refused c.does_imply.result (DoesImply s c.args.a.0 c.args.b.0) (DoesImply s c.past.result.0.0 c.past-2.result.0.0) c.if-not-does_imply.true c.does_imply.ensures.value
    (halves-imply s sound c.args.a.0 c.args.b.0 v c.requires.a_held c.requires.b_held inside above_a above_b false c.past.result.0.0 c.past-2.result.0.0 c.past.ensures.low c.past-2.ensures.low))

pub does_imply-answer-requires : goal.does_imply-answer-requires
does_imply-answer-requires t c =
    let less = subst (λ (u : Table). levels u c.past.result.1.0 c.past-2.result.1.0 < levels c.args.self.now c.args.a.0 c.args.b.0) (sym c.does_imply.ensures.same)
    (fewer c.args.self.now c.order-order.ensures.sound And c.args.a.0 c.args.b.0 c.tested-var.result.0 c.requires.a_held c.requires.b_held c.tested-var.ensures.variable
    (c.tested-var.ensures.top ∙ c.higher.ensures.top) true c.past.result.1.0 c.past-2.result.1.0 c.past.ensures.high c.past-2.ensures.high) in
    let held = held-halves c.args.self.now c.order-order.ensures.sound And c.args.a.0 c.args.b.0 c.tested-var.result.0 c.requires.a_held c.requires.b_held c.tested-var.ensures.variable
    (c.tested-var.ensures.top ∙ c.higher.ensures.top) true c.past.result.1.0 c.past-2.result.1.0 c.past.ensures.high c.past-2.ensures.high in
    (omega arith, (subst (λ (u : Table). IsHeld u c.past.result.1.0) (sym c.does_imply.ensures.same) held.0, subst (λ (u : Table). IsHeld u c.past-2.result.1.0) (sym c.does_imply.ensures.same) held.1))

pub keep_implication-requires-2-clause-a_held : goal.keep_implication-requires-2-clause-a_held
keep_implication-requires-2-clause-a_held t c =
    subst (λ (s : Table). IsHeld s c.args.a.0) (sym (c.does_imply-answer.ensures.same ∙ c.does_imply.ensures.same)) c.requires.a_held

pub keep_implication-requires-2-clause-b_held : goal.keep_implication-requires-2-clause-b_held
keep_implication-requires-2-clause-b_held t c =
    subst (λ (s : Table). IsHeld s c.args.b.0) (sym (c.does_imply-answer.ensures.same ∙ c.does_imply.ensures.same)) c.requires.b_held

pub keep_implication-requires-2-clause-right : goal.keep_implication-requires-2-clause-right
keep_implication-requires-2-clause-right t c =
    let s = c.args.self.now in
    let v = c.tested-var.result.0 in
    let top = c.tested-var.ensures.top ∙ c.higher.ensures.top in
    let sound = c.order-order.ensures.sound in
    let inside = c.tested-var.ensures.variable in
    let above_a = below-left (level_of s v) (top_of s c.args.a.0) (top_of s c.args.b.0) top in
    let above_b = below-right (level_of s v) (top_of s c.args.a.0) (top_of s c.args.b.0) top in
    subst (λ (u : Table). (c.does_imply-answer.result ≡ true) ↔ DoesImply u c.args.a.0 c.args.b.0) (sym (c.does_imply-answer.ensures.same ∙ c.does_imply.ensures.same))
    (second-decides c.does_imply.result c.does_imply-answer.result (DoesImply s c.args.a.0 c.args.b.0) (DoesImply s c.past.result.0.0 c.past-2.result.0.0)
    (DoesImply s c.past.result.1.0 c.past-2.result.1.0) c.if-not-does_imply.false c.does_imply.ensures.value
    (subst (λ (u : Table). (c.does_imply-answer.result ≡ true) ↔ DoesImply u c.past.result.1.0 c.past-2.result.1.0) c.does_imply.ensures.same c.does_imply-answer.ensures.value)
    (halves-imply s sound c.args.a.0 c.args.b.0 v c.requires.a_held c.requires.b_held inside above_a above_b true c.past.result.1.0 c.past-2.result.1.0 c.past.ensures.high c.past-2.ensures.high)
    (both-imply s sound c.args.a.0 c.args.b.0 v c.requires.a_held c.requires.b_held inside above_a above_b c.past.result.0.0 c.past-2.result.0.0 c.past.result.1.0 c.past-2.result.1.0 c.past.ensures.low c.past-2.ensures.low c.past.ensures.high c.past-2.ensures.high))

pub returns-clause-value : goal.returns-clause-value
returns-clause-value t c =
    let s = c.args.self.now in
    let v = c.tested-var.result.0 in
    let top = c.tested-var.ensures.top ∙ c.higher.ensures.top in
    let sound = c.order-order.ensures.sound in
    let inside = c.tested-var.ensures.variable in
    let above_a = below-left (level_of s v) (top_of s c.args.a.0) (top_of s c.args.b.0) top in
    let above_b = below-right (level_of s v) (top_of s c.args.a.0) (top_of s c.args.b.0) top in
    subst (λ (r : Bool). (r ≡ true) ↔ DoesImply s c.args.a.0 c.args.b.0) (sym c.keep_implication-2.ensures.answer)
    (second-decides c.does_imply.result c.does_imply-answer.result (DoesImply s c.args.a.0 c.args.b.0) (DoesImply s c.past.result.0.0 c.past-2.result.0.0)
    (DoesImply s c.past.result.1.0 c.past-2.result.1.0) c.if-not-does_imply.false c.does_imply.ensures.value
    (subst (λ (u : Table). (c.does_imply-answer.result ≡ true) ↔ DoesImply u c.past.result.1.0 c.past-2.result.1.0) c.does_imply.ensures.same c.does_imply-answer.ensures.value)
    (halves-imply s sound c.args.a.0 c.args.b.0 v c.requires.a_held c.requires.b_held inside above_a above_b true c.past.result.1.0 c.past-2.result.1.0 c.past.ensures.high c.past-2.ensures.high)
    (both-imply s sound c.args.a.0 c.args.b.0 v c.requires.a_held c.requires.b_held inside above_a above_b c.past.result.0.0 c.past-2.result.0.0 c.past.result.1.0 c.past-2.result.1.0 c.past.ensures.low c.past-2.ensures.low c.past.ensures.high c.past-2.ensures.high))
