-- One step after the other is made, from the last one up.
use Rattle.std.proofs.Common.{◌≡◌, ◌<◌, ◌+◌, ◌-◌, ◌^◌, ℕ, ℤ, pos, ◌+ℤ◌, List, length, get_or, ap, sym, subst, rules, arith, FitsSigned, to_z}
use Rattle.std.specs.Int.{int_min, int_max}
use Rattle.std.proofs.lemmas.Int.{ints, clamps}
use Rattle.std.proofs.lemmas.List.Elements.{All-get_or}
use mir.Syntax.{w128}
use Rattle.dd_store.specs.declared.row.Var.{Var}
use Rattle.dd_count.specs.Levels.{variable_on}
use Rattle.uvl_sums.specs.Steps.{AreSorted}
use Rattle.uvl_sums.specs.Sums.{Term}
use Rattle.uvl_sums.proofs.StepLemmas.{made-none, made-step, made-all, made-small}
use Rattle.uvl_sums.proofs.TotalLemmas.{AreBounds, fits-small}
use Rattle.uvl_sums.proofs.steps.steps_of.Goals as goal

-- one place in front
in-front : (left n : ℕ) → 0 < left → left - 1 + 1 ≡ left
in-front left n some = omega arith

pub loop-left-init : goal.loop-left-init
loop-left-init c = made-none c.args.kernel.now.order c.args.placed.now c.in_ok-steps.steps.items c.in_ok-steps.ensures.items

-- the bounds with the step
small : (c : goal.After-min-least) → AreBounds ((to_z w128 c.loop-left.least-bits) +ℤ int_min (get_or c.args.placed.now (c.loop-left.left - 1) (0, pos 0)).1 (pos 0))
    ((to_z w128 c.loop-left.greatest-bits) +ℤ int_max (get_or c.args.placed.now (c.loop-left.left - 1) (0, pos 0)).1 (pos 0)) (2 ^ 126)
small c =
    made-small c.args.kernel.now.order c.args.placed.now c.loop-left.steps.items (to_z w128 c.loop-left.least-bits) (to_z w128 c.loop-left.greatest-bits) c.loop-left.left (c.loop-left.left - 1) (0, pos 0)
    (let some = c.loop-left-test.true in let inside = c.loop-left.invariant.inside in omega arith) (in-front c.loop-left.left 0 c.loop-left-test.true) c.loop-left.invariant c.requires.sorted.size

pub overflow_add-least : goal.overflow_add-least
overflow_add-least c =
    let fits : FitsSigned w128 (get_or c.args.placed.now (c.loop-left.left - 1) (0, pos 0)).1 = search rules in
    let bounds = small c in
    fits-small _ (omega (arith, ints, clamps)) (omega (arith, ints, clamps))

pub overflow_add-greatest : goal.overflow_add-greatest
overflow_add-greatest c =
    let fits : FitsSigned w128 (get_or c.args.placed.now (c.loop-left.left - 1) (0, pos 0)).1 = search rules in
    let bounds = made-small c.args.kernel.now.order c.args.placed.now c.loop-left.steps.items (to_z w128 c.loop-left.least-bits) (to_z w128 c.loop-left.greatest-bits) c.loop-left.left (c.loop-left.left - 1) (0, pos 0)
    (let some = c.loop-left-test.true in let inside = c.loop-left.invariant.inside in omega arith) (in-front c.loop-left.left 0 c.loop-left-test.true) c.loop-left.invariant c.requires.sorted.size in
    fits-small _ (omega (arith, ints, clamps)) (omega (arith, ints, clamps))

pub bounds-order-level : goal.bounds-order-level
bounds-order-level c =
    subst (λ (vs : List Var). (get_or c.args.placed.now (c.loop-left.left - 1) (0, pos 0)).0 < length vs) (sym c.order.ensures.order)
    (All-get_or (λ (p : ℕ × ℤ). p.0 < length c.args.kernel.now.order) c.args.placed.now (c.loop-left.left - 1) (0, pos 0)
    (let some = c.loop-left-test.true in let inside = c.loop-left.invariant.inside in omega arith) c.requires.within)

pub loop-left-preserved : goal.loop-left-preserved
loop-left-preserved c =
    let fits : FitsSigned w128 (get_or c.args.placed.now (c.loop-left.left - 1) (0, pos 0)).1 = search rules in
    let bounds = made-small c.args.kernel.now.order c.args.placed.now c.loop-left.steps.items (to_z w128 c.loop-left.least-bits) (to_z w128 c.loop-left.greatest-bits) c.loop-left.left (c.loop-left.left - 1) (0, pos 0)
    (let some = c.loop-left-test.true in let inside = c.loop-left.invariant.inside in omega arith) (in-front c.loop-left.left 0 c.loop-left-test.true) c.loop-left.invariant c.requires.sorted.size in
    made-step c.args.kernel.now.order c.args.placed.now c.loop-left.steps.items c.push.new.self.items (to_z w128 c.loop-left.least-bits) (to_z w128 c.loop-left.greatest-bits) c.loop-left.left (c.loop-left.left - 1) (0, pos 0)
    _ _ _ _ _ _ (let some = c.loop-left-test.true in let inside = c.loop-left.invariant.inside in omega arith) (in-front c.loop-left.left 0 c.loop-left-test.true) c.loop-left.invariant
    c.in_ok-push.ensures.items
    (ap (λ (vs : List Var). variable_on vs (get_or c.args.placed.now (c.loop-left.left - 1) (0, pos 0)).0) c.order.ensures.order)
    (omega (arith, ints)) (omega (arith, ints, clamps)) (omega (arith, ints, clamps)) (omega (arith, ints)) (omega (arith, ints))

pub returns-clause-terms : goal.returns-clause-terms
returns-clause-terms c =
    (made-all c.args.kernel.now.order c.args.placed.now c.loop-left.steps.items c.reverse.new.self.items (to_z w128 c.loop-left.least-bits) (to_z w128 c.loop-left.greatest-bits) c.loop-left.left
    c.loop-left-test.false c.reverse.ensures.items c.loop-left.invariant).0

pub returns-clause-planned : goal.returns-clause-planned
returns-clause-planned c =
    let all = made-all c.args.kernel.now.order c.args.placed.now c.loop-left.steps.items c.reverse.new.self.items (to_z w128 c.loop-left.least-bits) (to_z w128 c.loop-left.greatest-bits) c.loop-left.left
    c.loop-left-test.false c.reverse.ensures.items c.loop-left.invariant in
    record { sorted = subst (λ (ts : List Term). AreSorted c.args.kernel.now.order ts) (sym all.0) c.requires.sorted; bounds = all.1 }
