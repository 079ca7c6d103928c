-- The fork of the halves is held, and noted with what is common to their intervals.
use Rattle.std.proofs.Common.{◌+◌, ◌+ℤ◌, to_z, of_z, refl, subst, slice_index}
use mir.Syntax.{w128}
use Rattle.std.proofs.lemmas.Result.{err_from_is_err_and}
use Rattle.dd_store.specs.Exhausted.{value_at}
use Rattle.dd_store.specs.Size.{Function}
use Rattle.dd_apply.specs.Held.{IsCauseWithin}
use Rattle.dd_apply.specs.Split.{fork}
use Rattle.dd_apply.proofs.RoomLemmas.{cause-none}
use Rattle.uvl_sums.specs.Parts.{Adds}
use Rattle.uvl_sums.specs.Steps.{terms_from, weight_at, remaining}
use Rattle.uvl_sums.proofs.PartLemmas.{low-place, high-place, known-stays, known-more, read-there, read-low-below, read-high-below, read-fork, read-part, read-now, are-near, weight-small, moved-fits, max-is, min-is}
use Rattle.uvl_sums.proofs.part.join.Goals as goal

pub hold_fork-requires-clause-variable : goal.hold_fork-requires-clause-variable
hold_fork-requires-clause-variable c =
    read-there c.args.kernel.now.order c.args.plan.now.steps.items c.args.at c.index-step.result.now c.requires.at c.requires.planned c.index-step.ensures

pub hold_fork-requires-clause-low_there : goal.hold_fork-requires-clause-low_there
hold_fork-requires-clause-low_there c =
    low-place c.args.kernel.now.order c.args.plan.now.steps.items c.args.at c.index-step.result.now c.requires.at c.requires.planned
    c.args.kernel.now c.args.held.now.items c.args.plan.now.exact c.args.low c.args.high c.requires.halves.0 c.requires.halves.1

pub hold_fork-requires-clause-high_there : goal.hold_fork-requires-clause-high_there
hold_fork-requires-clause-high_there c =
    high-place c.args.kernel.now.order c.args.plan.now.steps.items c.args.at c.index-step.result.now c.requires.at c.requires.planned
    c.args.kernel.now c.args.held.now.items c.args.plan.now.exact c.args.low c.args.high c.requires.halves.0 c.requires.halves.1

pub hold_fork-requires-clause-above_low : goal.hold_fork-requires-clause-above_low
hold_fork-requires-clause-above_low c =
    read-low-below c.args.kernel.now.order c.args.plan.now.steps.items c.args.at c.index-step.result.now c.requires.at c.requires.planned c.index-step.ensures
    c.args.kernel.now c.args.held.now.items c.args.plan.now.exact c.args.low c.args.high c.requires.halves.0 c.order-order.ensures.sound refl c.requires.held c.requires.halves.1

pub hold_fork-requires-clause-above_high : goal.hold_fork-requires-clause-above_high
hold_fork-requires-clause-above_high c =
    read-high-below c.args.kernel.now.order c.args.plan.now.steps.items c.args.at c.index-step.result.now c.requires.at c.requires.planned c.index-step.ensures
    c.args.kernel.now c.args.held.now.items c.args.plan.now.exact c.args.low c.args.high c.requires.halves.0 c.order-order.ensures.sound refl c.requires.held c.requires.halves.1

pub returns-in_err-place-clause-part : goal.returns-in_err-place-clause-part
returns-in_err-place-clause-part c =
    let p = err_from_is_err_and c.from_residual.result c.from_residual.ensures.1 in
    λ s halves. rw p.1 tt

pub returns-in_err-place-clause-known : goal.returns-in_err-place-clause-known
returns-in_err-place-clause-known c =
    known-stays c.args.kernel.now c.hold_fork.new.kernel c.args.held.now.items c.hold_fork.new.held.items
    (fork c.index-step.result.now.var.0 (value_at c.args.kernel.now (slice_index c.args.held.now.items c.args.low.place)) (value_at c.args.kernel.now (slice_index c.args.held.now.items c.args.high.place))) 2
    c.hold_fork.ensures.adds c.requires.held c.args.plan.now.exact c.args.plan.now.steps.items c.args.memo.now.known c.requires.known

pub returns-in_err-place-clause-adds : goal.returns-in_err-place-clause-adds
returns-in_err-place-clause-adds c = λ s halves.
    subst (λ (f : Function). Adds c.args.kernel.now c.args.held.now.items c.hold_fork.new.kernel c.hold_fork.new.held.items f 2)
    (read-fork c.args.kernel.now.order c.args.plan.now.steps.items c.args.at c.index-step.result.now c.requires.at c.requires.planned c.index-step.ensures
    c.args.kernel.now c.args.held.now.items c.args.plan.now.exact c.args.low c.args.high s halves) c.hold_fork.ensures.adds

pub returns-in_err-place-clause-cause : goal.returns-in_err-place-clause-cause
returns-in_err-place-clause-cause c =
    let p = err_from_is_err_and c.from_residual.result c.from_residual.ensures.1 in
    λ s halves. rw (p.1, p.2)
    (subst (λ (f : Function). IsCauseWithin c.args.kernel.now c.hold_fork.new.kernel f 0 c.in_err-place.field-0.0)
    (read-fork c.args.kernel.now.order c.args.plan.now.steps.items c.args.at c.index-step.result.now c.requires.at c.requires.planned c.index-step.ensures
    c.args.kernel.now c.args.held.now.items c.args.plan.now.exact c.args.low c.args.high s halves) c.in_err-place.ensures.cause)

pub overflow_sub-high : goal.overflow_sub-high
overflow_sub-high c =
    let low = are-near c.args.kernel.now c.args.held.now.items c.args.plan.now.exact (terms_from c.args.plan.now.steps.items (c.args.at + 1)) c.requires.halves.0 c.args.low c.requires.halves.1.low_is in
    let high = are-near c.args.kernel.now c.args.held.now.items c.args.plan.now.exact (terms_from c.args.plan.now.steps.items (c.args.at + 1)) (c.requires.halves.0 +ℤ weight_at c.args.plan.now.steps.items c.args.at) c.args.high c.requires.halves.1.high_is in
    let weight = weight-small c.args.kernel.now.order c.args.plan.now.steps.items c.args.at c.index-step.result.now c.requires.at c.requires.planned c.index-step.ensures in
    moved-fits c.args.low.least c.args.high.least c.index-step.result.now.weight low.least_from low.least_upto high.least_from high.least_upto weight

pub overflow_sub-high-2 : goal.overflow_sub-high-2
overflow_sub-high-2 c =
    let low = are-near c.args.kernel.now c.args.held.now.items c.args.plan.now.exact (terms_from c.args.plan.now.steps.items (c.args.at + 1)) c.requires.halves.0 c.args.low c.requires.halves.1.low_is in
    let high = are-near c.args.kernel.now c.args.held.now.items c.args.plan.now.exact (terms_from c.args.plan.now.steps.items (c.args.at + 1)) (c.requires.halves.0 +ℤ weight_at c.args.plan.now.steps.items c.args.at) c.args.high c.requires.halves.1.high_is in
    let weight = weight-small c.args.kernel.now.order c.args.plan.now.steps.items c.args.at c.index-step.result.now c.requires.at c.requires.planned c.index-step.ensures in
    moved-fits c.args.low.greatest c.args.high.greatest c.index-step.result.now.weight low.greatest_from low.greatest_upto high.greatest_from high.greatest_upto weight

pub returns-in_err-remember-clause-part : goal.returns-in_err-remember-clause-part
returns-in_err-remember-clause-part c =
    let p = err_from_is_err_and c.from_residual-in_err-remember.result c.from_residual-in_err-remember.ensures.1 in
    λ s halves. rw p.1 tt

pub returns-in_err-remember-clause-known : goal.returns-in_err-remember-clause-known
returns-in_err-remember-clause-known c =
    let low = are-near c.args.kernel.now c.args.held.now.items c.args.plan.now.exact (terms_from c.args.plan.now.steps.items (c.args.at + 1)) c.requires.halves.0 c.args.low c.requires.halves.1.low_is in
    let high = are-near c.args.kernel.now c.args.held.now.items c.args.plan.now.exact (terms_from c.args.plan.now.steps.items (c.args.at + 1)) (c.requires.halves.0 +ℤ weight_at c.args.plan.now.steps.items c.args.at) c.args.high c.requires.halves.1.high_is in
    let weight = weight-small c.args.kernel.now.order c.args.plan.now.steps.items c.args.at c.index-step.result.now c.requires.at c.requires.planned c.index-step.ensures in
    known-more c.hold_fork.new.kernel c.hold_fork.new.held.items c.args.plan.now.exact c.args.plan.now.steps.items c.args.memo.now.known c.remember.new.self.known c.args.at (record { place = c.in_ok-place.place; least = to_z w128 (of_z w128 c.max.result); greatest = to_z w128 (of_z w128 c.min.result) })
    (known-stays c.args.kernel.now c.hold_fork.new.kernel c.args.held.now.items c.hold_fork.new.held.items
    (fork c.index-step.result.now.var.0 (value_at c.args.kernel.now (slice_index c.args.held.now.items c.args.low.place)) (value_at c.args.kernel.now (slice_index c.args.held.now.items c.args.high.place))) 2
    c.hold_fork.ensures.adds c.requires.held c.args.plan.now.exact c.args.plan.now.steps.items c.args.memo.now.known c.requires.known)
    (read-part c.args.kernel.now.order c.args.plan.now.steps.items c.args.at c.index-step.result.now c.requires.at c.requires.planned c.index-step.ensures
    c.args.kernel.now c.args.held.now.items c.args.plan.now.exact c.args.low c.args.high c.requires.halves.0
    (to_z w128 (of_z w128 c.max.result)) (to_z w128 (of_z w128 c.min.result)) c.requires.halves.1 (max-is c.args.low.least c.args.high.least c.index-step.result.now.weight low.least_from low.least_upto high.least_from high.least_upto weight c.max.result c.max.ensures.value) (min-is c.args.low.greatest c.args.high.greatest c.index-step.result.now.weight low.greatest_from low.greatest_upto high.greatest_from high.greatest_upto weight c.min.result c.min.ensures.value) c.hold_fork.new.kernel c.hold_fork.new.held.items c.in_ok-place.place c.in_ok-place.ensures.value)
    c.remember.ensures

pub returns-in_err-remember-clause-adds : goal.returns-in_err-remember-clause-adds
returns-in_err-remember-clause-adds c = λ s halves.
    subst (λ (f : Function). Adds c.args.kernel.now c.args.held.now.items c.hold_fork.new.kernel c.hold_fork.new.held.items f 2)
    (read-fork c.args.kernel.now.order c.args.plan.now.steps.items c.args.at c.index-step.result.now c.requires.at c.requires.planned c.index-step.ensures
    c.args.kernel.now c.args.held.now.items c.args.plan.now.exact c.args.low c.args.high s halves) c.hold_fork.ensures.adds

pub returns-in_err-remember-clause-cause : goal.returns-in_err-remember-clause-cause
returns-in_err-remember-clause-cause c =
    let p = err_from_is_err_and c.from_residual-in_err-remember.result c.from_residual-in_err-remember.ensures.1 in
    λ s halves. rw p.1
    (cause-none c.args.kernel.now c.hold_fork.new.kernel (remaining c.args.plan.now.exact (terms_from c.args.plan.now.steps.items c.args.at) s) 0 p.0 p.2)

pub returns-clause-part : goal.returns-clause-part
returns-clause-part c =
    let low = are-near c.args.kernel.now c.args.held.now.items c.args.plan.now.exact (terms_from c.args.plan.now.steps.items (c.args.at + 1)) c.requires.halves.0 c.args.low c.requires.halves.1.low_is in
    let high = are-near c.args.kernel.now c.args.held.now.items c.args.plan.now.exact (terms_from c.args.plan.now.steps.items (c.args.at + 1)) (c.requires.halves.0 +ℤ weight_at c.args.plan.now.steps.items c.args.at) c.args.high c.requires.halves.1.high_is in
    let weight = weight-small c.args.kernel.now.order c.args.plan.now.steps.items c.args.at c.index-step.result.now c.requires.at c.requires.planned c.index-step.ensures in
    λ s halves. record {
      now = read-now c.args.kernel.now.order c.args.plan.now.steps.items c.args.at c.index-step.result.now c.requires.at c.requires.planned c.index-step.ensures
          c.args.kernel.now c.args.held.now.items c.args.plan.now.exact c.args.low c.args.high s
          (to_z w128 (of_z w128 c.max.result)) (to_z w128 (of_z w128 c.min.result)) halves (max-is c.args.low.least c.args.high.least c.index-step.result.now.weight low.least_from low.least_upto high.least_from high.least_upto weight c.max.result c.max.ensures.value) (min-is c.args.low.greatest c.args.high.greatest c.index-step.result.now.weight low.greatest_from low.greatest_upto high.greatest_from high.greatest_upto weight c.min.result c.min.ensures.value);
      part_is = read-part c.args.kernel.now.order c.args.plan.now.steps.items c.args.at c.index-step.result.now c.requires.at c.requires.planned c.index-step.ensures
          c.args.kernel.now c.args.held.now.items c.args.plan.now.exact c.args.low c.args.high s
          (to_z w128 (of_z w128 c.max.result)) (to_z w128 (of_z w128 c.min.result)) halves (max-is c.args.low.least c.args.high.least c.index-step.result.now.weight low.least_from low.least_upto high.least_from high.least_upto weight c.max.result c.max.ensures.value) (min-is c.args.low.greatest c.args.high.greatest c.index-step.result.now.weight low.greatest_from low.greatest_upto high.greatest_from high.greatest_upto weight c.min.result c.min.ensures.value) c.hold_fork.new.kernel c.hold_fork.new.held.items c.in_ok-place.place c.in_ok-place.ensures.value;
    }

pub returns-clause-known : goal.returns-clause-known
returns-clause-known c =
    let low = are-near c.args.kernel.now c.args.held.now.items c.args.plan.now.exact (terms_from c.args.plan.now.steps.items (c.args.at + 1)) c.requires.halves.0 c.args.low c.requires.halves.1.low_is in
    let high = are-near c.args.kernel.now c.args.held.now.items c.args.plan.now.exact (terms_from c.args.plan.now.steps.items (c.args.at + 1)) (c.requires.halves.0 +ℤ weight_at c.args.plan.now.steps.items c.args.at) c.args.high c.requires.halves.1.high_is in
    let weight = weight-small c.args.kernel.now.order c.args.plan.now.steps.items c.args.at c.index-step.result.now c.requires.at c.requires.planned c.index-step.ensures in
    known-more c.hold_fork.new.kernel c.hold_fork.new.held.items c.args.plan.now.exact c.args.plan.now.steps.items c.args.memo.now.known c.remember.new.self.known c.args.at (record { place = c.in_ok-place.place; least = to_z w128 (of_z w128 c.max.result); greatest = to_z w128 (of_z w128 c.min.result) })
    (known-stays c.args.kernel.now c.hold_fork.new.kernel c.args.held.now.items c.hold_fork.new.held.items
    (fork c.index-step.result.now.var.0 (value_at c.args.kernel.now (slice_index c.args.held.now.items c.args.low.place)) (value_at c.args.kernel.now (slice_index c.args.held.now.items c.args.high.place))) 2
    c.hold_fork.ensures.adds c.requires.held c.args.plan.now.exact c.args.plan.now.steps.items c.args.memo.now.known c.requires.known)
    (read-part c.args.kernel.now.order c.args.plan.now.steps.items c.args.at c.index-step.result.now c.requires.at c.requires.planned c.index-step.ensures
    c.args.kernel.now c.args.held.now.items c.args.plan.now.exact c.args.low c.args.high c.requires.halves.0
    (to_z w128 (of_z w128 c.max.result)) (to_z w128 (of_z w128 c.min.result)) c.requires.halves.1 (max-is c.args.low.least c.args.high.least c.index-step.result.now.weight low.least_from low.least_upto high.least_from high.least_upto weight c.max.result c.max.ensures.value) (min-is c.args.low.greatest c.args.high.greatest c.index-step.result.now.weight low.greatest_from low.greatest_upto high.greatest_from high.greatest_upto weight c.min.result c.min.ensures.value) c.hold_fork.new.kernel c.hold_fork.new.held.items c.in_ok-place.place c.in_ok-place.ensures.value)
    c.remember.ensures

pub returns-clause-adds : goal.returns-clause-adds
returns-clause-adds c = λ s halves.
    subst (λ (f : Function). Adds c.args.kernel.now c.args.held.now.items c.hold_fork.new.kernel c.hold_fork.new.held.items f 2)
    (read-fork c.args.kernel.now.order c.args.plan.now.steps.items c.args.at c.index-step.result.now c.requires.at c.requires.planned c.index-step.ensures
    c.args.kernel.now c.args.held.now.items c.args.plan.now.exact c.args.low c.args.high s halves) c.hold_fork.ensures.adds
