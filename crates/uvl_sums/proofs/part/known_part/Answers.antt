-- A constant is held, or a part is looked up.
use Rattle.std.proofs.Common.{◌<◌, ℤ, IfSome, length, subst, arith, to_z, of_z}
use Rattle.std.proofs.lemmas.Int.{to_z-of_z}
use mir.Syntax.{w128}
use Rattle.dd_store.specs.Size.{Function}
use Rattle.uvl_sums.specs.Parts.{Adds}
use Rattle.uvl_sums.specs.Settled.{IsBetween}
use Rattle.uvl_sums.specs.Steps.{terms_from, least_total, greatest_total, remaining}
use Rattle.uvl_sums.proofs.PartLemmas.{small-at, small-same, least-bound, greatest-bound, settles-at, settled-told, settled-is, known-stays, recalled-part, nothing-added, some-left, step-left}
use Rattle.uvl_sums.proofs.part.known_part.Goals as goal

pub settle-requires : goal.settle-requires
settle-requires c =
    let small = small-at c.args.kernel.now.order c.args.plan.now.steps.items c.args.at c.args.so_far c.requires.planned c.requires.small in
    let least = least-bound c.args.so_far (least_total (terms_from c.args.plan.now.steps.items c.args.at)) (greatest_total (terms_from c.args.plan.now.steps.items c.args.at)) c.reach-least.result.0 small c.reach-least.ensures.least in
    let greatest = greatest-bound c.args.so_far (least_total (terms_from c.args.plan.now.steps.items c.args.at)) (greatest_total (terms_from c.args.plan.now.steps.items c.args.at)) c.reach-least.result.1 small c.reach-least.ensures.greatest in
    let same = to_z-of_z w128 c.args.so_far c.ranges.so_far in
    small-same c.args.so_far (to_z w128 (of_z w128 c.args.so_far)) (least_total (terms_from c.args.plan.now.steps.items c.args.at)) (to_z w128 (of_z w128 c.reach-least.result.0)) (greatest_total (terms_from c.args.plan.now.steps.items c.args.at)) (to_z w128 (of_z w128 c.reach-least.result.1))
    same least greatest small

pub returns-in_err-place-in-Some-clause-known : goal.returns-in_err-place-in-Some-clause-known
returns-in_err-place-in-Some-clause-known c =
    known-stays c.args.kernel.now c.hold_constant.new.kernel c.args.held.now.items c.hold_constant.new.held.items (λ a. c.in-Some.settled.value) 2 c.hold_constant.ensures.adds
    c.requires.held c.args.plan.now.exact c.args.plan.now.steps.items c.args.memo.now.known c.requires.known

pub returns-in_err-place-in-Some-clause-adds : goal.returns-in_err-place-in-Some-clause-adds
returns-in_err-place-in-Some-clause-adds c =
    let small = small-at c.args.kernel.now.order c.args.plan.now.steps.items c.args.at c.args.so_far c.requires.planned c.requires.small in
    let least = least-bound c.args.so_far (least_total (terms_from c.args.plan.now.steps.items c.args.at)) (greatest_total (terms_from c.args.plan.now.steps.items c.args.at)) c.reach-least.result.0 small c.reach-least.ensures.least in
    let greatest = greatest-bound c.args.so_far (least_total (terms_from c.args.plan.now.steps.items c.args.at)) (greatest_total (terms_from c.args.plan.now.steps.items c.args.at)) c.reach-least.result.1 small c.reach-least.ensures.greatest in
    let same = to_z-of_z w128 c.args.so_far c.ranges.so_far in
    let is = settles-at c.args.plan.now.exact c.args.so_far (to_z w128 (of_z w128 c.args.so_far)) (least_total (terms_from c.args.plan.now.steps.items c.args.at)) (to_z w128 (of_z w128 c.reach-least.result.0)) (greatest_total (terms_from c.args.plan.now.steps.items c.args.at)) (to_z w128 (of_z w128 c.reach-least.result.1))
    c.in-Some.settled same least greatest c.in-Some.ensures.settles in
    subst (λ (f : Function). Adds c.args.kernel.now c.args.held.now.items c.hold_constant.new.kernel c.hold_constant.new.held.items f 2)
    (settled-is c.args.plan.now.exact (terms_from c.args.plan.now.steps.items c.args.at) c.args.so_far c.in-Some.settled is) c.hold_constant.ensures.adds

pub returns-in_ok-place-in-Some-clause-part : goal.returns-in_ok-place-in-Some-clause-part
returns-in_ok-place-in-Some-clause-part c =
    let small = small-at c.args.kernel.now.order c.args.plan.now.steps.items c.args.at c.args.so_far c.requires.planned c.requires.small in
    let least = least-bound c.args.so_far (least_total (terms_from c.args.plan.now.steps.items c.args.at)) (greatest_total (terms_from c.args.plan.now.steps.items c.args.at)) c.reach-least.result.0 small c.reach-least.ensures.least in
    let greatest = greatest-bound c.args.so_far (least_total (terms_from c.args.plan.now.steps.items c.args.at)) (greatest_total (terms_from c.args.plan.now.steps.items c.args.at)) c.reach-least.result.1 small c.reach-least.ensures.greatest in
    let same = to_z-of_z w128 c.args.so_far c.ranges.so_far in
    let is = settles-at c.args.plan.now.exact c.args.so_far (to_z w128 (of_z w128 c.args.so_far)) (least_total (terms_from c.args.plan.now.steps.items c.args.at)) (to_z w128 (of_z w128 c.reach-least.result.0)) (greatest_total (terms_from c.args.plan.now.steps.items c.args.at)) (to_z w128 (of_z w128 c.reach-least.result.1))
    c.in-Some.settled same least greatest c.in-Some.ensures.settles in
    settled-told c.hold_constant.new.kernel c.hold_constant.new.held.items c.args.plan.now.exact (terms_from c.args.plan.now.steps.items c.args.at) c.args.so_far c.in-Some.settled c.in_ok-place-in-Some.place small is c.in_ok-place-in-Some.ensures.value

pub returns-in_ok-place-in-Some-clause-known : goal.returns-in_ok-place-in-Some-clause-known
returns-in_ok-place-in-Some-clause-known c =
    known-stays c.args.kernel.now c.hold_constant.new.kernel c.args.held.now.items c.hold_constant.new.held.items (λ a. c.in-Some.settled.value) 2 c.hold_constant.ensures.adds
    c.requires.held c.args.plan.now.exact c.args.plan.now.steps.items c.args.memo.now.known c.requires.known

pub returns-in_ok-place-in-Some-clause-adds : goal.returns-in_ok-place-in-Some-clause-adds
returns-in_ok-place-in-Some-clause-adds c =
    let small = small-at c.args.kernel.now.order c.args.plan.now.steps.items c.args.at c.args.so_far c.requires.planned c.requires.small in
    let least = least-bound c.args.so_far (least_total (terms_from c.args.plan.now.steps.items c.args.at)) (greatest_total (terms_from c.args.plan.now.steps.items c.args.at)) c.reach-least.result.0 small c.reach-least.ensures.least in
    let greatest = greatest-bound c.args.so_far (least_total (terms_from c.args.plan.now.steps.items c.args.at)) (greatest_total (terms_from c.args.plan.now.steps.items c.args.at)) c.reach-least.result.1 small c.reach-least.ensures.greatest in
    let same = to_z-of_z w128 c.args.so_far c.ranges.so_far in
    let is = settles-at c.args.plan.now.exact c.args.so_far (to_z w128 (of_z w128 c.args.so_far)) (least_total (terms_from c.args.plan.now.steps.items c.args.at)) (to_z w128 (of_z w128 c.reach-least.result.0)) (greatest_total (terms_from c.args.plan.now.steps.items c.args.at)) (to_z w128 (of_z w128 c.reach-least.result.1))
    c.in-Some.settled same least greatest c.in-Some.ensures.settles in
    subst (λ (f : Function). Adds c.args.kernel.now c.args.held.now.items c.hold_constant.new.kernel c.hold_constant.new.held.items f 2)
    (settled-is c.args.plan.now.exact (terms_from c.args.plan.now.steps.items c.args.at) c.args.so_far c.in-Some.settled is) c.hold_constant.ensures.adds

pub returns-in-None-clause-part : goal.returns-in-None-clause-part
returns-in-None-clause-part c =
    recalled-part c.args.kernel.now c.args.held.now.items c.args.plan.now.exact c.args.plan.now.steps.items c.args.memo.now.known c.args.at c.args.so_far c.recall.result c.requires.known
    (subst (λ (z : ℤ). IfSome c.recall.result (λ part. IsBetween part.least z part.greatest)) (to_z-of_z w128 c.args.so_far c.ranges.so_far) c.recall.ensures.between)
    c.recall.ensures.known

pub returns-in-None-clause-left : goal.returns-in-None-clause-left
returns-in-None-clause-left c =
    let small = small-at c.args.kernel.now.order c.args.plan.now.steps.items c.args.at c.args.so_far c.requires.planned c.requires.small in
    let least = least-bound c.args.so_far (least_total (terms_from c.args.plan.now.steps.items c.args.at)) (greatest_total (terms_from c.args.plan.now.steps.items c.args.at)) c.reach-least.result.0 small c.reach-least.ensures.least in
    let greatest = greatest-bound c.args.so_far (least_total (terms_from c.args.plan.now.steps.items c.args.at)) (greatest_total (terms_from c.args.plan.now.steps.items c.args.at)) c.reach-least.result.1 small c.reach-least.ensures.greatest in
    let same = to_z-of_z w128 c.args.so_far c.ranges.so_far in
    some-left c.recall.result (c.args.at < length c.args.plan.now.steps.items)
    (step-left c.args.plan.now.steps.items c.args.at (to_z w128 (of_z w128 c.reach-least.result.0)) (to_z w128 (of_z w128 c.reach-least.result.1)) least greatest c.in-None.ensures.open)

pub returns-in-None-clause-adds : goal.returns-in-None-clause-adds
returns-in-None-clause-adds c =
    nothing-added c.args.kernel.now c.args.held.now.items (remaining c.args.plan.now.exact (terms_from c.args.plan.now.steps.items c.args.at) c.args.so_far) 2 c.order-order.ensures.sound (omega arith)

pub returns-in-None-clause-none : goal.returns-in-None-clause-none
returns-in-None-clause-none c =
    some-left c.recall.result (Adds c.args.kernel.now c.args.held.now.items c.args.kernel.now c.args.held.now.items (remaining c.args.plan.now.exact (terms_from c.args.plan.now.steps.items c.args.at) c.args.so_far) 1)
    (nothing-added c.args.kernel.now c.args.held.now.items (remaining c.args.plan.now.exact (terms_from c.args.plan.now.steps.items c.args.at) c.args.so_far) 1 c.order-order.ensures.sound (omega arith))
