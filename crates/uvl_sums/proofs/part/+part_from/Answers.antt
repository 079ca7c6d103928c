-- Down both halves, from the tables of the calls in turn, and back.
use Rattle.std.proofs.Common.{◌+◌, ◌^◌, ◌<◌, ℤ, ◌+ℤ◌, List, length, refl, sym, subst, arith, to_z, of_z}
use Rattle.std.proofs.lemmas.Int.{to_z-of_z}
use Rattle.std.proofs.lemmas.Result.{err_from_is_err_and}
use mir.Syntax.{w128}
use Rattle.dd_store.specs.declared.row.Var.{Var}
use Rattle.dd_store.proofs.CofactorLemmas.{own-cofactor}
use Rattle.dd_apply.specs.Held.{IsCauseWithin}
use Rattle.dd_apply.proofs.RoomLemmas.{cause-none}
use Rattle.uvl_sums.specs.Parts.{Adds, IsPartFor}
use Rattle.uvl_sums.specs.Steps.{terms_from, remaining, ArePlanned, IsSmall}
use Rattle.uvl_sums.proofs.AddsLemmas.{adds-as, held-stays}
use Rattle.uvl_sums.proofs.DescendLemmas.{low-cause, low-adds, low-held, high-cause, high-adds, high-held, are-halves, whole-cause, whole-adds, two-fit}
use Rattle.uvl_sums.proofs.PartLemmas.{some-of, none-of, err-of, weight-small, read-small, small-behind, added-fits, added-is}
use Rattle.uvl_sums.proofs.part.+part_from.Goals as goal

pub known_part-requires-clause-small : goal.known_part-requires-clause-small
known_part-requires-clause-small t c =
    subst (λ (z : ℤ). IsSmall (terms_from c.args.plan.now.steps.items c.args.at) z) (sym (to_z-of_z w128 c.args.so_far c.ranges.so_far)) c.requires.small

pub returns-in_err-part-clause-adds : goal.returns-in_err-part-clause-adds
returns-in_err-part-clause-adds t c =
    adds-as c.args.kernel.now c.known_part.new.kernel c.args.held.now.items c.known_part.new.held.items (remaining c.args.plan.now.exact (terms_from c.args.plan.now.steps.items c.args.at) c.args.so_far) 2 (subst (λ (z : ℤ). Adds c.args.kernel.now c.args.held.now.items c.known_part.new.kernel c.known_part.new.held.items (remaining c.args.plan.now.exact (terms_from c.args.plan.now.steps.items c.args.at) z) 2) (to_z-of_z w128 c.args.so_far c.ranges.so_far) c.known_part.ensures.adds) (remaining c.args.plan.now.exact (terms_from c.args.plan.now.steps.items c.args.at) c.args.so_far) (own-cofactor c.args.kernel.now.order (remaining c.args.plan.now.exact (terms_from c.args.plan.now.steps.items c.args.at) c.args.so_far)) (2 ^ (length (terms_from c.args.plan.now.steps.items c.args.at) + 1)) (two-fit (length (terms_from c.args.plan.now.steps.items c.args.at)))

pub returns-in_err-part-clause-cause : goal.returns-in_err-part-clause-cause
returns-in_err-part-clause-cause t c =
    let p = err_from_is_err_and c.from_residual.result c.from_residual.ensures.1 in
    rw p.1 (cause-none c.args.kernel.now c.known_part.new.kernel (remaining c.args.plan.now.exact (terms_from c.args.plan.now.steps.items c.args.at) c.args.so_far) (2 ^ (length (terms_from c.args.plan.now.steps.items c.args.at) + 1)) p.0 p.2)

pub returns-in-Some-clause-part : goal.returns-in-Some-clause-part
returns-in-Some-clause-part t c =
    subst (λ (z : ℤ). IsPartFor c.known_part.new.kernel c.known_part.new.held.items c.args.plan.now.exact (terms_from c.args.plan.now.steps.items c.args.at) z c.in-Some.part) (to_z-of_z w128 c.args.so_far c.ranges.so_far)
    (some-of c.in_ok-part.field-0 c.in-Some.part (IsPartFor c.known_part.new.kernel c.known_part.new.held.items c.args.plan.now.exact (terms_from c.args.plan.now.steps.items c.args.at) (to_z w128 (of_z w128 c.args.so_far))) c.in-Some.is c.in_ok-part.ensures.part)

pub returns-in-Some-clause-adds : goal.returns-in-Some-clause-adds
returns-in-Some-clause-adds t c =
    adds-as c.args.kernel.now c.known_part.new.kernel c.args.held.now.items c.known_part.new.held.items (remaining c.args.plan.now.exact (terms_from c.args.plan.now.steps.items c.args.at) c.args.so_far) 2 (subst (λ (z : ℤ). Adds c.args.kernel.now c.args.held.now.items c.known_part.new.kernel c.known_part.new.held.items (remaining c.args.plan.now.exact (terms_from c.args.plan.now.steps.items c.args.at) z) 2) (to_z-of_z w128 c.args.so_far c.ranges.so_far) c.known_part.ensures.adds) (remaining c.args.plan.now.exact (terms_from c.args.plan.now.steps.items c.args.at) c.args.so_far) (own-cofactor c.args.kernel.now.order (remaining c.args.plan.now.exact (terms_from c.args.plan.now.steps.items c.args.at) c.args.so_far)) (2 ^ (length (terms_from c.args.plan.now.steps.items c.args.at) + 1)) (two-fit (length (terms_from c.args.plan.now.steps.items c.args.at)))

pub index-requires : goal.index-requires
index-requires t c =
    let inside = none-of c.in_ok-part.field-0 (c.args.at < length c.args.plan.now.steps.items) c.in-None.is c.in_ok-part.ensures.left in
    omega arith

pub part_from-requires : goal.part_from-requires
part_from-requires t c =
    let inside = none-of c.in_ok-part.field-0 (c.args.at < length c.args.plan.now.steps.items) c.in-None.is c.in_ok-part.ensures.left in
    let first = subst (λ (z : ℤ). Adds c.args.kernel.now c.args.held.now.items c.known_part.new.kernel c.known_part.new.held.items (remaining c.args.plan.now.exact (terms_from c.args.plan.now.steps.items c.args.at) z) 1) (to_z-of_z w128 c.args.so_far c.ranges.so_far)
    (none-of c.in_ok-part.field-0 (Adds c.args.kernel.now c.args.held.now.items c.known_part.new.kernel c.known_part.new.held.items (remaining c.args.plan.now.exact (terms_from c.args.plan.now.steps.items c.args.at) (to_z w128 (of_z w128 c.args.so_far))) 1) c.in-None.is c.in_ok-part.ensures.none) in (
      omega arith,
      (
        subst (λ (vs : List Var). ArePlanned vs c.args.plan.now.steps.items) (sym first.keeps.order) c.requires.planned,
        (
          subst (λ (z : ℤ). IsSmall (terms_from c.args.plan.now.steps.items (c.args.at + 1)) z) (sym (to_z-of_z w128 c.args.so_far c.ranges.so_far)) (small-behind c.args.kernel.now.order c.args.plan.now.steps.items c.args.at c.index.result.now inside c.requires.planned c.args.so_far c.requires.small),
          (held-stays c.args.kernel.now c.known_part.new.kernel c.args.held.now.items c.known_part.new.held.items (remaining c.args.plan.now.exact (terms_from c.args.plan.now.steps.items c.args.at) c.args.so_far) 1 first c.requires.held, c.known_part.ensures.known),
        ),
      ),
    )

pub returns-in_err-low-in-None-clause-adds : goal.returns-in_err-low-in-None-clause-adds
returns-in_err-low-in-None-clause-adds t c =
    let inside = none-of c.in_ok-part.field-0 (c.args.at < length c.args.plan.now.steps.items) c.in-None.is c.in_ok-part.ensures.left in
    let first = subst (λ (z : ℤ). Adds c.args.kernel.now c.args.held.now.items c.known_part.new.kernel c.known_part.new.held.items (remaining c.args.plan.now.exact (terms_from c.args.plan.now.steps.items c.args.at) z) 1) (to_z-of_z w128 c.args.so_far c.ranges.so_far)
    (none-of c.in_ok-part.field-0 (Adds c.args.kernel.now c.args.held.now.items c.known_part.new.kernel c.known_part.new.held.items (remaining c.args.plan.now.exact (terms_from c.args.plan.now.steps.items c.args.at) (to_z w128 (of_z w128 c.args.so_far))) 1) c.in-None.is c.in_ok-part.ensures.none) in
    let two = subst (λ (z : ℤ). Adds c.known_part.new.kernel c.known_part.new.held.items c.part_from.new.kernel c.part_from.new.held.items (remaining c.args.plan.now.exact (terms_from c.args.plan.now.steps.items (c.args.at + 1)) z) (2 ^ (length (terms_from c.args.plan.now.steps.items (c.args.at + 1)) + 1))) (to_z-of_z w128 c.args.so_far c.ranges.so_far) c.part_from.ensures.adds in
    low-adds c.args.kernel.now c.known_part.new.kernel c.part_from.new.kernel c.part_from.new.kernel c.args.held.now.items c.known_part.new.held.items c.part_from.new.held.items c.part_from.new.held.items c.args.plan.now.steps.items c.args.at c.index.result.now inside c.requires.planned c.index.ensures c.args.plan.now.exact c.args.so_far (c.args.so_far +ℤ c.index.result.now.weight) refl first two

pub returns-in_err-low-in-None-clause-cause : goal.returns-in_err-low-in-None-clause-cause
returns-in_err-low-in-None-clause-cause t c =
    let p = err_from_is_err_and c.from_residual-in_err-low-in-None.result c.from_residual-in_err-low-in-None.ensures.1 in
    let inside = none-of c.in_ok-part.field-0 (c.args.at < length c.args.plan.now.steps.items) c.in-None.is c.in_ok-part.ensures.left in
    let first = subst (λ (z : ℤ). Adds c.args.kernel.now c.args.held.now.items c.known_part.new.kernel c.known_part.new.held.items (remaining c.args.plan.now.exact (terms_from c.args.plan.now.steps.items c.args.at) z) 1) (to_z-of_z w128 c.args.so_far c.ranges.so_far)
    (none-of c.in_ok-part.field-0 (Adds c.args.kernel.now c.args.held.now.items c.known_part.new.kernel c.known_part.new.held.items (remaining c.args.plan.now.exact (terms_from c.args.plan.now.steps.items c.args.at) (to_z w128 (of_z w128 c.args.so_far))) 1) c.in-None.is c.in_ok-part.ensures.none) in
    rw (p.1, p.2)
    (low-cause c.args.kernel.now c.known_part.new.kernel c.part_from.new.kernel c.part_from.new.kernel c.args.held.now.items c.known_part.new.held.items c.part_from.new.held.items c.part_from.new.held.items c.args.plan.now.steps.items c.args.at c.index.result.now inside c.requires.planned c.index.ensures c.args.plan.now.exact c.args.so_far (c.args.so_far +ℤ c.index.result.now.weight) refl first c.in_err-low-in-None.field-0.0
    (subst (λ (z : ℤ). IsCauseWithin c.known_part.new.kernel c.part_from.new.kernel (remaining c.args.plan.now.exact (terms_from c.args.plan.now.steps.items (c.args.at + 1)) z) (2 ^ (length (terms_from c.args.plan.now.steps.items (c.args.at + 1)) + 1)) c.in_err-low-in-None.field-0.0) (to_z-of_z w128 c.args.so_far c.ranges.so_far) c.in_err-low-in-None.ensures.cause))

pub overflow_add-so_far : goal.overflow_add-so_far
overflow_add-so_far t c =
    let inside = none-of c.in_ok-part.field-0 (c.args.at < length c.args.plan.now.steps.items) c.in-None.is c.in_ok-part.ensures.left in
    let weight = weight-small c.args.kernel.now.order c.args.plan.now.steps.items c.args.at c.index.result.now inside c.requires.planned c.index.ensures in
    let small = read-small c.args.kernel.now.order c.args.plan.now.steps.items c.args.at c.index.result.now inside c.requires.planned c.index.ensures c.args.so_far c.requires.small in
    added-fits c.args.so_far c.index.result.now.weight c.ranges.so_far weight (omega arith)

pub part_from-requires-in-None : goal.part_from-requires-in-None
part_from-requires-in-None t c =
    let inside = none-of c.in_ok-part.field-0 (c.args.at < length c.args.plan.now.steps.items) c.in-None.is c.in_ok-part.ensures.left in
    let first = subst (λ (z : ℤ). Adds c.args.kernel.now c.args.held.now.items c.known_part.new.kernel c.known_part.new.held.items (remaining c.args.plan.now.exact (terms_from c.args.plan.now.steps.items c.args.at) z) 1) (to_z-of_z w128 c.args.so_far c.ranges.so_far)
    (none-of c.in_ok-part.field-0 (Adds c.args.kernel.now c.args.held.now.items c.known_part.new.kernel c.known_part.new.held.items (remaining c.args.plan.now.exact (terms_from c.args.plan.now.steps.items c.args.at) (to_z w128 (of_z w128 c.args.so_far))) 1) c.in-None.is c.in_ok-part.ensures.none) in
    let two = subst (λ (z : ℤ). Adds c.known_part.new.kernel c.known_part.new.held.items c.part_from.new.kernel c.part_from.new.held.items (remaining c.args.plan.now.exact (terms_from c.args.plan.now.steps.items (c.args.at + 1)) z) (2 ^ (length (terms_from c.args.plan.now.steps.items (c.args.at + 1)) + 1))) (to_z-of_z w128 c.args.so_far c.ranges.so_far) c.part_from.ensures.adds in
    let weight = weight-small c.args.kernel.now.order c.args.plan.now.steps.items c.args.at c.index.result.now inside c.requires.planned c.index.ensures in
    let small = read-small c.args.kernel.now.order c.args.plan.now.steps.items c.args.at c.index.result.now inside c.requires.planned c.index.ensures c.args.so_far c.requires.small in
    let sum = added-is c.args.so_far c.index.result.now.weight c.ranges.so_far weight (omega arith) in (
      omega arith,
      (
        subst (λ (vs : List Var). ArePlanned vs c.args.plan.now.steps.items) (sym (low-adds c.args.kernel.now c.known_part.new.kernel c.part_from.new.kernel c.part_from.new.kernel c.args.held.now.items c.known_part.new.held.items c.part_from.new.held.items c.part_from.new.held.items c.args.plan.now.steps.items c.args.at c.index.result.now inside c.requires.planned c.index.ensures c.args.plan.now.exact c.args.so_far (c.args.so_far +ℤ c.index.result.now.weight) refl first two).keeps.order) c.requires.planned,
        (
          subst (λ (z : ℤ). IsSmall (terms_from c.args.plan.now.steps.items (c.args.at + 1)) z) (sym sum) small,
          (low-held c.args.kernel.now c.known_part.new.kernel c.part_from.new.kernel c.part_from.new.kernel c.args.held.now.items c.known_part.new.held.items c.part_from.new.held.items c.part_from.new.held.items c.args.plan.now.steps.items c.args.at c.index.result.now inside c.requires.planned c.index.ensures c.args.plan.now.exact c.args.so_far (c.args.so_far +ℤ c.index.result.now.weight) refl first two c.requires.held, c.part_from.ensures.known),
        ),
      ),
    )

pub returns-in_err-high-in-None-clause-adds : goal.returns-in_err-high-in-None-clause-adds
returns-in_err-high-in-None-clause-adds t c =
    let inside = none-of c.in_ok-part.field-0 (c.args.at < length c.args.plan.now.steps.items) c.in-None.is c.in_ok-part.ensures.left in
    let first = subst (λ (z : ℤ). Adds c.args.kernel.now c.args.held.now.items c.known_part.new.kernel c.known_part.new.held.items (remaining c.args.plan.now.exact (terms_from c.args.plan.now.steps.items c.args.at) z) 1) (to_z-of_z w128 c.args.so_far c.ranges.so_far)
    (none-of c.in_ok-part.field-0 (Adds c.args.kernel.now c.args.held.now.items c.known_part.new.kernel c.known_part.new.held.items (remaining c.args.plan.now.exact (terms_from c.args.plan.now.steps.items c.args.at) (to_z w128 (of_z w128 c.args.so_far))) 1) c.in-None.is c.in_ok-part.ensures.none) in
    let two = subst (λ (z : ℤ). Adds c.known_part.new.kernel c.known_part.new.held.items c.part_from.new.kernel c.part_from.new.held.items (remaining c.args.plan.now.exact (terms_from c.args.plan.now.steps.items (c.args.at + 1)) z) (2 ^ (length (terms_from c.args.plan.now.steps.items (c.args.at + 1)) + 1))) (to_z-of_z w128 c.args.so_far c.ranges.so_far) c.part_from.ensures.adds in
    let weight = weight-small c.args.kernel.now.order c.args.plan.now.steps.items c.args.at c.index.result.now inside c.requires.planned c.index.ensures in
    let small = read-small c.args.kernel.now.order c.args.plan.now.steps.items c.args.at c.index.result.now inside c.requires.planned c.index.ensures c.args.so_far c.requires.small in
    let sum = added-is c.args.so_far c.index.result.now.weight c.ranges.so_far weight (omega arith) in
    let three = subst (λ (z : ℤ). Adds c.part_from.new.kernel c.part_from.new.held.items c.part_from-in-None.new.kernel c.part_from-in-None.new.held.items (remaining c.args.plan.now.exact (terms_from c.args.plan.now.steps.items (c.args.at + 1)) z) (2 ^ (length (terms_from c.args.plan.now.steps.items (c.args.at + 1)) + 1))) sum c.part_from-in-None.ensures.adds in
    high-adds c.args.kernel.now c.known_part.new.kernel c.part_from.new.kernel c.part_from-in-None.new.kernel c.args.held.now.items c.known_part.new.held.items c.part_from.new.held.items c.part_from-in-None.new.held.items c.args.plan.now.steps.items c.args.at c.index.result.now inside c.requires.planned c.index.ensures c.args.plan.now.exact c.args.so_far (c.args.so_far +ℤ c.index.result.now.weight) refl first two three

pub returns-in_err-high-in-None-clause-cause : goal.returns-in_err-high-in-None-clause-cause
returns-in_err-high-in-None-clause-cause t c =
    let p = err_from_is_err_and c.from_residual-in_err-high-in-None.result c.from_residual-in_err-high-in-None.ensures.1 in
    let inside = none-of c.in_ok-part.field-0 (c.args.at < length c.args.plan.now.steps.items) c.in-None.is c.in_ok-part.ensures.left in
    let first = subst (λ (z : ℤ). Adds c.args.kernel.now c.args.held.now.items c.known_part.new.kernel c.known_part.new.held.items (remaining c.args.plan.now.exact (terms_from c.args.plan.now.steps.items c.args.at) z) 1) (to_z-of_z w128 c.args.so_far c.ranges.so_far)
    (none-of c.in_ok-part.field-0 (Adds c.args.kernel.now c.args.held.now.items c.known_part.new.kernel c.known_part.new.held.items (remaining c.args.plan.now.exact (terms_from c.args.plan.now.steps.items c.args.at) (to_z w128 (of_z w128 c.args.so_far))) 1) c.in-None.is c.in_ok-part.ensures.none) in
    let two = subst (λ (z : ℤ). Adds c.known_part.new.kernel c.known_part.new.held.items c.part_from.new.kernel c.part_from.new.held.items (remaining c.args.plan.now.exact (terms_from c.args.plan.now.steps.items (c.args.at + 1)) z) (2 ^ (length (terms_from c.args.plan.now.steps.items (c.args.at + 1)) + 1))) (to_z-of_z w128 c.args.so_far c.ranges.so_far) c.part_from.ensures.adds in
    let weight = weight-small c.args.kernel.now.order c.args.plan.now.steps.items c.args.at c.index.result.now inside c.requires.planned c.index.ensures in
    let small = read-small c.args.kernel.now.order c.args.plan.now.steps.items c.args.at c.index.result.now inside c.requires.planned c.index.ensures c.args.so_far c.requires.small in
    let sum = added-is c.args.so_far c.index.result.now.weight c.ranges.so_far weight (omega arith) in
    rw (p.1, p.2)
    (high-cause c.args.kernel.now c.known_part.new.kernel c.part_from.new.kernel c.part_from-in-None.new.kernel c.args.held.now.items c.known_part.new.held.items c.part_from.new.held.items c.part_from-in-None.new.held.items c.args.plan.now.steps.items c.args.at c.index.result.now inside c.requires.planned c.index.ensures c.args.plan.now.exact c.args.so_far (c.args.so_far +ℤ c.index.result.now.weight) refl first two c.in_err-high-in-None.field-0.0
    (subst (λ (z : ℤ). IsCauseWithin c.part_from.new.kernel c.part_from-in-None.new.kernel (remaining c.args.plan.now.exact (terms_from c.args.plan.now.steps.items (c.args.at + 1)) z) (2 ^ (length (terms_from c.args.plan.now.steps.items (c.args.at + 1)) + 1)) c.in_err-high-in-None.field-0.0) sum c.in_err-high-in-None.ensures.cause))

pub join-requires-clause-planned : goal.join-requires-clause-planned
join-requires-clause-planned t c =
    let inside = none-of c.in_ok-part.field-0 (c.args.at < length c.args.plan.now.steps.items) c.in-None.is c.in_ok-part.ensures.left in
    let first = subst (λ (z : ℤ). Adds c.args.kernel.now c.args.held.now.items c.known_part.new.kernel c.known_part.new.held.items (remaining c.args.plan.now.exact (terms_from c.args.plan.now.steps.items c.args.at) z) 1) (to_z-of_z w128 c.args.so_far c.ranges.so_far)
    (none-of c.in_ok-part.field-0 (Adds c.args.kernel.now c.args.held.now.items c.known_part.new.kernel c.known_part.new.held.items (remaining c.args.plan.now.exact (terms_from c.args.plan.now.steps.items c.args.at) (to_z w128 (of_z w128 c.args.so_far))) 1) c.in-None.is c.in_ok-part.ensures.none) in
    let two = subst (λ (z : ℤ). Adds c.known_part.new.kernel c.known_part.new.held.items c.part_from.new.kernel c.part_from.new.held.items (remaining c.args.plan.now.exact (terms_from c.args.plan.now.steps.items (c.args.at + 1)) z) (2 ^ (length (terms_from c.args.plan.now.steps.items (c.args.at + 1)) + 1))) (to_z-of_z w128 c.args.so_far c.ranges.so_far) c.part_from.ensures.adds in
    let weight = weight-small c.args.kernel.now.order c.args.plan.now.steps.items c.args.at c.index.result.now inside c.requires.planned c.index.ensures in
    let small = read-small c.args.kernel.now.order c.args.plan.now.steps.items c.args.at c.index.result.now inside c.requires.planned c.index.ensures c.args.so_far c.requires.small in
    let sum = added-is c.args.so_far c.index.result.now.weight c.ranges.so_far weight (omega arith) in
    let three = subst (λ (z : ℤ). Adds c.part_from.new.kernel c.part_from.new.held.items c.part_from-in-None.new.kernel c.part_from-in-None.new.held.items (remaining c.args.plan.now.exact (terms_from c.args.plan.now.steps.items (c.args.at + 1)) z) (2 ^ (length (terms_from c.args.plan.now.steps.items (c.args.at + 1)) + 1))) sum c.part_from-in-None.ensures.adds in
    subst (λ (vs : List Var). ArePlanned vs c.args.plan.now.steps.items) (sym (high-adds c.args.kernel.now c.known_part.new.kernel c.part_from.new.kernel c.part_from-in-None.new.kernel c.args.held.now.items c.known_part.new.held.items c.part_from.new.held.items c.part_from-in-None.new.held.items c.args.plan.now.steps.items c.args.at c.index.result.now inside c.requires.planned c.index.ensures c.args.plan.now.exact c.args.so_far (c.args.so_far +ℤ c.index.result.now.weight) refl first two three).keeps.order) c.requires.planned

pub join-requires-clause-at : goal.join-requires-clause-at
join-requires-clause-at t c =
    let inside = none-of c.in_ok-part.field-0 (c.args.at < length c.args.plan.now.steps.items) c.in-None.is c.in_ok-part.ensures.left in
    inside

pub join-requires-clause-halves : goal.join-requires-clause-halves
join-requires-clause-halves t c =
    let inside = none-of c.in_ok-part.field-0 (c.args.at < length c.args.plan.now.steps.items) c.in-None.is c.in_ok-part.ensures.left in
    let first = subst (λ (z : ℤ). Adds c.args.kernel.now c.args.held.now.items c.known_part.new.kernel c.known_part.new.held.items (remaining c.args.plan.now.exact (terms_from c.args.plan.now.steps.items c.args.at) z) 1) (to_z-of_z w128 c.args.so_far c.ranges.so_far)
    (none-of c.in_ok-part.field-0 (Adds c.args.kernel.now c.args.held.now.items c.known_part.new.kernel c.known_part.new.held.items (remaining c.args.plan.now.exact (terms_from c.args.plan.now.steps.items c.args.at) (to_z w128 (of_z w128 c.args.so_far))) 1) c.in-None.is c.in_ok-part.ensures.none) in
    let two = subst (λ (z : ℤ). Adds c.known_part.new.kernel c.known_part.new.held.items c.part_from.new.kernel c.part_from.new.held.items (remaining c.args.plan.now.exact (terms_from c.args.plan.now.steps.items (c.args.at + 1)) z) (2 ^ (length (terms_from c.args.plan.now.steps.items (c.args.at + 1)) + 1))) (to_z-of_z w128 c.args.so_far c.ranges.so_far) c.part_from.ensures.adds in
    let weight = weight-small c.args.kernel.now.order c.args.plan.now.steps.items c.args.at c.index.result.now inside c.requires.planned c.index.ensures in
    let small = read-small c.args.kernel.now.order c.args.plan.now.steps.items c.args.at c.index.result.now inside c.requires.planned c.index.ensures c.args.so_far c.requires.small in
    let sum = added-is c.args.so_far c.index.result.now.weight c.ranges.so_far weight (omega arith) in
    let three = subst (λ (z : ℤ). Adds c.part_from.new.kernel c.part_from.new.held.items c.part_from-in-None.new.kernel c.part_from-in-None.new.held.items (remaining c.args.plan.now.exact (terms_from c.args.plan.now.steps.items (c.args.at + 1)) z) (2 ^ (length (terms_from c.args.plan.now.steps.items (c.args.at + 1)) + 1))) sum c.part_from-in-None.ensures.adds in
    let halves = are-halves c.args.kernel.now c.known_part.new.kernel c.part_from.new.kernel c.part_from-in-None.new.kernel c.args.held.now.items c.known_part.new.held.items c.part_from.new.held.items c.part_from-in-None.new.held.items c.args.plan.now.steps.items c.args.at c.index.result.now inside c.requires.planned c.index.ensures c.args.plan.now.exact c.args.so_far (c.args.so_far +ℤ c.index.result.now.weight) refl first two three c.in_ok-low-in-None.low c.in_ok-high-in-None.high (low-held c.args.kernel.now c.known_part.new.kernel c.part_from.new.kernel c.part_from-in-None.new.kernel c.args.held.now.items c.known_part.new.held.items c.part_from.new.held.items c.part_from-in-None.new.held.items c.args.plan.now.steps.items c.args.at c.index.result.now inside c.requires.planned c.index.ensures c.args.plan.now.exact c.args.so_far (c.args.so_far +ℤ c.index.result.now.weight) refl first two c.requires.held)
    (subst (λ (z : ℤ). IsPartFor c.part_from.new.kernel c.part_from.new.held.items c.args.plan.now.exact (terms_from c.args.plan.now.steps.items (c.args.at + 1)) z c.in_ok-low-in-None.low) (to_z-of_z w128 c.args.so_far c.ranges.so_far) c.in_ok-low-in-None.ensures.part)
    (subst (λ (z : ℤ). IsPartFor c.part_from-in-None.new.kernel c.part_from-in-None.new.held.items c.args.plan.now.exact (terms_from c.args.plan.now.steps.items (c.args.at + 1)) z c.in_ok-high-in-None.high) sum c.in_ok-high-in-None.ensures.part) in
    (c.args.so_far, halves)

pub join-requires-clause-held : goal.join-requires-clause-held
join-requires-clause-held t c =
    let inside = none-of c.in_ok-part.field-0 (c.args.at < length c.args.plan.now.steps.items) c.in-None.is c.in_ok-part.ensures.left in
    let first = subst (λ (z : ℤ). Adds c.args.kernel.now c.args.held.now.items c.known_part.new.kernel c.known_part.new.held.items (remaining c.args.plan.now.exact (terms_from c.args.plan.now.steps.items c.args.at) z) 1) (to_z-of_z w128 c.args.so_far c.ranges.so_far)
    (none-of c.in_ok-part.field-0 (Adds c.args.kernel.now c.args.held.now.items c.known_part.new.kernel c.known_part.new.held.items (remaining c.args.plan.now.exact (terms_from c.args.plan.now.steps.items c.args.at) (to_z w128 (of_z w128 c.args.so_far))) 1) c.in-None.is c.in_ok-part.ensures.none) in
    let two = subst (λ (z : ℤ). Adds c.known_part.new.kernel c.known_part.new.held.items c.part_from.new.kernel c.part_from.new.held.items (remaining c.args.plan.now.exact (terms_from c.args.plan.now.steps.items (c.args.at + 1)) z) (2 ^ (length (terms_from c.args.plan.now.steps.items (c.args.at + 1)) + 1))) (to_z-of_z w128 c.args.so_far c.ranges.so_far) c.part_from.ensures.adds in
    let weight = weight-small c.args.kernel.now.order c.args.plan.now.steps.items c.args.at c.index.result.now inside c.requires.planned c.index.ensures in
    let small = read-small c.args.kernel.now.order c.args.plan.now.steps.items c.args.at c.index.result.now inside c.requires.planned c.index.ensures c.args.so_far c.requires.small in
    let sum = added-is c.args.so_far c.index.result.now.weight c.ranges.so_far weight (omega arith) in
    let three = subst (λ (z : ℤ). Adds c.part_from.new.kernel c.part_from.new.held.items c.part_from-in-None.new.kernel c.part_from-in-None.new.held.items (remaining c.args.plan.now.exact (terms_from c.args.plan.now.steps.items (c.args.at + 1)) z) (2 ^ (length (terms_from c.args.plan.now.steps.items (c.args.at + 1)) + 1))) sum c.part_from-in-None.ensures.adds in
    high-held c.args.kernel.now c.known_part.new.kernel c.part_from.new.kernel c.part_from-in-None.new.kernel c.args.held.now.items c.known_part.new.held.items c.part_from.new.held.items c.part_from-in-None.new.held.items c.args.plan.now.steps.items c.args.at c.index.result.now inside c.requires.planned c.index.ensures c.args.plan.now.exact c.args.so_far (c.args.so_far +ℤ c.index.result.now.weight) refl first two three c.requires.held

pub join-requires-clause-known : goal.join-requires-clause-known
join-requires-clause-known t c =
    c.part_from-in-None.ensures.known

pub returns-in_ok-high-in-None-clause-part : goal.returns-in_ok-high-in-None-clause-part
returns-in_ok-high-in-None-clause-part t c =
    let inside = none-of c.in_ok-part.field-0 (c.args.at < length c.args.plan.now.steps.items) c.in-None.is c.in_ok-part.ensures.left in
    let first = subst (λ (z : ℤ). Adds c.args.kernel.now c.args.held.now.items c.known_part.new.kernel c.known_part.new.held.items (remaining c.args.plan.now.exact (terms_from c.args.plan.now.steps.items c.args.at) z) 1) (to_z-of_z w128 c.args.so_far c.ranges.so_far)
    (none-of c.in_ok-part.field-0 (Adds c.args.kernel.now c.args.held.now.items c.known_part.new.kernel c.known_part.new.held.items (remaining c.args.plan.now.exact (terms_from c.args.plan.now.steps.items c.args.at) (to_z w128 (of_z w128 c.args.so_far))) 1) c.in-None.is c.in_ok-part.ensures.none) in
    let two = subst (λ (z : ℤ). Adds c.known_part.new.kernel c.known_part.new.held.items c.part_from.new.kernel c.part_from.new.held.items (remaining c.args.plan.now.exact (terms_from c.args.plan.now.steps.items (c.args.at + 1)) z) (2 ^ (length (terms_from c.args.plan.now.steps.items (c.args.at + 1)) + 1))) (to_z-of_z w128 c.args.so_far c.ranges.so_far) c.part_from.ensures.adds in
    let weight = weight-small c.args.kernel.now.order c.args.plan.now.steps.items c.args.at c.index.result.now inside c.requires.planned c.index.ensures in
    let small = read-small c.args.kernel.now.order c.args.plan.now.steps.items c.args.at c.index.result.now inside c.requires.planned c.index.ensures c.args.so_far c.requires.small in
    let sum = added-is c.args.so_far c.index.result.now.weight c.ranges.so_far weight (omega arith) in
    let three = subst (λ (z : ℤ). Adds c.part_from.new.kernel c.part_from.new.held.items c.part_from-in-None.new.kernel c.part_from-in-None.new.held.items (remaining c.args.plan.now.exact (terms_from c.args.plan.now.steps.items (c.args.at + 1)) z) (2 ^ (length (terms_from c.args.plan.now.steps.items (c.args.at + 1)) + 1))) sum c.part_from-in-None.ensures.adds in
    let halves = are-halves c.args.kernel.now c.known_part.new.kernel c.part_from.new.kernel c.part_from-in-None.new.kernel c.args.held.now.items c.known_part.new.held.items c.part_from.new.held.items c.part_from-in-None.new.held.items c.args.plan.now.steps.items c.args.at c.index.result.now inside c.requires.planned c.index.ensures c.args.plan.now.exact c.args.so_far (c.args.so_far +ℤ c.index.result.now.weight) refl first two three c.in_ok-low-in-None.low c.in_ok-high-in-None.high (low-held c.args.kernel.now c.known_part.new.kernel c.part_from.new.kernel c.part_from-in-None.new.kernel c.args.held.now.items c.known_part.new.held.items c.part_from.new.held.items c.part_from-in-None.new.held.items c.args.plan.now.steps.items c.args.at c.index.result.now inside c.requires.planned c.index.ensures c.args.plan.now.exact c.args.so_far (c.args.so_far +ℤ c.index.result.now.weight) refl first two c.requires.held)
    (subst (λ (z : ℤ). IsPartFor c.part_from.new.kernel c.part_from.new.held.items c.args.plan.now.exact (terms_from c.args.plan.now.steps.items (c.args.at + 1)) z c.in_ok-low-in-None.low) (to_z-of_z w128 c.args.so_far c.ranges.so_far) c.in_ok-low-in-None.ensures.part)
    (subst (λ (z : ℤ). IsPartFor c.part_from-in-None.new.kernel c.part_from-in-None.new.held.items c.args.plan.now.exact (terms_from c.args.plan.now.steps.items (c.args.at + 1)) z c.in_ok-high-in-None.high) sum c.in_ok-high-in-None.ensures.part) in
    c.join.ensures.part c.args.so_far halves

pub returns-in_ok-high-in-None-clause-adds : goal.returns-in_ok-high-in-None-clause-adds
returns-in_ok-high-in-None-clause-adds t c =
    let inside = none-of c.in_ok-part.field-0 (c.args.at < length c.args.plan.now.steps.items) c.in-None.is c.in_ok-part.ensures.left in
    let first = subst (λ (z : ℤ). Adds c.args.kernel.now c.args.held.now.items c.known_part.new.kernel c.known_part.new.held.items (remaining c.args.plan.now.exact (terms_from c.args.plan.now.steps.items c.args.at) z) 1) (to_z-of_z w128 c.args.so_far c.ranges.so_far)
    (none-of c.in_ok-part.field-0 (Adds c.args.kernel.now c.args.held.now.items c.known_part.new.kernel c.known_part.new.held.items (remaining c.args.plan.now.exact (terms_from c.args.plan.now.steps.items c.args.at) (to_z w128 (of_z w128 c.args.so_far))) 1) c.in-None.is c.in_ok-part.ensures.none) in
    let two = subst (λ (z : ℤ). Adds c.known_part.new.kernel c.known_part.new.held.items c.part_from.new.kernel c.part_from.new.held.items (remaining c.args.plan.now.exact (terms_from c.args.plan.now.steps.items (c.args.at + 1)) z) (2 ^ (length (terms_from c.args.plan.now.steps.items (c.args.at + 1)) + 1))) (to_z-of_z w128 c.args.so_far c.ranges.so_far) c.part_from.ensures.adds in
    let weight = weight-small c.args.kernel.now.order c.args.plan.now.steps.items c.args.at c.index.result.now inside c.requires.planned c.index.ensures in
    let small = read-small c.args.kernel.now.order c.args.plan.now.steps.items c.args.at c.index.result.now inside c.requires.planned c.index.ensures c.args.so_far c.requires.small in
    let sum = added-is c.args.so_far c.index.result.now.weight c.ranges.so_far weight (omega arith) in
    let three = subst (λ (z : ℤ). Adds c.part_from.new.kernel c.part_from.new.held.items c.part_from-in-None.new.kernel c.part_from-in-None.new.held.items (remaining c.args.plan.now.exact (terms_from c.args.plan.now.steps.items (c.args.at + 1)) z) (2 ^ (length (terms_from c.args.plan.now.steps.items (c.args.at + 1)) + 1))) sum c.part_from-in-None.ensures.adds in
    let halves = are-halves c.args.kernel.now c.known_part.new.kernel c.part_from.new.kernel c.part_from-in-None.new.kernel c.args.held.now.items c.known_part.new.held.items c.part_from.new.held.items c.part_from-in-None.new.held.items c.args.plan.now.steps.items c.args.at c.index.result.now inside c.requires.planned c.index.ensures c.args.plan.now.exact c.args.so_far (c.args.so_far +ℤ c.index.result.now.weight) refl first two three c.in_ok-low-in-None.low c.in_ok-high-in-None.high (low-held c.args.kernel.now c.known_part.new.kernel c.part_from.new.kernel c.part_from-in-None.new.kernel c.args.held.now.items c.known_part.new.held.items c.part_from.new.held.items c.part_from-in-None.new.held.items c.args.plan.now.steps.items c.args.at c.index.result.now inside c.requires.planned c.index.ensures c.args.plan.now.exact c.args.so_far (c.args.so_far +ℤ c.index.result.now.weight) refl first two c.requires.held)
    (subst (λ (z : ℤ). IsPartFor c.part_from.new.kernel c.part_from.new.held.items c.args.plan.now.exact (terms_from c.args.plan.now.steps.items (c.args.at + 1)) z c.in_ok-low-in-None.low) (to_z-of_z w128 c.args.so_far c.ranges.so_far) c.in_ok-low-in-None.ensures.part)
    (subst (λ (z : ℤ). IsPartFor c.part_from-in-None.new.kernel c.part_from-in-None.new.held.items c.args.plan.now.exact (terms_from c.args.plan.now.steps.items (c.args.at + 1)) z c.in_ok-high-in-None.high) sum c.in_ok-high-in-None.ensures.part) in
    whole-adds c.args.kernel.now c.known_part.new.kernel c.part_from.new.kernel c.part_from-in-None.new.kernel c.args.held.now.items c.known_part.new.held.items c.part_from.new.held.items c.part_from-in-None.new.held.items c.args.plan.now.steps.items c.args.at c.index.result.now inside c.requires.planned c.index.ensures c.args.plan.now.exact c.args.so_far (c.args.so_far +ℤ c.index.result.now.weight) refl first two three c.join.new.kernel c.join.new.held.items (c.join.ensures.adds c.args.so_far halves)

pub returns-in_ok-high-in-None-clause-cause : goal.returns-in_ok-high-in-None-clause-cause
returns-in_ok-high-in-None-clause-cause t c =
    let inside = none-of c.in_ok-part.field-0 (c.args.at < length c.args.plan.now.steps.items) c.in-None.is c.in_ok-part.ensures.left in
    let first = subst (λ (z : ℤ). Adds c.args.kernel.now c.args.held.now.items c.known_part.new.kernel c.known_part.new.held.items (remaining c.args.plan.now.exact (terms_from c.args.plan.now.steps.items c.args.at) z) 1) (to_z-of_z w128 c.args.so_far c.ranges.so_far)
    (none-of c.in_ok-part.field-0 (Adds c.args.kernel.now c.args.held.now.items c.known_part.new.kernel c.known_part.new.held.items (remaining c.args.plan.now.exact (terms_from c.args.plan.now.steps.items c.args.at) (to_z w128 (of_z w128 c.args.so_far))) 1) c.in-None.is c.in_ok-part.ensures.none) in
    let two = subst (λ (z : ℤ). Adds c.known_part.new.kernel c.known_part.new.held.items c.part_from.new.kernel c.part_from.new.held.items (remaining c.args.plan.now.exact (terms_from c.args.plan.now.steps.items (c.args.at + 1)) z) (2 ^ (length (terms_from c.args.plan.now.steps.items (c.args.at + 1)) + 1))) (to_z-of_z w128 c.args.so_far c.ranges.so_far) c.part_from.ensures.adds in
    let weight = weight-small c.args.kernel.now.order c.args.plan.now.steps.items c.args.at c.index.result.now inside c.requires.planned c.index.ensures in
    let small = read-small c.args.kernel.now.order c.args.plan.now.steps.items c.args.at c.index.result.now inside c.requires.planned c.index.ensures c.args.so_far c.requires.small in
    let sum = added-is c.args.so_far c.index.result.now.weight c.ranges.so_far weight (omega arith) in
    let three = subst (λ (z : ℤ). Adds c.part_from.new.kernel c.part_from.new.held.items c.part_from-in-None.new.kernel c.part_from-in-None.new.held.items (remaining c.args.plan.now.exact (terms_from c.args.plan.now.steps.items (c.args.at + 1)) z) (2 ^ (length (terms_from c.args.plan.now.steps.items (c.args.at + 1)) + 1))) sum c.part_from-in-None.ensures.adds in
    let halves = are-halves c.args.kernel.now c.known_part.new.kernel c.part_from.new.kernel c.part_from-in-None.new.kernel c.args.held.now.items c.known_part.new.held.items c.part_from.new.held.items c.part_from-in-None.new.held.items c.args.plan.now.steps.items c.args.at c.index.result.now inside c.requires.planned c.index.ensures c.args.plan.now.exact c.args.so_far (c.args.so_far +ℤ c.index.result.now.weight) refl first two three c.in_ok-low-in-None.low c.in_ok-high-in-None.high (low-held c.args.kernel.now c.known_part.new.kernel c.part_from.new.kernel c.part_from-in-None.new.kernel c.args.held.now.items c.known_part.new.held.items c.part_from.new.held.items c.part_from-in-None.new.held.items c.args.plan.now.steps.items c.args.at c.index.result.now inside c.requires.planned c.index.ensures c.args.plan.now.exact c.args.so_far (c.args.so_far +ℤ c.index.result.now.weight) refl first two c.requires.held)
    (subst (λ (z : ℤ). IsPartFor c.part_from.new.kernel c.part_from.new.held.items c.args.plan.now.exact (terms_from c.args.plan.now.steps.items (c.args.at + 1)) z c.in_ok-low-in-None.low) (to_z-of_z w128 c.args.so_far c.ranges.so_far) c.in_ok-low-in-None.ensures.part)
    (subst (λ (z : ℤ). IsPartFor c.part_from-in-None.new.kernel c.part_from-in-None.new.held.items c.args.plan.now.exact (terms_from c.args.plan.now.steps.items (c.args.at + 1)) z c.in_ok-high-in-None.high) sum c.in_ok-high-in-None.ensures.part) in
    err-of c.join.result (IsCauseWithin c.part_from-in-None.new.kernel c.join.new.kernel (remaining c.args.plan.now.exact (terms_from c.args.plan.now.steps.items c.args.at) c.args.so_far) 0) (IsCauseWithin c.args.kernel.now c.join.new.kernel (remaining c.args.plan.now.exact (terms_from c.args.plan.now.steps.items c.args.at) c.args.so_far) (2 ^ (length (terms_from c.args.plan.now.steps.items c.args.at) + 1)))
    (whole-cause c.args.kernel.now c.known_part.new.kernel c.part_from.new.kernel c.part_from-in-None.new.kernel c.args.held.now.items c.known_part.new.held.items c.part_from.new.held.items c.part_from-in-None.new.held.items c.args.plan.now.steps.items c.args.at c.index.result.now inside c.requires.planned c.index.ensures c.args.plan.now.exact c.args.so_far (c.args.so_far +ℤ c.index.result.now.weight) refl first two three c.join.new.kernel) (c.join.ensures.cause c.args.so_far halves)
