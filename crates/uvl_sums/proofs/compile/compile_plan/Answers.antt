-- The whole is the part of all terms, and all that is held was added.
use Rattle.std.proofs.Common.{◌+◌, ◌^◌, ℕ, ℤ, length, refl, ap, sym, ◌∙◌, subst, arith, to_z, of_z}
use Rattle.std.proofs.lemmas.Int.{to_z-of_z}
use Rattle.std.proofs.lemmas.Result.{err_from_is_err_and}
use mir.Syntax.{w128}
use Rattle.dd_store.specs.Exhausted.{value_at}
use Rattle.dd_store.specs.Table.{IsLive}
use Rattle.dd_store.proofs.ChangeLemmas.{keeps_then}
use Rattle.dd_store.proofs.CountLemmas.{more_push}
use Rattle.dd_apply.proofs.RoomLemmas.{cause-none}
use Rattle.dd_count.proofs.StatesLemmas.{held-live}
use Rattle.uvl_sums.specs.Steps.{terms_of, terms_from, remaining, IsSmall}
use Rattle.uvl_sums.proofs.AddsLemmas.{adds-live, held-stays, place-read}
use Rattle.uvl_sums.proofs.CompileLemmas.{held-all, none-held, none-known, held-still, cause-told, start-fits}
use Rattle.uvl_sums.proofs.compile.compile_plan.Goals as goal

pub part_from-requires-clause-small : goal.part_from-requires-clause-small
part_from-requires-clause-small c = subst (λ (z : ℤ). IsSmall (terms_of c.args.plan.now.steps.items) z) (sym (to_z-of_z w128 c.args.plan.now.start (start-fits (terms_of c.args.plan.now.steps.items) c.args.plan.now.start c.requires.small))) c.requires.small

pub part_from-requires-clause-held : goal.part_from-requires-clause-held
part_from-requires-clause-held c = none-held c.args.kernel.now c.args.held.now.items c.requires.empty

pub part_from-requires-clause-known : goal.part_from-requires-clause-known
part_from-requires-clause-known c = none-known c.args.kernel.now c.args.held.now.items c.args.plan.now.exact c.args.plan.now.steps.items c.new-memo.result.known c.new-memo.ensures

pub returns-in_err-whole-clause-refused : goal.returns-in_err-whole-clause-refused
returns-in_err-whole-clause-refused c =
    let p = err_from_is_err_and c.from_residual.result c.from_residual.ensures.1 in
    rw p.1 (held-all c.args.kernel.now c.part_from.new.kernel c.args.held.now.items c.part_from.new.held.items (remaining c.args.plan.now.exact (terms_from c.args.plan.now.steps.items 0) (to_z w128 (of_z w128 c.args.plan.now.start))) (2 ^ (length (terms_from c.args.plan.now.steps.items 0) + 1)) c.requires.empty c.part_from.ensures.adds)

pub returns-in_err-whole-clause-keeps : goal.returns-in_err-whole-clause-keeps
returns-in_err-whole-clause-keeps c = c.part_from.ensures.adds.keeps

pub returns-in_err-whole-clause-cause : goal.returns-in_err-whole-clause-cause
returns-in_err-whole-clause-cause c =
    let p = err_from_is_err_and c.from_residual.result c.from_residual.ensures.1 in
    rw (p.1, p.2) (cause-told c.args.kernel.now c.part_from.new.kernel c.args.plan.now.exact c.args.plan.now.steps.items c.args.plan.now.start (to_z w128 (of_z w128 c.args.plan.now.start)) c.in_err-whole.field-0.0 (to_z-of_z w128 c.args.plan.now.start (start-fits (terms_of c.args.plan.now.steps.items) c.args.plan.now.start c.requires.small)) c.in_err-whole.ensures.cause)

pub index-requires : goal.index-requires
index-requires c = let there = (c.in_ok-whole.ensures.part.part_is.same (to_z w128 (of_z w128 c.args.plan.now.start)) c.in_ok-whole.ensures.part.now).there in omega arith

pub copy-requires : goal.copy-requires
copy-requires c =
    subst (λ (n : ℕ). IsLive c.part_from.new.kernel n) (sym (place-read c.part_from.new.held.items c.part_from.new.held.items c.in_ok-whole.whole.place c.index.result.now refl (c.in_ok-whole.ensures.part.part_is.same (to_z w128 (of_z w128 c.args.plan.now.start)) c.in_ok-whole.ensures.part.now).there c.index.ensures))
    (held-live c.part_from.new.kernel c.part_from.new.held.items c.in_ok-whole.whole.place (held-stays c.args.kernel.now c.part_from.new.kernel c.args.held.now.items c.part_from.new.held.items (remaining c.args.plan.now.exact (terms_from c.args.plan.now.steps.items 0) (to_z w128 (of_z w128 c.args.plan.now.start))) (2 ^ (length (terms_from c.args.plan.now.steps.items 0) + 1)) c.part_from.ensures.adds (none-held c.args.kernel.now c.args.held.now.items c.requires.empty)) (c.in_ok-whole.ensures.part.part_is.same (to_z w128 (of_z w128 c.args.plan.now.start)) c.in_ok-whole.ensures.part.now).there)

pub returns-in_err-copy-clause-refused : goal.returns-in_err-copy-clause-refused
returns-in_err-copy-clause-refused c =
    let p = err_from_is_err_and c.from_residual-in_err-copy.result c.from_residual-in_err-copy.ensures.1 in
    rw p.1 (held-still c.args.kernel.now c.part_from.new.kernel c.copy.new.self c.part_from.new.held.items (held-all c.args.kernel.now c.part_from.new.kernel c.args.held.now.items c.part_from.new.held.items (remaining c.args.plan.now.exact (terms_from c.args.plan.now.steps.items 0) (to_z w128 (of_z w128 c.args.plan.now.start))) (2 ^ (length (terms_from c.args.plan.now.steps.items 0) + 1)) c.requires.empty c.part_from.ensures.adds) c.in_err-copy.ensures.refused)

pub returns-in_err-copy-clause-keeps : goal.returns-in_err-copy-clause-keeps
returns-in_err-copy-clause-keeps c = keeps_then c.part_from.ensures.adds.keeps c.copy.ensures.grows.keeps (λ n first last. adds-live c.args.kernel.now c.part_from.new.kernel c.args.held.now.items c.part_from.new.held.items (remaining c.args.plan.now.exact (terms_from c.args.plan.now.steps.items 0) (to_z w128 (of_z w128 c.args.plan.now.start))) (2 ^ (length (terms_from c.args.plan.now.steps.items 0) + 1)) c.part_from.ensures.adds n first)

pub returns-in_err-copy-clause-cause : goal.returns-in_err-copy-clause-cause
returns-in_err-copy-clause-cause c =
    let p = err_from_is_err_and c.from_residual-in_err-copy.result c.from_residual-in_err-copy.ensures.1 in
    rw p.1 (cause-none c.args.kernel.now c.copy.new.self (remaining c.args.plan.now.exact (terms_of c.args.plan.now.steps.items) c.args.plan.now.start) (2 ^ (length c.args.plan.now.steps.items + 1)) p.0 p.2)

pub returns-clause-value : goal.returns-clause-value
returns-clause-value c =
    (λ j a. c.in_ok-copy.ensures.value a j) ∙ ap (value_at c.part_from.new.kernel) (place-read c.part_from.new.held.items c.part_from.new.held.items c.in_ok-whole.whole.place c.index.result.now refl (c.in_ok-whole.ensures.part.part_is.same (to_z w128 (of_z w128 c.args.plan.now.start)) c.in_ok-whole.ensures.part.now).there c.index.ensures) ∙ (c.in_ok-whole.ensures.part.part_is.same (to_z w128 (of_z w128 c.args.plan.now.start)) c.in_ok-whole.ensures.part.now).value
    ∙ ap (λ (z : ℤ). remaining c.args.plan.now.exact (terms_of c.args.plan.now.steps.items) z) (to_z-of_z w128 c.args.plan.now.start (start-fits (terms_of c.args.plan.now.steps.items) c.args.plan.now.start c.requires.small))

pub returns-clause-gained : goal.returns-clause-gained
returns-clause-gained c = more_push (held-all c.args.kernel.now c.part_from.new.kernel c.args.held.now.items c.part_from.new.held.items (remaining c.args.plan.now.exact (terms_from c.args.plan.now.steps.items 0) (to_z w128 (of_z w128 c.args.plan.now.start))) (2 ^ (length (terms_from c.args.plan.now.steps.items 0) + 1)) c.requires.empty c.part_from.ensures.adds) c.in_ok-copy.ensures.gained

pub returns-clause-keeps : goal.returns-clause-keeps
returns-clause-keeps c = keeps_then c.part_from.ensures.adds.keeps c.copy.ensures.grows.keeps (λ n first last. adds-live c.args.kernel.now c.part_from.new.kernel c.args.held.now.items c.part_from.new.held.items (remaining c.args.plan.now.exact (terms_from c.args.plan.now.steps.items 0) (to_z w128 (of_z w128 c.args.plan.now.start))) (2 ^ (length (terms_from c.args.plan.now.steps.items 0) + 1)) c.part_from.ensures.adds n first)
