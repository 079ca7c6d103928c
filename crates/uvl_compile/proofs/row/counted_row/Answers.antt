-- The members are counted twice, and the parent chooses.
use Rattle.std.proofs.Common.{◌≡◌, IfOk, [], ◌∷◌, refl, ap, sym, ◌∙◌, subst, inl, inr}
use Rattle.std.proofs.lemmas.Result.{err_from_is_err_and}
use Rattle.dd_store.specs.Exhausted.{value_at}
use Rattle.dd_store.specs.Size.{Function}
use Rattle.dd_apply.specs.Split.{fork}
use Rattle.dd_count.specs.Cardinality.{cardinality}
use Rattle.uvl_functions.proofs.ShortLemmas.{cause-call}
use Rattle.uvl_compile.specs.Members.{choice_by_parent, made_parts}
use Rattle.uvl_compile.proofs.Trades.{first-value, two-keeps, two-told, second-keeps, cause-behind_member}
use Rattle.uvl_compile.proofs.row.counted_row.Goals as goal

pub returns-in_err-with-clause-cause : goal.returns-in_err-with-clause-cause
returns-in_err-with-clause-cause c =
    let p = err_from_is_err_and c.from_residual.result c.from_residual.ensures.1 in
    rw (p.1, p.2)
    (cause-call c.args.kernel.now c.count.new.kernel (cardinality c.args.members.now c.args.low c.args.high) (made_parts c.args.parent c.args.members.now c.args.low c.args.high)
    c.in_err-with.field-0.0 (λ held. inr (inr (inl (inl refl)))) c.in_err-with.ensures.cause)

-- what both handles stand for when the parent chooses
with-is : (c : goal.After-choose) → value_at c.count-2.new.kernel c.in_ok-with.with ≡ cardinality c.args.members.now c.args.low c.args.high
with-is c =
    first-value c.args.kernel.now c.count.new.kernel c.count-2.new.kernel c.choose.new.kernel c.in_ok-with.with c.in-Ok.without c.count.ensures.keeps c.in_ok-with.ensures.gained
    c.count-2.ensures.keeps c.in-Ok.ensures.gained
    ∙ (λ j a. c.in_ok-with.ensures.value a j)

choice-is : (c : goal.After-choose) → fork c.args.parent.0 (value_at c.count-2.new.kernel c.in-Ok.without) (value_at c.count-2.new.kernel c.in_ok-with.with)
    ≡ choice_by_parent c.args.parent c.args.members.now c.args.low c.args.high
choice-is c =
    ap (λ (f : Function). fork c.args.parent.0 f (value_at c.count-2.new.kernel c.in_ok-with.with)) (λ j a. c.in-Ok.ensures.value a j)
    ∙ ap (λ (f : Function). fork c.args.parent.0 (cardinality c.args.members.now 0 0) f) (with-is c)

pub returns-in-Ok-clause-value : goal.returns-in-Ok-clause-value
returns-in-Ok-clause-value c =
    subst (λ (f : Function). IfOk c.choose.result (λ h. value_at c.choose.new.kernel h ≡ f)) (choice-is c) c.choose.ensures.value

pub returns-in-Ok-clause-keeps : goal.returns-in-Ok-clause-keeps
returns-in-Ok-clause-keeps c =
    two-keeps c.args.kernel.now c.count.new.kernel c.count-2.new.kernel c.choose.new.kernel c.in_ok-with.with c.in-Ok.without c.count.ensures.keeps c.in_ok-with.ensures.gained
    c.count-2.ensures.keeps c.in-Ok.ensures.gained c.choose.ensures.keeps

pub returns-in-Ok-clause-cause : goal.returns-in-Ok-clause-cause
returns-in-Ok-clause-cause c =
    two-told c.args.kernel.now c.count.new.kernel c.count-2.new.kernel c.choose.new.kernel c.in_ok-with.with c.in-Ok.without c.count.ensures.keeps c.in_ok-with.ensures.gained
    c.count-2.ensures.keeps c.in-Ok.ensures.gained (made_parts c.args.parent c.args.members.now c.args.low c.args.high)
    (fork c.args.parent.0 (value_at c.count-2.new.kernel c.in-Ok.without) (value_at c.count-2.new.kernel c.in_ok-with.with) ∷ []) c.choose.result
    (inl (λ j a. sym (c.in_ok-with.ensures.value a) j)) (inr (inl (λ j a. sym (c.in-Ok.ensures.value a) j)))
    (λ f i. elim i [ inl same ↦ inr (inr (inl (sym (choice-is c) ∙ same))) | inr none ↦ absurd none ]) c.choose.ensures.cause

pub returns-in-Err-clause-keeps : goal.returns-in-Err-clause-keeps
returns-in-Err-clause-keeps c =
    second-keeps c.args.kernel.now c.count.new.kernel c.count-2.new.kernel c.release.new.self c.in_ok-with.with c.count.ensures.keeps c.in_ok-with.ensures.gained
    c.count-2.ensures.keeps c.in-Err.ensures.refused c.release.ensures.grows.keeps

pub returns-in-Err-clause-cause : goal.returns-in-Err-clause-cause
returns-in-Err-clause-cause c =
    let parts = made_parts c.args.parent c.args.members.now c.args.low c.args.high in
    cause-behind_member c.args.kernel.now c.count.new.kernel c.in_ok-with.with parts c.in-Err.refusal c.count.ensures.keeps c.in_ok-with.ensures.gained
    (inl (λ j a. sym (c.in_ok-with.ensures.value a) j))
    (cause-call c.count.new.kernel c.count-2.new.kernel (cardinality c.args.members.now 0 0) parts c.in-Err.refusal (λ held. inr (inr (inl (inr (inl refl))))) c.in-Err.ensures.cause)
