-- The call of the kernel.
use Rattle.std.proofs.Common.{[], ◌∷◌, refl, inl, inr}
use Rattle.dd_store.specs.Exhausted.{value_at}
use Rattle.dd_apply.specs.declared.operation.Operation.TheVariants.{And}
use Rattle.dd_apply.specs.Truth.{applied}
use Rattle.uvl_functions.proofs.ShortLemmas.{cause-told}
use Rattle.uvl_compile.specs.Conditions.{both}
use Rattle.uvl_compile.proofs.meet.meet.Goals as goal

pub returns-clause-cause : goal.returns-clause-cause
returns-clause-cause c =
    let t = c.args.kernel.now in
    cause-told t c.and-made.new.self (applied And (value_at t c.args.f) (value_at t c.args.g)) (both (value_at t c.args.f) (value_at t c.args.g) ∷ []) c.and-made.result
    (λ held. inr (inr (inl (inl refl)))) c.and-made.ensures.cause
