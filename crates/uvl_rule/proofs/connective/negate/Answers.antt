-- The opposite is in its group.
use Rattle.std.proofs.Common.{[], ◌∷◌, refl, inl, inr}
use Rattle.dd_store.specs.Exhausted.{value_at}
use Rattle.uvl_functions.specs.RuleParts.{group_of, opposite}
use Rattle.uvl_functions.proofs.ShortLemmas.{cause-told}
use Rattle.uvl_rule.proofs.connective.negate.Goals as goal

pub returns-clause-cause : goal.returns-clause-cause
returns-clause-cause c =
    let f = value_at c.args.kernel.now c.args.operand in
    cause-told c.args.kernel.now c.not-made.new.self (opposite f) (group_of (opposite f) (f ∷ []) []) c.not-made.result
    (λ held. inr (inr (inl (inl refl)))) c.not-made.ensures.cause
