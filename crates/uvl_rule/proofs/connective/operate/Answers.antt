-- What is made is in its group.
use Rattle.std.proofs.Common.{[], ◌∷◌, IfErr, refl, sym, subst, inl, inr}
use Rattle.dd_store.specs.Exhausted.{value_at}
use Rattle.uvl_functions.specs.Cause.{IsShortFor}
use Rattle.uvl_rule.specs.declared.connective.Connective.{Connective}
use Rattle.uvl_rule.specs.declared.connective.Connective.TheVariants.{And, Or}
use Rattle.uvl_rule.specs.Connectives.{connection, connection_group}
use Rattle.uvl_functions.proofs.ShortLemmas.{cause-told}
use Rattle.uvl_rule.proofs.connective.operate.Goals as goal

pub returns-in-And-clause-cause : goal.returns-in-And-clause-cause
returns-in-And-clause-cause c =
    let f = value_at c.args.kernel.now c.args.left.now in
    let g = value_at c.args.kernel.now c.args.right.now in
    subst (λ (k : Connective). IfErr c.and.result (IsShortFor c.args.kernel.now (connection_group k f g ∷ []))) (sym c.in-And.is)
    (cause-told c.args.kernel.now c.and.new.self (connection And f g) (connection_group And f g) c.and.result
    (λ held. inr (inr (inl (inl refl)))) c.and.ensures.cause)

pub returns-in-Or-clause-cause : goal.returns-in-Or-clause-cause
returns-in-Or-clause-cause c =
    let f = value_at c.args.kernel.now c.args.left.now in
    let g = value_at c.args.kernel.now c.args.right.now in
    subst (λ (k : Connective). IfErr c.or.result (IsShortFor c.args.kernel.now (connection_group k f g ∷ []))) (sym c.in-Or.is)
    (cause-told c.args.kernel.now c.or.new.self (connection Or f g) (connection_group Or f g) c.or.result
    (λ held. inr (inr (inl (inl refl)))) c.or.ensures.cause)
