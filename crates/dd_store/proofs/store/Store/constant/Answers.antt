-- The value of a constant.
use Rattle.std.proofs.Common.{rules, ◌≡◌, if◌then◌else◌, IfOk}
use Rattle.dd_store.proofs.HandleLemmas.{constant-value}
use Rattle.dd_store.proofs.store.Store.constant.Goals as goal

pub returns-clause-value : goal.returns-clause-value
returns-clause-value c =
    let place : IfOk c.hold.result (λ h. h ≡ (if c.args.value then 1 else 0)) = search rules in
    constant-value _ _ _ c.hold.ensures.grows.keeps.sound place
