-- The store's table is the kernel's.
use Rattle.std.proofs.Common.{◌≡◌, ℕ, Bool, Some, subst}
use Rattle.dd_store.specs.Table.{Table, value_of}
use Rattle.dd_apply.proofs.kernel.Kernel.constant_of.Goals as goal

pub returns-clause-exact : goal.returns-clause-exact
returns-clause-exact c =
    subst (λ (t : Table). (b : Bool) → ((a : ℕ → Bool) → value_of t c.args.handle.now a ≡ b) → c.constant_of.result ≡ Some b) c.self.view_is c.constant_of.ensures.exact
