-- A new variable changes no value, so kept results stay right.
use Rattle.std.proofs.Common.{◌≤◌, IsSome, Option, subst, sym}
use Rattle.dd_store.specs.declared.row.Row.{Row}
use Rattle.dd_apply.proofs.RightLemmas.{right-all}
use Rattle.dd_apply.proofs.kernel.Kernel.add_variable.Goals as goal

pub invariant_of-self : goal.invariant_of-self
invariant_of-self c =
    right-all c.self.inside.store c.add_variable.new.self
    (λ n there. subst (λ (o : Option Row). 2 ≤ n → IsSome o) (sym (c.add_variable.ensures.nodes.rows n)) there)
    (λ n there j a. c.add_variable.ensures.values n a j)
    c.self.inside.results c.self.invariant
