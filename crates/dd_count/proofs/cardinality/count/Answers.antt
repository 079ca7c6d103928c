-- The members are the variables on their levels.
use Rattle.std.proofs.Common.{ℕ, ◌+◌, ◌*◌, ◌≤◌, IfErr, length, ap, ◌∙◌, subst, arith}
use Rattle.dd_store.specs.Table.{node_count}
use Rattle.dd_store.specs.Size.{Function}
use Rattle.dd_apply.specs.Cause.{IsCause}
use Rattle.dd_count.specs.Cardinality.{cardinality}
use Rattle.dd_count.specs.Levels.{variables_on}
use Rattle.dd_count.proofs.MembersLemmas.{no-fewer, same-cardinality, value-told}
use Rattle.dd_count.proofs.cardinality.count.Goals as goal

pub returns-clause-value : goal.returns-clause-value
returns-clause-value c =
    let order = c.args.kernel.now.order in
    value-told c.count_levels.new.kernel (cardinality (variables_on order c.deref.result.now) c.args.low c.args.high) (cardinality c.args.members.now c.args.low c.args.high)
    c.count_levels.result
    (same-cardinality order c.args.members.now c.in_ok-levels.levels.items c.deref.result.now c.args.low c.args.high c.in_ok-levels.ensures c.deref.ensures.value)
    c.count_levels.ensures.value

pub returns-clause-cause : goal.returns-clause-cause
returns-clause-cause c =
    subst (λ (f : Function). IfErr c.count_levels.result (IsCause c.args.kernel.now c.count_levels.new.kernel f))
    (same-cardinality c.args.kernel.now.order c.args.members.now c.in_ok-levels.levels.items c.deref.result.now c.args.low c.args.high c.in_ok-levels.ensures c.deref.ensures.value)
    c.count_levels.ensures.cause

pub returns-in_err-levels-clause-nodes : goal.returns-in_err-levels-clause-nodes
returns-in_err-levels-clause-nodes c =
    no-fewer (node_count c.args.kernel.now) (node_count c.args.kernel.now) (length c.args.members.now * (c.args.high + 1)) (omega arith)

pub returns-clause-nodes : goal.returns-clause-nodes
returns-clause-nodes c =
    subst (λ (n : ℕ). node_count c.count_levels.new.kernel ≤ node_count c.args.kernel.now + n * (c.args.high + 1)) (ap length c.deref.ensures.value ∙ c.in_ok-levels.ensures.size)
    c.count_levels.ensures.nodes
