-- Each node of the spine is made above the part below it, and what it is refused for is among the groups of the rule.
use Rattle.std.proofs.Common.{◌≡◌, ◌∙◌, ◌∷◌, ap, sym, subst, arith}
use Rattle.dd_store.specs.Size.{Function}
use Rattle.dd_store.specs.Table.{IsLive}
use Rattle.std.proofs.lemmas.Result.{err_from_is_err_and}
use Rattle.dd_store.specs.Exhausted.{value_at}
use Rattle.dd_store.proofs.ChangeLemmas.{keeps_all, keeps_then}
use Rattle.dd_store.proofs.CountLemmas.{live_gained}
use Rattle.dd_store.proofs.StayLemmas.{value-kept}
use Rattle.uvl_model.specs.declared.rule.Rule.{Rule}
use Rattle.uvl_functions.specs.Functions.{rule_function}
use Rattle.uvl_functions.specs.Groups.{rule_groups}
use Rattle.uvl_rule.specs.declared.connective.Connective.TheVariants.{And, Or, Implies, Iff}
use Rattle.uvl_rule.specs.Spine.{groups_above, rules_at}
use Rattle.uvl_rule.proofs.ClimbLemmas.{IsJoined, joined-And, joined-Or, joined-Implies, joined-Iff, climbed-told, climbed-cause, negated-told, negated-cause}
use Rattle.uvl_rule.proofs.ClimbLemmas.{right-cause, both-told, both-cause, spine-nodes}
use Rattle.uvl_rule.proofs.PartLemmas.{above-spine, end-covered}
use Rattle.uvl_functions.proofs.ShortLemmas.{AreCovered, cause-behind, cause-covered}
use Rattle.uvl_rule.proofs.SpineLemmas.{spine-popped, spine-empty}
use Rattle.uvl_rule.proofs.SpineLemmas.{gained-replaced}
use Rattle.uvl_model.specs.Amounts.{IsReadable}
use Rattle.uvl_model.specs.Rules.{nodes_of}
use Rattle.uvl_model.proofs.Nodes.{nodes-And, nodes-Or, nodes-Implies, nodes-Iff}
use Rattle.uvl_model.proofs.RuleSteps.{and_readable, or_readable, implies_readable, iff_readable}
use Rattle.uvl_rule.proofs.ReadableLemmas.{spine-readable, variables-kept}
use Rattle.uvl_rule.proofs.listed.+rule.Goals as goal

pub climb-returns-in-Not-clause-value : goal.climb-returns-in-Not-clause-value
climb-returns-in-Not-clause-value t c =
    negated-told c.args.map.now c.args.model.now.features c.args.node.now c.in-Not.field-0 c.in-Not.is c.args.kernel.now c.negate.new.kernel c.args.made c.requires.left
    c.negate.result c.negate.ensures.value

pub climb-returns-in-Not-clause-cause : goal.climb-returns-in-Not-clause-cause
climb-returns-in-Not-clause-cause t c =
    negated-cause c.args.map.now c.args.model.now.features c.args.node.now c.in-Not.field-0 c.in-Not.is c.args.kernel.now c.negate.new.kernel c.args.made c.requires.left
    c.negate.result c.negate.ensures.cause

pub climb-returns-in-And-clause-value : goal.climb-returns-in-And-clause-value
climb-returns-in-And-clause-value t c =
    let node = c.in-And in
    climbed-told c.args.map.now c.args.model.now.features And c.args.node.now node.field-0 node.right c.get.result.now
    (subst (λ (n : Rule). IsJoined c.args.map.now c.args.model.now.features And n node.field-0 node.right) (sym node.is) (joined-And c.args.map.now c.args.model.now.features node.field-0 node.right))
    c.get.ensures c.args.kernel.now c.climb_both.new.kernel c.args.made c.requires.left c.climb_both.result c.climb_both.ensures.value

pub climb-returns-in-And-clause-cause : goal.climb-returns-in-And-clause-cause
climb-returns-in-And-clause-cause t c =
    let node = c.in-And in
    climbed-cause c.args.map.now c.args.model.now.features And c.args.node.now node.field-0 node.right c.get.result.now
    (subst (λ (n : Rule). IsJoined c.args.map.now c.args.model.now.features And n node.field-0 node.right) (sym node.is) (joined-And c.args.map.now c.args.model.now.features node.field-0 node.right))
    c.get.ensures c.args.kernel.now c.climb_both.new.kernel c.args.made c.requires.left c.climb_both.result c.climb_both.ensures.cause

pub climb-returns-in-Or-clause-value : goal.climb-returns-in-Or-clause-value
climb-returns-in-Or-clause-value t c =
    let node = c.in-Or in
    climbed-told c.args.map.now c.args.model.now.features Or c.args.node.now node.field-0 node.right c.get-in-Or.result.now
    (subst (λ (n : Rule). IsJoined c.args.map.now c.args.model.now.features Or n node.field-0 node.right) (sym node.is) (joined-Or c.args.map.now c.args.model.now.features node.field-0 node.right))
    c.get-in-Or.ensures c.args.kernel.now c.climb_both-in-Or.new.kernel c.args.made c.requires.left c.climb_both-in-Or.result c.climb_both-in-Or.ensures.value

pub climb-returns-in-Or-clause-cause : goal.climb-returns-in-Or-clause-cause
climb-returns-in-Or-clause-cause t c =
    let node = c.in-Or in
    climbed-cause c.args.map.now c.args.model.now.features Or c.args.node.now node.field-0 node.right c.get-in-Or.result.now
    (subst (λ (n : Rule). IsJoined c.args.map.now c.args.model.now.features Or n node.field-0 node.right) (sym node.is) (joined-Or c.args.map.now c.args.model.now.features node.field-0 node.right))
    c.get-in-Or.ensures c.args.kernel.now c.climb_both-in-Or.new.kernel c.args.made c.requires.left c.climb_both-in-Or.result c.climb_both-in-Or.ensures.cause

pub climb-returns-in-Implies-clause-value : goal.climb-returns-in-Implies-clause-value
climb-returns-in-Implies-clause-value t c =
    let node = c.in-Implies in
    climbed-told c.args.map.now c.args.model.now.features Implies c.args.node.now node.field-0 node.right c.get-in-Implies.result.now
    (subst (λ (n : Rule). IsJoined c.args.map.now c.args.model.now.features Implies n node.field-0 node.right) (sym node.is) (joined-Implies c.args.map.now c.args.model.now.features node.field-0 node.right))
    c.get-in-Implies.ensures c.args.kernel.now c.climb_both-in-Implies.new.kernel c.args.made c.requires.left c.climb_both-in-Implies.result c.climb_both-in-Implies.ensures.value

pub climb-returns-in-Implies-clause-cause : goal.climb-returns-in-Implies-clause-cause
climb-returns-in-Implies-clause-cause t c =
    let node = c.in-Implies in
    climbed-cause c.args.map.now c.args.model.now.features Implies c.args.node.now node.field-0 node.right c.get-in-Implies.result.now
    (subst (λ (n : Rule). IsJoined c.args.map.now c.args.model.now.features Implies n node.field-0 node.right) (sym node.is) (joined-Implies c.args.map.now c.args.model.now.features node.field-0 node.right))
    c.get-in-Implies.ensures c.args.kernel.now c.climb_both-in-Implies.new.kernel c.args.made c.requires.left c.climb_both-in-Implies.result c.climb_both-in-Implies.ensures.cause

pub climb-returns-in-Iff-clause-value : goal.climb-returns-in-Iff-clause-value
climb-returns-in-Iff-clause-value t c =
    let node = c.in-Iff in
    climbed-told c.args.map.now c.args.model.now.features Iff c.args.node.now node.field-0 node.right c.get-in-Iff.result.now
    (subst (λ (n : Rule). IsJoined c.args.map.now c.args.model.now.features Iff n node.field-0 node.right) (sym node.is) (joined-Iff c.args.map.now c.args.model.now.features node.field-0 node.right))
    c.get-in-Iff.ensures c.args.kernel.now c.climb_both-in-Iff.new.kernel c.args.made c.requires.left c.climb_both-in-Iff.result c.climb_both-in-Iff.ensures.value

pub climb-returns-in-Iff-clause-cause : goal.climb-returns-in-Iff-clause-cause
climb-returns-in-Iff-clause-cause t c =
    let node = c.in-Iff in
    climbed-cause c.args.map.now c.args.model.now.features Iff c.args.node.now node.field-0 node.right c.get-in-Iff.result.now
    (subst (λ (n : Rule). IsJoined c.args.map.now c.args.model.now.features Iff n node.field-0 node.right) (sym node.is) (joined-Iff c.args.map.now c.args.model.now.features node.field-0 node.right))
    c.get-in-Iff.ensures c.args.kernel.now c.climb_both-in-Iff.new.kernel c.args.made c.requires.left c.climb_both-in-Iff.result c.climb_both-in-Iff.ensures.cause

pub climb_both-returns-in-Ok-clause-value : goal.climb_both-returns-in-Ok-clause-value
climb_both-returns-in-Ok-clause-value t c =
    let s = c.args.kernel.now in
    let u = c.listed_rule.new.kernel in
    both-told c.args.map.now c.args.model.now.features c.args.connective c.args.right.now s u c.connect.new.kernel c.args.made c.in-Ok.handle c.connect.result
    (value-kept s u c.in-Ok.ensures.keeps c.args.made c.requires.live (live_gained c.in-Ok.ensures.gained c.args.made c.requires.live))
    c.in-Ok.ensures.value c.connect.ensures.value

pub climb_both-returns-in-Ok-clause-keeps : goal.climb_both-returns-in-Ok-clause-keeps
climb_both-returns-in-Ok-clause-keeps t c =
    keeps_then c.in-Ok.ensures.keeps c.connect.ensures.keeps (λ n before after. live_gained c.in-Ok.ensures.gained n before)

pub climb_both-returns-in-Ok-clause-cause : goal.climb_both-returns-in-Ok-clause-cause
climb_both-returns-in-Ok-clause-cause t c =
    let s = c.args.kernel.now in
    let u = c.listed_rule.new.kernel in
    both-cause c.args.map.now c.args.model.now.features c.args.connective c.args.right.now s u c.connect.new.kernel c.args.made c.in-Ok.handle c.connect.result
    (value-kept s u c.in-Ok.ensures.keeps c.args.made c.requires.live (live_gained c.in-Ok.ensures.gained c.args.made c.requires.live))
    c.in-Ok.ensures.value c.in-Ok.ensures.keeps c.in-Ok.ensures.gained c.connect.ensures.cause

pub climb_both-returns-in-Err-clause-cause : goal.climb_both-returns-in-Err-clause-cause
climb_both-returns-in-Err-clause-cause t c =
    right-cause c.args.map.now c.args.model.now.features c.args.connective (value_at c.args.kernel.now c.args.made) c.args.right.now c.args.kernel.now c.in-Err.refusal c.in-Err.ensures.cause

pub listed_rule-returns-in_err-nodes-clause-keeps : goal.listed_rule-returns-in_err-nodes-clause-keeps
listed_rule-returns-in_err-nodes-clause-keeps t c = keeps_all c.args.kernel.now c.order-order.ensures.sound

pub listed_rule-returns-in_err-made-clause-cause : goal.listed_rule-returns-in_err-made-clause-cause
listed_rule-returns-in_err-made-clause-cause t c =
    let p = err_from_is_err_and c.from_residual-in_err-made.result c.from_residual-in_err-made.ensures.1 in
    let vars = c.args.map.now in
    let features = c.args.model.now.features in
    rw (p.1, p.2)
    (cause-covered c.args.kernel.now (rule_groups vars features c.in_ok-nodes.part.now) (rule_groups vars features c.args.rule.now) c.in_err-made.field-0.0
    (λ held. end-covered vars features (rules_at c.in_ok-nodes.nodes.items) c.in_ok-nodes.part.now c.args.rule.now c.in_ok-nodes.ensures.spine c.args.kernel.now.order held)
    c.in_err-made.ensures.cause)

pub listed_rule-climb-requires : goal.listed_rule-climb-requires
listed_rule-climb-requires t c =
    let part = c.loop-node.invariant.part in
    let (spine, of) = spine-popped c.loop-node.nodes.items c.pop.new.self.items c.in-Some.node part.0 c.args.rule.now c.in-Some.ensures.items part.2 in
    let fewer = spine-nodes (rules_at c.pop.new.self.items) c.in-Some.node.now c.args.rule.now spine in
    let live = let gained = c.loop-node.invariant.gained.gained in let here : IsLive c.loop-node.kernel c.loop-node.made = omega arith in here in
    let readable = spine-readable c.args.model.now (rules_at c.pop.new.self.items) c.in-Some.node.now c.args.rule.now spine c.requires.readable in
    let has = variables-kept c.args.kernel.now c.loop-node.kernel c.args.model.now c.args.map.now c.loop-node.invariant.keeps.order c.requires.variables in
    (omega arith, (has, (readable, (live, (part.0, of, part.1)))))

pub listed_rule-returns-in_err-made-2-clause-keeps : goal.listed_rule-returns-in_err-made-2-clause-keeps
listed_rule-returns-in_err-made-2-clause-keeps t c =
    keeps_then c.loop-node.invariant.keeps c.in_err-made-2.ensures.keeps (λ n before after. live_gained c.loop-node.invariant.gained n before)

pub listed_rule-returns-in_err-made-2-clause-cause : goal.listed_rule-returns-in_err-made-2-clause-cause
listed_rule-returns-in_err-made-2-clause-cause t c =
    let p = err_from_is_err_and c.from_residual-in_err-made-2.result c.from_residual-in_err-made-2.ensures.1 in
    let part = c.loop-node.invariant.part in
    let (spine, of) = spine-popped c.loop-node.nodes.items c.pop.new.self.items c.in-Some.node part.0 c.args.rule.now c.in-Some.ensures.items part.2 in
    let s = c.args.kernel.now in
    let vars = c.args.map.now in
    let features = c.args.model.now.features in
    let node = c.in-Some.node.now in
    rw (p.1, p.2)
    (cause-behind s c.loop-node.kernel c.loop-node.made (groups_above vars features node) (rule_groups vars features c.args.rule.now) c.in_err-made-2.field-0.0
    c.loop-node.invariant.keeps c.loop-node.invariant.gained
    (λ held. subst (λ (f : Function). AreCovered s.order (f ∷ held) held (groups_above vars features node) (rule_groups vars features c.args.rule.now)) (sym part.1)
    (above-spine vars features (rules_at c.pop.new.self.items) node part.0 c.args.rule.now spine of s.order held))
    c.in_err-made-2.ensures.cause)

pub listed_rule-loop-node-preserved : goal.listed_rule-loop-node-preserved
listed_rule-loop-node-preserved t c =
    let part = c.loop-node.invariant.part in
    let (spine, of) = spine-popped c.loop-node.nodes.items c.pop.new.self.items c.in-Some.node part.0 c.args.rule.now c.in-Some.ensures.items part.2 in
    record {
      gained = gained-replaced c.args.kernel.now c.loop-node.kernel c.climb.new.kernel c.loop-node.made c.in_ok-made-2.made c.loop-node.invariant.gained
          c.in_ok-made-2.ensures.replaced;
      keeps = keeps_then c.loop-node.invariant.keeps c.in_ok-made-2.ensures.keeps (λ n before after. live_gained c.loop-node.invariant.gained n before);
      part = (c.in-Some.node.now, c.in_ok-made-2.ensures.value, spine);
    }

pub listed_rule-returns-clause-value : goal.listed_rule-returns-clause-value
listed_rule-returns-clause-value t c =
    let part = c.loop-node.invariant.part in
    let none = c.in_default.ensures.cases.0 in
    let same : part.0 ≡ c.args.rule.now =
    spine-empty c.loop-node.nodes.items part.0 c.args.rule.now (omega (arith, c.loop-node.nodes.ok.0, none)) part.2 in
    λ a. ap (λ (f : Function). f a) (part.1 ∙ ap (rule_function c.args.map.now c.args.model.now.features) same)

pub climb-climb_both-requires : goal.climb-climb_both-requires
climb-climb_both-requires t c =
    let node = c.in-And in
    let parts = and_readable c.args.model.now c.args.node.now node.field-0 node.right node.is c.requires.readable in (
      omega (arith, ap nodes_of node.is, nodes-And node.field-0 node.right, ap nodes_of c.get.ensures),
      (c.requires.variables, (subst (λ (r : Rule). IsReadable c.args.model.now r) (sym c.get.ensures) parts.1, c.requires.live)),
    )

pub climb-climb_both-requires-in-Or : goal.climb-climb_both-requires-in-Or
climb-climb_both-requires-in-Or t c =
    let node = c.in-Or in
    let parts = or_readable c.args.model.now c.args.node.now node.field-0 node.right node.is c.requires.readable in (
      omega (arith, ap nodes_of node.is, nodes-Or node.field-0 node.right, ap nodes_of c.get-in-Or.ensures),
      (c.requires.variables, (subst (λ (r : Rule). IsReadable c.args.model.now r) (sym c.get-in-Or.ensures) parts.1, c.requires.live)),
    )

pub climb-climb_both-requires-in-Implies : goal.climb-climb_both-requires-in-Implies
climb-climb_both-requires-in-Implies t c =
    let node = c.in-Implies in
    let parts = implies_readable c.args.model.now c.args.node.now node.field-0 node.right node.is c.requires.readable in (
      omega (arith, ap nodes_of node.is, nodes-Implies node.field-0 node.right, ap nodes_of c.get-in-Implies.ensures),
      (c.requires.variables, (subst (λ (r : Rule). IsReadable c.args.model.now r) (sym c.get-in-Implies.ensures) parts.1, c.requires.live)),
    )

pub climb-climb_both-requires-in-Iff : goal.climb-climb_both-requires-in-Iff
climb-climb_both-requires-in-Iff t c =
    let node = c.in-Iff in
    let parts = iff_readable c.args.model.now c.args.node.now node.field-0 node.right node.is c.requires.readable in (
      omega (arith, ap nodes_of node.is, nodes-Iff node.field-0 node.right, ap nodes_of c.get-in-Iff.ensures),
      (c.requires.variables, (subst (λ (r : Rule). IsReadable c.args.model.now r) (sym c.get-in-Iff.ensures) parts.1, c.requires.live)),
    )

pub listed_rule-leaf-requires-clause-readable : goal.listed_rule-leaf-requires-clause-readable
listed_rule-leaf-requires-clause-readable t c =
    spine-readable c.args.model.now (rules_at c.in_ok-nodes.nodes.items) c.in_ok-nodes.part.now c.args.rule.now c.in_ok-nodes.ensures.spine c.requires.readable
