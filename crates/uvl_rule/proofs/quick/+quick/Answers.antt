-- Each run of the spine is made above the part below it.
use Rattle.std.proofs.Common.{◌≡◌, ◌⊎◌, ◌∙◌, ℕ, ◌<◌, List, length, take, drop, Some, IfOk, ap, sym, subst, inl, inr, arith}
use Rattle.std.specs.Prelude.{IsTrue}
use Rattle.std.specs.Borrow.{Bor}
use Rattle.std.proofs.lemmas.Bool.{eqb-true}
use Rattle.dd_store.specs.Exhausted.{value_at}
use Rattle.dd_store.specs.Size.{Function}
use Rattle.dd_store.specs.Table.{IsLive}
use Rattle.dd_store.proofs.ChangeLemmas.{keeps_then}
use Rattle.dd_store.proofs.CountLemmas.{live_gained}
use Rattle.dd_store.proofs.StayLemmas.{value-kept}
use Rattle.uvl_functions.specs.Functions.{rule_function}
use Rattle.uvl_functions.specs.RuleParts.{opposite}
use Rattle.uvl_model.specs.declared.rule.Rule.{Rule}
use Rattle.uvl_rule.specs.declared.connective.Connective.{Connective}
use Rattle.uvl_rule.specs.Connectives.{connection}
use Rattle.uvl_rule.specs.Run.{IsRun, gathered, nodes_or_none, regroups, right_operand}
use Rattle.uvl_rule.specs.Spine.{IsSpine, rules_at}
use Rattle.uvl_rule.proofs.RunLemmas.{gathered-append, parts-lighter, run-joined, run-opposite, spine-cut, spine-weight, split-parts}
use Rattle.uvl_rule.proofs.ClimbLemmas.{spine-nodes}
use Rattle.uvl_rule.proofs.SpineLemmas.{gained-replaced, spine-empty}
use Rattle.uvl_rule.proofs.ReadableLemmas.{first-light, first-readable, nodes-readable, parts-readable, right-readable, spine-readable, variables-kept}
use Rattle.uvl_rule.proofs.quick.+quick.Goals as goal

-- a run of several nodes has a connective that may be grouped in any way
grouping : (n : ℕ) (c : Connective) → (n ≡ 1) ⊎ IsTrue (regroups c) → (n ≡ 1 → ⊥) → IsTrue (regroups c)
grouping n c (inl one) more = absurd (more one)
grouping n c (inr is) more = is

pub gather-gather-requires : goal.gather-gather-requires
gather-gather-requires t c =
    let front = c.split_at.result.0.now in
    let back = c.split_at.result.1.now in
    let len = c.split_at.ensures.front_len in
    let rest = c.split_at.ensures.back_len in
    let some : 0 < length front = omega arith in
    let more : 0 < length back = omega arith in
    let lighter = parts-lighter c.args.run.now front back (split-parts c.args.run.now front back _ c.split_at.ensures.front c.split_at.ensures.back) some more in
    let readable = parts-readable c.args.model.now c.args.run.now front back
    (split-parts c.args.run.now front back _ c.split_at.ensures.front c.split_at.ensures.back) c.requires.readable in
    (omega arith, (c.requires.variables, (readable.0, (some, inr (grouping (length c.args.run.now) c.args.connective c.requires.grouping (λ one. absurd (omega arith)))))))

pub gather-gather-requires-2 : goal.gather-gather-requires-2
gather-gather-requires-2 t c =
    let front = c.split_at.result.0.now in
    let back = c.split_at.result.1.now in
    let len = c.split_at.ensures.front_len in
    let rest = c.split_at.ensures.back_len in
    let some : 0 < length front = omega arith in
    let more : 0 < length back = omega arith in
    let lighter = parts-lighter c.args.run.now front back (split-parts c.args.run.now front back _ c.split_at.ensures.front c.split_at.ensures.back) some more in
    let readable = parts-readable c.args.model.now c.args.run.now front back
    (split-parts c.args.run.now front back _ c.split_at.ensures.front c.split_at.ensures.back) c.requires.readable in
    let has = variables-kept c.args.kernel.now c.gather.new.kernel c.args.model.now c.args.map.now c.in_ok-first.ensures.keeps.order c.requires.variables in
    (omega arith, (has, (readable.1, (more, inr (grouping (length c.args.run.now) c.args.connective c.requires.grouping (λ one. absurd (omega arith)))))))

pub gather-returns-in-Ok-clause-value : goal.gather-returns-in-Ok-clause-value
gather-returns-in-Ok-clause-value t c =
    let k = c.args.connective in
    let vars = c.args.map.now in
    let features = c.args.model.now.features in
    let front = c.split_at.result.0.now in
    let back = c.split_at.result.1.now in
    let len = c.split_at.ensures.front_len in
    let rest = c.split_at.ensures.back_len in
    let some : 0 < length front = omega arith in
    let more : 0 < length back = omega arith in
    let u = c.gather.new.kernel in
    let v = c.gather-2.new.kernel in
    let gained = c.in_ok-first.ensures.gained.gained in
    let live : IsLive u c.in_ok-first.first = omega arith in
    let first = value-kept u v c.in-Ok.ensures.keeps c.in_ok-first.first live (live_gained c.in-Ok.ensures.gained c.in_ok-first.first live)
    ∙ c.in_ok-first.ensures.value in
    let together = gathered-append vars features k (grouping (length c.args.run.now) k c.requires.grouping (λ one. absurd (omega arith))) c.args.run.now front back
    (split-parts c.args.run.now front back _ c.split_at.ensures.front c.split_at.ensures.back) some more in
    subst (λ (f : Function). IfOk c.connect.result (λ h. value_at c.connect.new.kernel h ≡ f))
    (ap (λ (f : Function). connection k f (value_at v c.in-Ok.second)) first
    ∙ ap (λ (f : Function). connection k (gathered k vars features (rules_at front)) f) c.in-Ok.ensures.value ∙ together)
    c.connect.ensures.value

pub gather-returns-in-Ok-clause-keeps : goal.gather-returns-in-Ok-clause-keeps
gather-returns-in-Ok-clause-keeps t c =
    keeps_then c.in_ok-first.ensures.keeps
    (keeps_then c.in-Ok.ensures.keeps c.connect.ensures.keeps (λ n before after. live_gained c.in-Ok.ensures.gained n before))
    (λ n before after. live_gained c.in_ok-first.ensures.gained n before)

pub gather-returns-in-Err-clause-keeps : goal.gather-returns-in-Err-clause-keeps
gather-returns-in-Err-clause-keeps t c =
    keeps_then c.in_ok-first.ensures.keeps
    (keeps_then c.in-Err.ensures.keeps c.release.ensures.grows.keeps (λ n before after. let same = c.in-Err.ensures.refused.each n in omega arith))
    (λ n before after. live_gained c.in_ok-first.ensures.gained n before)

pub quick_rule-rise-requires : goal.quick_rule-rise-requires
quick_rule-rise-requires t c =
    let items = c.loop-alloc.nodes.items in
    let run = c.split_at.result.1.now in
    let start = c.run_start-start.result in
    let part = c.loop-alloc.invariant.part in
    let same = c.split_at.ensures.back ∙ ap (drop start) c.deref-in-loop-alloc.ensures.value in
    let (top, above, below) = spine-cut items run start part.0 c.args.rule.now same part.2 in
    let weigh = spine-weight (rules_at run) part.0 top below in
    let fewer = spine-nodes (rules_at (take start items)) top c.args.rule.now above in
    let gained = c.loop-alloc.invariant.gained.gained in
    let live : IsLive c.loop-alloc.kernel c.loop-alloc.made = omega arith in
    let one = ap length c.deref.ensures.value in
    let two = ap length c.deref-in-loop-alloc.ensures.value in
    let within = c.run_start-start.ensures.within in
    let rest = c.split_at.ensures.back_len in
    let has = variables-kept c.args.kernel.now c.loop-alloc.kernel c.args.model.now c.args.map.now c.loop-alloc.invariant.keeps.order c.requires.variables in
    let readable = nodes-readable c.args.model.now (rules_at run) part.0 top below
    (spine-readable c.args.model.now (rules_at (take start items)) top c.args.rule.now above c.requires.readable) in (
      omega arith,
      (
        has,
        (
          live,
          (readable, (omega arith, subst (λ (nodes : List (Bor Rule)). IsRun (rules_at nodes)) (ap (drop start) c.deref.ensures.value ∙ sym same) c.run_start-start.ensures.run)),
        ),
      ),
    )

pub quick_rule-returns-in_err-made-2-clause-keeps : goal.quick_rule-returns-in_err-made-2-clause-keeps
quick_rule-returns-in_err-made-2-clause-keeps t c =
    keeps_then c.loop-alloc.invariant.keeps c.in_err-made-2.ensures.keeps (λ n before after. live_gained c.loop-alloc.invariant.gained n before)

pub quick_rule-loop-alloc-preserved : goal.quick_rule-loop-alloc-preserved
quick_rule-loop-alloc-preserved t c =
    let items = c.loop-alloc.nodes.items in
    let run = c.split_at.result.1.now in
    let start = c.run_start-start.result in
    let part = c.loop-alloc.invariant.part in
    let same = c.split_at.ensures.back ∙ ap (drop start) c.deref-in-loop-alloc.ensures.value in
    let (top, above, below) = spine-cut items run start part.0 c.args.rule.now same part.2 in
    record {
      gained = gained-replaced c.args.kernel.now c.loop-alloc.kernel c.rise.new.kernel c.loop-alloc.made c.in_ok-made-2.made c.loop-alloc.invariant.gained
          c.in_ok-made-2.ensures.replaced;
      keeps = keeps_then c.loop-alloc.invariant.keeps c.in_ok-made-2.ensures.keeps (λ n before after. live_gained c.loop-alloc.invariant.gained n before);
      part = (
        top,
        c.in_ok-made-2.ensures.value part.0 top below part.1,
        subst (λ (nodes : List (Bor Rule)). IsSpine (rules_at nodes) top c.args.rule.now) (sym c.truncate.ensures.items) above,
      );
    }

pub quick_rule-returns-clause-value : goal.quick_rule-returns-clause-value
quick_rule-returns-clause-value t c =
    let part = c.loop-alloc.invariant.part in
    let none = eqb-true c.loop-alloc.nodes.len 0 (sym c.is_empty.ensures ∙ c.loop-alloc-test.false) in
    let same : part.0 ≡ c.args.rule.now =
    spine-empty c.loop-alloc.nodes.items part.0 c.args.rule.now (omega (arith, c.loop-alloc.nodes.ok.0, none)) part.2 in
    λ a. ap (λ (f : Function). f a) (part.1 ∙ ap (rule_function c.args.map.now c.args.model.now.features) same)

pub rise-returns-in-None-clause-value : goal.rise-returns-in-None-clause-value
rise-returns-in-None-clause-value t c = λ part top spine is.
    subst (λ (f : Function). IfOk c.negate.result (λ h. value_at c.negate.new.kernel h ≡ f))
    (ap opposite is ∙ sym (run-opposite c.args.map.now c.args.model.now.features c.args.run.now c.index-run-0.result part top c.index-run-0.is c.requires.some
    (sym c.in-None.ensures) c.requires.run spine))
    c.negate.ensures.value

pub rise-returns-in-Ok-clause-keeps : goal.rise-returns-in-Ok-clause-keeps
rise-returns-in-Ok-clause-keeps t c =
    keeps_then c.in-Ok.ensures.keeps c.connect.ensures.keeps (λ n before after. live_gained c.in-Ok.ensures.gained n before)

pub rise-returns-in-Ok-clause-value : goal.rise-returns-in-Ok-clause-value
rise-returns-in-Ok-clause-value t c = λ part top spine is.
    let s = c.args.kernel.now in
    let u = c.gather.new.kernel in
    let k = c.in-Some.connective in
    let made = value-kept s u c.in-Ok.ensures.keeps c.args.made c.requires.live (live_gained c.in-Ok.ensures.gained c.args.made c.requires.live) in
    let whole = run-joined c.args.map.now c.args.model.now.features c.args.run.now c.index-run-0.result part top k c.index-run-0.is c.requires.some
    (sym c.in-Some.ensures) c.requires.run spine in
    subst (λ (f : Function). IfOk c.connect.result (λ h. value_at c.connect.new.kernel h ≡ f))
    (ap (λ (f : Function). connection k f (value_at u c.in-Ok.right)) (made ∙ is)
    ∙ ap (λ (f : Function). connection k (rule_function c.args.map.now c.args.model.now.features part) f) c.in-Ok.ensures.value ∙ sym whole)
    c.connect.ensures.value

pub quick_rule-leaf-requires-clause-readable : goal.quick_rule-leaf-requires-clause-readable
quick_rule-leaf-requires-clause-readable t c =
    spine-readable c.args.model.now (rules_at c.in_ok-nodes.nodes.items) c.in_ok-nodes.part.now c.args.rule.now c.in_ok-nodes.ensures.spine c.requires.readable

pub gather-right_rule-requires : goal.gather-right_rule-requires
gather-right_rule-requires t c =
    let light = first-light c.args.run.now c.index-run-0.result c.index-run-0.is c.requires.some in
    (omega (arith, light), (c.requires.variables, first-readable c.args.model.now c.args.run.now c.index-run-0.result c.index-run-0.is c.requires.some c.requires.readable))

pub right_rule-quick_rule-requires : goal.right_rule-quick_rule-requires
right_rule-quick_rule-requires t c =
    let of : right_operand c.args.node.now ≡ Some c.in-Some.right.now = sym c.in-Some.ensures in (
      omega (arith, ap nodes_or_none of),
      (c.requires.variables, right-readable c.args.model.now c.args.node.now c.in-Some.right.now of c.requires.readable),
    )
