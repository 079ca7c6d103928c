-- What is seen from the handle's node on.
use Rattle.std.proofs.Common.{◌≡◌, ◌∙◌, ℕ, ◌-◌, Bool, false, List, ◌++◌, IfOk, length, take, replicate, filter, ap, subst, arith}
use Rattle.std.proofs.lemmas.List.{take_at}
use Rattle.dd_store.specs.declared.row.Var.{Var}
use Rattle.dd_store.specs.Exhausted.{value_at}
use Rattle.dd_quant.specs.Support.{support_of}
use Rattle.dd_quant.specs.steps.Seen.{is_seen}
use Rattle.dd_quant.proofs.NotedLemmas.{get-filled}
use Rattle.dd_quant.proofs.SupportLemmas.{support-is, exact-told}
use Rattle.dd_quant.proofs.SweepLemmas.{item-below}
use Rattle.dd_quant.proofs.dependence.support.Goals as goal

-- the marks of what is seen are those that the walk left
kept : (c : goal.After-drop-seen-2) → c.deref.result.now ≡ c.see.new.seen
kept c =
    let len = c.resize.new.self.len in
    let counted = c.resize.new.self.ok.0 in
    let first = ap length c.deref_mut.ensures.value in
    let size : length c.see.new.seen ≡ len = (let same = c.in_ok-see.ensures.more.number in omega arith) in
    c.deref.ensures.value ∙ take_at c.see.new.seen _ len size

variables : (c : goal.After-drop-seen-2) → IfOk c.seen_variables.result (λ vars. vars.items ≡ support_of c.args.kernel.now.order (value_at c.args.kernel.now c.args.f.now))
variables c =
    let t = c.args.kernel.now in
    let node = c.node_of-node.result.0 in
    let n = c.variables.result in
    let k = n - c.new-seen.result.len in
    let none = λ (v : ℕ). ap (λ (xs : List Bool). is_seen xs v) (c.deref_mut.ensures.value ∙ c.in_ok-resize.ensures.items ∙ ap (λ (xs : List Bool). take n xs ++ replicate k false) c.new-seen.ensures.items)
    ∙ get-filled n k v false in
    let same = ap (λ (xs : List Bool). filter (λ (v : Var). is_seen xs v.0) c.order.result.now) (kept c)
    ∙ ap (λ (vs : List Var). filter (λ (v : Var). is_seen c.see.new.seen v.0) vs) c.order.ensures.order
    ∙ support-is t node c.deref_mut.result.now c.see.new.seen none c.in_ok-see.ensures.more c.in_ok-see.ensures.here
    ∙ ap (λ (m : ℕ). support_of t.order (value_at t m)) c.node_of-node.ensures.place in
    subst (λ (xs : List Var). IfOk c.seen_variables.result (λ vars. vars.items ≡ xs)) same c.seen_variables.ensures

pub seen_variables-requires : goal.seen_variables-requires
seen_variables-requires c = λ k d less.
    let count = c.variables.ensures.count in
    let counted = c.in_ok-resize.ensures.len in
    let len = c.deref.ensures.len in
    item-below c.args.kernel.now c.order-order.ensures.sound c.order.result.now c.order.ensures.order d k (length c.deref.result.now) less (omega arith)

pub returns-clause-variables : goal.returns-clause-variables
returns-clause-variables c = variables c

pub returns-clause-exact : goal.returns-clause-exact
returns-clause-exact c = exact-told c.args.kernel.now c.args.f.now (λ vars. vars.items) c.seen_variables.result (variables c)
