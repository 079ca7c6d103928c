-- The walk from the root, the levels above it, and the sweep.
use Rattle.std.proofs.Common.{◌≡◌, ◌⊎◌, ◌↔◌, ◌∙◌, ℕ, ◌+◌, ◌-◌, ◌<◌, ◌≤◌, Bool, true, List, ◌++◌, length, take, replicate, ap, subst, arith}
use Rattle.std.proofs.lemmas.List.{take_at}
use Rattle.dd_store.specs.Table.{level_of, IsVariable}
use Rattle.dd_quant.specs.steps.Given.{Allows}
use Rattle.dd_quant.specs.steps.Noted.{CanHave, HasNote, IsPassed}
use Rattle.dd_quant.proofs.NotedLemmas.{none-passed}
use Rattle.dd_quant.proofs.SweepLemmas.{noted-all}
use Rattle.dd_quant.proofs.walk.note_all.Goals as goal

pub returns-clause-each : goal.returns-clause-each
returns-clause-each c =
    let t = c.args.kernel.now in
    let values = c.args.values.now in
    let node = c.node_of-node.result.0 in
    let items = c.resize.new.self.items in
    let len = c.resize.new.self.len in
    let f0 = c.deref_mut.result.now in
    let f1 = c.note_from.new.far in
    let f1' = c.deref_mut-2.result.now in
    let f2 = c.reach.new.far in
    let f2' = c.deref.result.now in
    let r = c.in_ok-is_possible.is_possible in
    let o1 = c.note_from.new.offers in
    let o2 = c.open_passed.new.offers in
    let more = c.in_ok-is_possible.ensures.more in
    let counted = c.resize.new.self.ok.0 in
    let first = ap length c.deref_mut.ensures.value in
    let size1 : length f1 ≡ len = (let kept = more.far_number in omega arith) in
    let same1 : f1' ≡ f1 = c.deref_mut-2.ensures.value ∙ take_at f1 _ len size1 in
    let second = ap length same1 in
    let size2 : length f2 ≡ len = (let kept = c.reach.ensures.number in omega arith) in
    let same2 : f2' ≡ f2 = c.deref.ensures.value ∙ take_at f2 _ len size2 in
    let n = c.variables.result + 1 in
    let k = n - c.new-far.result.len in
    let fresh = none-passed n k f0 (c.deref_mut.ensures.value ∙ c.in_ok-resize.ensures.items ∙ ap (λ (xs : List ℕ). take n xs ++ replicate k 0) c.new-far.ensures.items) in
    let root = subst (λ (m : ℕ). (l : ℕ) → IsPassed f2 l ↔ (IsPassed f1 l ⊎ ((r ≡ true) × (0 ≤ l) × (l < m)))) c.top.ensures
    (subst (λ (f : List ℕ). (l : ℕ) → IsPassed f2 l ↔ (IsPassed f l ⊎ ((r ≡ true) × (0 ≤ l) × (l < c.top.result)))) same1 c.reach.ensures.passed) in
    let swept = subst (λ (f : List ℕ). (v : ℕ) (b : Bool) → IsVariable t v → HasNote o2 v b ↔ (HasNote o1 v b ⊎ (IsPassed f (level_of t v) × Allows values v b))) same2 c.open_passed.ensures in
    subst (λ (m : ℕ). (v : ℕ) (b : Bool) → IsVariable t v → HasNote o2 v b ↔ CanHave t values m v b) c.node_of-node.ensures.place
    (noted-all t c.order-order.ensures.sound values node c.args.offers.now o1 o2 f0 f1 f2 r c.requires.none fresh
    c.in_ok-is_possible.ensures.value c.in_ok-is_possible.ensures.from more root swept)
