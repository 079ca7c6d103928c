-- One handle more is held, on the fork.
use Rattle.std.proofs.Common.{◌≡◌, ℕ, List, [], ◌∷◌, ◌++◌, length, slice_index, ap, sym, ◌∙◌, subst, arith}
use Rattle.std.proofs.lemmas.Result.{err_from_is_err_and}
use Rattle.dd_store.specs.Exhausted.{value_at, IsCauseFor}
use Rattle.dd_store.specs.Table.{IsLive, row_with}
use Rattle.dd_apply.specs.Split.{fork}
use Rattle.dd_count.proofs.StatesLemmas.{held-live, fork-cause}
use Rattle.uvl_sums.proofs.AddsLemmas.{place-read, adds-none, adds-one, value-last}
use Rattle.uvl_sums.proofs.hold.hold_fork.Goals as goal

pub node-requires-clause-low_live : goal.node-requires-clause-low_live
node-requires-clause-low_live c =
    let held = c.args.held.now.items in
    subst (λ (n : ℕ). IsLive c.args.kernel.now n)
    (sym (place-read held c.reserve.new.self.items c.args.low c.index.result.now c.reserve.ensures.items c.requires.low_there c.index.ensures))
    (held-live c.args.kernel.now held c.args.low c.requires.held c.requires.low_there)

pub node-requires-clause-high_live : goal.node-requires-clause-high_live
node-requires-clause-high_live c =
    let held = c.args.held.now.items in
    subst (λ (n : ℕ). IsLive c.args.kernel.now n)
    (sym (place-read held c.reserve.new.self.items c.args.high c.index-2.result.now c.reserve.ensures.items c.requires.high_there c.index-2.ensures))
    (held-live c.args.kernel.now held c.args.high c.requires.held c.requires.high_there)

pub returns-in_err-handle-clause-adds : goal.returns-in_err-handle-clause-adds
returns-in_err-handle-clause-adds c =
    let t = c.args.kernel.now in
    let held = c.args.held.now.items in
    adds-none t c.node.new.self held c.reserve.new.self.items (fork c.args.var.0 (value_at t (slice_index held c.args.low)) (value_at t (slice_index held c.args.high))) 2
    c.node.ensures.grows.keeps c.in_err-handle.ensures.refused c.reserve.ensures.items (omega arith)

pub returns-in_err-handle-clause-cause : goal.returns-in_err-handle-clause-cause
returns-in_err-handle-clause-cause c =
    let p = err_from_is_err_and c.from_residual-in_err-handle.result c.from_residual-in_err-handle.ensures.1 in
    let t = c.args.kernel.now in
    let u = c.node.new.self in
    let v = c.args.var.0 in
    let held = c.args.held.now.items in
    let r = c.in_err-handle.field-0.0 in
    let low = place-read held c.reserve.new.self.items c.args.low c.index.result.now c.reserve.ensures.items c.requires.low_there c.index.ensures in
    let high = place-read held c.reserve.new.self.items c.args.high c.index-2.result.now c.reserve.ensures.items c.requires.high_there c.index-2.ensures in
    let cause = subst (λ (n : ℕ). IsCauseFor t u (row_with v (slice_index held c.args.low) n) r) high
    (subst (λ (n : ℕ). IsCauseFor t u (row_with v n c.index-2.result.now) r) low c.in_err-handle.ensures.cause) in
    rw (p.1, p.2)
    (fork-cause t u v (slice_index held c.args.low) (slice_index held c.args.high) r c.node.ensures.grows.keeps c.in_err-handle.ensures.refused cause)

-- the list behind the call, and what its last handle is
items : (c : goal.After-push_within_capacity) → c.push_within_capacity.new.handles.items ≡ c.args.held.now.items ++ c.in_ok-handle.handle ∷ []
items c = c.push_within_capacity.ensures ∙ ap (λ (hs : List ℕ). hs ++ c.in_ok-handle.handle ∷ []) c.reserve.ensures.items

value : (c : goal.After-push_within_capacity) → value_at c.node.new.self c.in_ok-handle.handle
    ≡ fork c.args.var.0 (value_at c.args.kernel.now (slice_index c.args.held.now.items c.args.low)) (value_at c.args.kernel.now (slice_index c.args.held.now.items c.args.high))
value c =
    let t = c.args.kernel.now in
    let v = c.args.var.0 in
    let held = c.args.held.now.items in
    let low = place-read held c.reserve.new.self.items c.args.low c.index.result.now c.reserve.ensures.items c.requires.low_there c.index.ensures in
    let high = place-read held c.reserve.new.self.items c.args.high c.index-2.result.now c.reserve.ensures.items c.requires.high_there c.index-2.ensures in
    (λ j a. c.in_ok-handle.ensures.value a j)
    ∙ ap (λ (n : ℕ). fork v (value_at t n) (value_at t c.index-2.result.now)) low
    ∙ ap (λ (n : ℕ). fork v (value_at t (slice_index held c.args.low)) (value_at t n)) high

pub returns-clause-value : goal.returns-clause-value
returns-clause-value c =
    let t = c.args.kernel.now in
    let held = c.args.held.now.items in
    value-last c.node.new.self held c.push_within_capacity.new.handles.items (fork c.args.var.0 (value_at t (slice_index held c.args.low)) (value_at t (slice_index held c.args.high)))
    c.in_ok-handle.handle c.len-place.result (items c) (let size = c.len-place.ensures in let same = ap length c.reserve.ensures.items in omega arith) (value c)

pub returns-clause-adds : goal.returns-clause-adds
returns-clause-adds c =
    let t = c.args.kernel.now in
    let held = c.args.held.now.items in
    adds-one t c.node.new.self held c.push_within_capacity.new.handles.items (fork c.args.var.0 (value_at t (slice_index held c.args.low)) (value_at t (slice_index held c.args.high)))
    c.in_ok-handle.handle c.node.ensures.grows.keeps c.in_ok-handle.ensures.gained (items c) (value c)
