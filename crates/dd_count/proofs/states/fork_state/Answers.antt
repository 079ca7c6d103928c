-- A state is made anew, and the old one is given back.
use Rattle.std.proofs.Common.{◌≡◌, ℕ, ◌+◌, ◌<◌, length, set, slice_index, refl, ap, sym, ◌∙◌, subst, arith}
use Rattle.std.proofs.lemmas.List.{get_or_read, get_or_default, get_or-set_same}
use Rattle.std.proofs.lemmas.Result.{err_from_is_err_and}
use Rattle.dd_store.specs.Exhausted.{value_at, IsCauseFor}
use Rattle.dd_store.specs.Table.{IsLive, row_with}
use Rattle.dd_store.proofs.CountLemmas.{live_gained}
use Rattle.dd_apply.specs.Split.{fork}
use Rattle.dd_count.proofs.StatesLemmas.{held-live, goes-on-same, fork-cause, anew-goes-on, anew-held, anew-value}
use Rattle.dd_count.proofs.states.fork_state.Goals as goal

-- there is a state behind this one, so this one is there
here : (n b : ℕ) → b + 1 < n → b < n
here n b within = omega arith

pub node-requires-clause-low_live : goal.node-requires-clause-low_live
node-requires-clause-low_live c =
    let states = c.args.states.now in
    let inside = here (length states) c.args.before c.requires.within in
    subst (λ (n : ℕ). IsLive c.args.kernel.now n) (sym (get_or_read states c.args.before c.index-states-before.result inside c.index-states-before.is 0))
    (held-live c.args.kernel.now states c.args.before c.requires.held inside)

pub node-requires-clause-high_live : goal.node-requires-clause-high_live
node-requires-clause-high_live c =
    let states = c.args.states.now in
    subst (λ (n : ℕ). IsLive c.args.kernel.now n) (sym (get_or_read states (c.args.before + 1) c.index-states-before-2.result c.requires.within c.index-states-before-2.is 0))
    (held-live c.args.kernel.now states (c.args.before + 1) c.requires.held c.requires.within)

pub returns-in_err-forked-clause-goes_on : goal.returns-in_err-forked-clause-goes_on
returns-in_err-forked-clause-goes_on c =
    goes-on-same c.args.kernel.now c.node.new.self c.args.states.now c.args.states.now c.node.ensures.grows.keeps c.in_err-forked.ensures.refused refl

pub returns-in_err-forked-clause-cause : goal.returns-in_err-forked-clause-cause
returns-in_err-forked-clause-cause c =
    let p = err_from_is_err_and c.from_residual.result c.from_residual.ensures.1 in
    let t = c.args.kernel.now in
    let u = c.node.new.self in
    let v = c.args.member.0 in
    let states = c.args.states.now in
    let r = c.in_err-forked.field-0.0 in
    let low = get_or_read states c.args.before c.index-states-before.result (here (length states) c.args.before c.requires.within) c.index-states-before.is 0 in
    let high = get_or_read states (c.args.before + 1) c.index-states-before-2.result c.requires.within c.index-states-before-2.is 0 in
    let cause = subst (λ (n : ℕ). IsCauseFor t u (row_with v (slice_index states c.args.before) n) r) high
    (subst (λ (n : ℕ). IsCauseFor t u (row_with v n c.index-states-before-2.result) r) low c.in_err-forked.ensures.cause) in
    rw (p.1, p.2)
    (fork-cause t u v (slice_index states c.args.before) (slice_index states (c.args.before + 1)) r c.node.ensures.grows.keeps c.in_err-forked.ensures.refused cause)

pub release-requires : goal.release-requires
release-requires c =
    let states = c.args.states.now in
    let inside = here (length states) c.args.before c.requires.within in
    let is = c.replace-unforked.ensures.value ∙ get_or_default states c.args.before c.index-states-before-3.result 0 inside in
    subst (λ (n : ℕ). IsLive c.node.new.self n) (sym is)
    (live_gained c.in_ok-forked.ensures.gained (slice_index states c.args.before) (held-live c.args.kernel.now states c.args.before c.requires.held inside))

-- the list before and after
anew : (c : goal.After-release) → c.replace-unforked.result ≡ slice_index c.args.states.now c.args.before
anew c =
    c.replace-unforked.ensures.value
    ∙ get_or_default c.args.states.now c.args.before c.index-states-before-3.result 0 (here (length c.args.states.now) c.args.before c.requires.within)

is_set : (c : goal.After-release) → set c.args.states.now c.args.before c.replace-unforked.new.dest ≡ set c.args.states.now c.args.before c.in_ok-forked.forked
is_set c = ap (λ (n : ℕ). set c.args.states.now c.args.before n) c.replace-unforked.ensures.after

pub returns-clause-value : goal.returns-clause-value
returns-clause-value c =
    let t = c.args.kernel.now in
    let v = c.args.member.0 in
    let states = c.args.states.now in
    let inside = here (length states) c.args.before c.requires.within in
    let low = get_or_read states c.args.before c.index-states-before.result inside c.index-states-before.is 0 in
    let high = get_or_read states (c.args.before + 1) c.index-states-before-2.result c.requires.within c.index-states-before-2.is 0 in
    anew-value t c.node.new.self c.release.new.self states (set states c.args.before c.replace-unforked.new.dest) c.args.before c.replace-unforked.result c.in_ok-forked.forked
    inside (anew c) (is_set c) c.node.ensures.grows.keeps c.in_ok-forked.ensures.gained c.release.ensures.lost c.release.ensures.grows
    (fork v (value_at t c.index-states-before.result) (value_at t c.index-states-before-2.result)) c.in_ok-forked.ensures.value
    (get_or-set_same states c.args.before c.replace-unforked.new.dest 0 inside ∙ c.replace-unforked.ensures.after)
    ∙ ap (λ (n : ℕ). fork v (value_at t n) (value_at t c.index-states-before-2.result)) low
    ∙ ap (λ (n : ℕ). fork v (value_at t (slice_index states c.args.before)) (value_at t n)) high

pub returns-clause-held : goal.returns-clause-held
returns-clause-held c =
    let states = c.args.states.now in
    anew-held c.args.kernel.now c.node.new.self c.release.new.self states (set states c.args.before c.replace-unforked.new.dest) c.args.before c.replace-unforked.result c.in_ok-forked.forked
    (here (length states) c.args.before c.requires.within) (anew c) (is_set c) c.node.ensures.grows.keeps c.in_ok-forked.ensures.gained c.release.ensures.lost c.release.ensures.grows
    c.requires.held

pub returns-clause-goes_on : goal.returns-clause-goes_on
returns-clause-goes_on c =
    let states = c.args.states.now in
    anew-goes-on c.args.kernel.now c.node.new.self c.release.new.self states (set states c.args.before c.replace-unforked.new.dest) c.args.before c.replace-unforked.result c.in_ok-forked.forked
    (here (length states) c.args.before c.requires.within) (anew c) (is_set c) c.node.ensures.grows.keeps c.in_ok-forked.ensures.gained c.release.ensures.lost c.release.ensures.grows

pub returns-in_err-forked-clause-nodes : goal.returns-in_err-forked-clause-nodes
returns-in_err-forked-clause-nodes c = c.node.ensures.grows.count

pub returns-clause-nodes : goal.returns-clause-nodes
returns-clause-nodes c = let one = c.node.ensures.grows.count in let two = c.release.ensures.grows.count in omega arith
