-- One member after the other, from the last one up.
use Rattle.std.proofs.Common.{◌≡◌, ℕ, ◌*◌, ◌+◌, ◌-◌, ◌<◌, List, ◌++◌, length, take, drop, get_or, ap, sym, ◌∙◌, subst, arith, min}
use Rattle.std.proofs.lemmas.List.{take_at}
use Rattle.dd_store.specs.declared.row.Var.{Var}
use Rattle.dd_store.specs.Order.{IsIn}
use Rattle.dd_store.specs.Handles.{HoldsLess}
use Rattle.dd_store.specs.Table.{node_count}
use Rattle.dd_count.specs.Cardinality.{cardinality}
use Rattle.dd_count.specs.Levels.{variable_on, variables_on}
use Rattle.dd_count.specs.States.{AreBelow, HoldsStates, GoesOn}
use Rattle.dd_count.proofs.CountedLemmas.{falling-few}
use Rattle.dd_count.proofs.StatesLemmas.{released-keeps, released-handles, cause-stays}
use Rattle.dd_count.proofs.MembersLemmas.{nodes-refused, nodes-counted, no-fewer, AreCountedTo, counted-to-none, counted-to-all, counted-gains, member-there, member-above, member-cause, member-holds, member-counted, member-counted-short}
use Rattle.dd_count.proofs.cardinality.count_levels.Goals as goal

one-less : (left : ℕ) → 0 < left → left - 1 + 1 ≡ left
one-less left some = omega arith

pub last_states-requires : goal.last_states-requires
last_states-requires c =
    let few = falling-few 0 (length c.args.kernel.now.order) c.args.levels.now c.requires.falling c.requires.within (omega arith) in
    let most = c.order-order.ensures.sound.few_variables in
    let least = c.min-last.ensures in
    omega arith

pub loop-left-init : goal.loop-left-init
loop-left-init c =
    counted-to-none c.args.kernel.now c.last_states.new.kernel c.args.levels.now c.args.low c.args.high c.min-last.result c.in_ok-states.states.items
    c.in_ok-states.ensures.held c.in_ok-states.ensures.states c.in_ok-states.ensures.number (c.min-last.ensures ∙ ap (min (length c.args.levels.now)) c.last_state.ensures) c.last_states.ensures.nodes

pub count_member-requires-clause-variable : goal.count_member-requires-clause-variable
count_member-requires-clause-variable c =
    let begun = c.args.kernel.now in
    let left = c.loop-left.left in
    let l = get_or c.args.levels.now (left - 1) 0 in
    subst (λ (vs : List Var). IsIn c.loop-left.kernel.order (variable_on vs l).0) (sym (c.order.ensures.order ∙ c.loop-left.invariant.held.keeps.order))
    (member-there begun c.loop-left.kernel c.args.levels.now c.args.low c.args.high left (left - 1) c.loop-left.states.items c.order-order.ensures.sound c.requires.falling c.requires.within
    c.loop-left.invariant (one-less left c.loop-left-test.true))

pub count_member-requires-clause-below : goal.count_member-requires-clause-below
count_member-requires-clause-below c =
    let begun = c.args.kernel.now in
    let t = c.loop-left.kernel in
    let left = c.loop-left.left in
    let l = get_or c.args.levels.now (left - 1) 0 in
    subst (λ (hs : List ℕ). AreBelow t (variable_on c.order.result.now l).0 hs) (sym c.deref_mut.ensures.value)
    (subst (λ (vs : List Var). AreBelow t (variable_on vs l).0 c.loop-left.states.items) (sym (c.order.ensures.order ∙ c.loop-left.invariant.held.keeps.order))
    (member-above begun t c.args.levels.now c.args.low c.args.high left (left - 1) c.loop-left.states.items c.order-order.ensures.sound c.requires.falling c.requires.within
    c.loop-left.invariant (one-less left c.loop-left-test.true)))

-- a slice of the whole list is written back
abbrev behind : ℕ → List ℕ → List ℕ → List ℕ
behind n new old = take n (new ++ drop (length new) old)

-- the list behind the call
list : (c : goal.After-release_all) → behind c.loop-left.states.len c.count_member.new.states c.loop-left.states.items ≡ c.count_member.new.states
list c =
    take_at c.count_member.new.states (drop (length c.count_member.new.states) c.loop-left.states.items) c.loop-left.states.len
    (let size = c.count_member.auto.states in let len = c.deref_mut.ensures.len in omega arith)

holds : (c : goal.After-release_all) → HoldsStates c.args.kernel.now c.count_member.new.kernel c.count_member.new.states
holds c =
    member-holds c.args.kernel.now c.loop-left.kernel c.args.levels.now c.args.low c.args.high c.loop-left.left (c.loop-left.left - 1) c.loop-left.states.items
    c.order-order.ensures.sound c.requires.falling c.requires.within c.loop-left.invariant (one-less c.loop-left.left c.loop-left-test.true)
    c.count_member.new.kernel (variable_on c.order.result.now (get_or c.args.levels.now (c.loop-left.left - 1) 0)).0 c.deref_mut.result.now c.count_member.new.states
    (ap (λ (vs : List Var). (variable_on vs (get_or c.args.levels.now (c.loop-left.left - 1) 0)).0) (c.order.ensures.order ∙ c.loop-left.invariant.held.keeps.order)) c.deref_mut.ensures.value
    c.count_member.ensures.goes_on

pub returns-in-Err-clause-keeps : goal.returns-in-Err-clause-keeps
returns-in-Err-clause-keeps c =
    released-keeps c.args.kernel.now c.count_member.new.kernel c.release_all.new.self c.count_member.new.states (holds c) c.release_all.ensures.grows

pub returns-in-Err-clause-refused : goal.returns-in-Err-clause-refused
returns-in-Err-clause-refused c =
    released-handles c.args.kernel.now c.count_member.new.kernel c.release_all.new.self c.count_member.new.states (holds c)
    (subst (λ (hs : List ℕ). HoldsLess c.count_member.new.kernel c.release_all.new.self hs) (list c) c.release_all.ensures.less)

pub returns-in-Err-clause-cause : goal.returns-in-Err-clause-cause
returns-in-Err-clause-cause c =
    cause-stays c.args.kernel.now c.count_member.new.kernel c.release_all.new.self
    (cardinality (variables_on c.args.kernel.now.order c.args.levels.now) c.args.low c.args.high) c.in-Err.refusal c.release_all.ensures.grows
    (member-cause c.args.kernel.now c.loop-left.kernel c.args.levels.now c.args.low c.args.high c.loop-left.left (c.loop-left.left - 1) c.loop-left.states.items
    c.order-order.ensures.sound c.requires.falling c.requires.within c.loop-left.invariant (one-less c.loop-left.left c.loop-left-test.true)
    c.count_member.new.kernel (variable_on c.order.result.now (get_or c.args.levels.now (c.loop-left.left - 1) 0)).0 c.deref_mut.result.now c.count_member.new.states
    (ap (λ (vs : List Var). (variable_on vs (get_or c.args.levels.now (c.loop-left.left - 1) 0)).0) (c.order.ensures.order ∙ c.loop-left.invariant.held.keeps.order)) c.deref_mut.ensures.value
    c.in-Err.refusal c.in-Err.ensures.cause)

-- the list behind the call
list-else : (c : goal.Else-len-left) → behind c.loop-left.states.len c.count_member.new.states c.loop-left.states.items ≡ c.count_member.new.states
list-else c =
    take_at c.count_member.new.states (drop (length c.count_member.new.states) c.loop-left.states.items) c.loop-left.states.len
    (let size = c.count_member.auto.states in let len = c.deref_mut.ensures.len in omega arith)

pub loop-left-preserved : goal.loop-left-preserved
loop-left-preserved c =
    subst (λ (hs : List ℕ). AreCountedTo c.args.kernel.now c.count_member.new.kernel c.args.levels.now c.args.low c.args.high (c.loop-left.left - 1) hs) (sym (list-else c))
    (member-counted c.args.kernel.now c.loop-left.kernel c.args.levels.now c.args.low c.args.high c.loop-left.left (c.loop-left.left - 1) c.loop-left.states.items
    c.order-order.ensures.sound c.requires.falling c.requires.within c.loop-left.invariant (one-less c.loop-left.left c.loop-left-test.true)
    c.count_member.new.kernel (variable_on c.order.result.now (get_or c.args.levels.now (c.loop-left.left - 1) 0)).0 c.deref_mut.result.now c.count_member.new.states
    (ap (λ (vs : List Var). (variable_on vs (get_or c.args.levels.now (c.loop-left.left - 1) 0)).0) (c.order.ensures.order ∙ c.loop-left.invariant.held.keeps.order)) c.deref_mut.ensures.value
    c.in_default.ensures.forked c.count_member.auto.states c.count_member.ensures.goes_on
    (let few = c.if-len-left.false in let is = c.len.ensures in let size = c.count_member.auto.states in let len = c.deref_mut.ensures.len in omega arith)
    c.count_member.ensures.nodes)

-- the list behind the call
list-then : (c : goal.After-release_last) → behind c.loop-left.states.len c.count_member.new.states c.loop-left.states.items ≡ c.count_member.new.states
list-then c =
    take_at c.count_member.new.states (drop (length c.count_member.new.states) c.loop-left.states.items) c.loop-left.states.len
    (let size = c.count_member.auto.states in let len = c.deref_mut.ensures.len in omega arith)

pub loop-left-preserved-then-len-left : goal.loop-left-preserved-then-len-left
loop-left-preserved-then-len-left c =
    member-counted-short c.args.kernel.now c.loop-left.kernel c.args.levels.now c.args.low c.args.high c.loop-left.left (c.loop-left.left - 1) c.loop-left.states.items
    c.order-order.ensures.sound c.requires.falling c.requires.within c.loop-left.invariant (one-less c.loop-left.left c.loop-left-test.true)
    c.count_member.new.kernel (variable_on c.order.result.now (get_or c.args.levels.now (c.loop-left.left - 1) 0)).0 c.deref_mut.result.now c.count_member.new.states
    (ap (λ (vs : List Var). (variable_on vs (get_or c.args.levels.now (c.loop-left.left - 1) 0)).0) (c.order.ensures.order ∙ c.loop-left.invariant.held.keeps.order)) c.deref_mut.ensures.value
    c.in_default.ensures.forked c.count_member.auto.states c.release_last.new.kernel c.release_last.new.states.items
    (c.release_last.ensures.states ∙ ap (λ (hs : List ℕ). take (length hs - 1) hs) (list-then c)) c.count_member.ensures.goes_on
    (subst (λ (hs : List ℕ). GoesOn c.count_member.new.kernel hs c.release_last.new.kernel c.release_last.new.states.items) (list-then c) c.release_last.ensures.goes_on)
    c.release_last.ensures.grows
    (let many = c.if-len-left.true in let is = c.len.ensures in let size = c.count_member.auto.states in let len = c.deref_mut.ensures.len in omega arith)
    c.count_member.ensures.nodes

pub returns-clause-keeps : goal.returns-clause-keeps
returns-clause-keeps c = c.loop-left.invariant.held.keeps

pub returns-clause-gained : goal.returns-clause-gained
returns-clause-gained c =
    let all = counted-to-all c.args.kernel.now c.loop-left.kernel c.args.levels.now c.args.low c.args.high c.loop-left.left c.loop-left.states.items c.pop.new.self.items c.in-Some.state
    c.loop-left-test.false c.in-Some.ensures.items c.loop-left.invariant in
    counted-gains c.args.kernel.now c.loop-left.kernel c.loop-left.states.items c.in-Some.state c.loop-left.invariant.held all.0

pub returns-clause-value : goal.returns-clause-value
returns-clause-value c =
    (counted-to-all c.args.kernel.now c.loop-left.kernel c.args.levels.now c.args.low c.args.high c.loop-left.left c.loop-left.states.items c.pop.new.self.items c.in-Some.state
    c.loop-left-test.false c.in-Some.ensures.items c.loop-left.invariant).1

pub returns-in_err-states-clause-nodes : goal.returns-in_err-states-clause-nodes
returns-in_err-states-clause-nodes c =
    no-fewer (node_count c.last_states.new.kernel) (node_count c.args.kernel.now) (length c.args.levels.now * (c.args.high + 1)) c.last_states.ensures.nodes

pub returns-in-Err-clause-nodes : goal.returns-in-Err-clause-nodes
returns-in-Err-clause-nodes c =
    nodes-refused c.args.kernel.now c.loop-left.kernel c.args.levels.now c.args.low c.args.high c.loop-left.left (c.loop-left.left - 1) c.loop-left.states.items
    c.order-order.ensures.sound c.requires.falling c.requires.within c.loop-left.invariant (one-less c.loop-left.left c.loop-left-test.true)
    (node_count c.release_all.new.self)
    (let few = c.count_member.ensures.nodes in let none = c.release_all.ensures.grows.count in let same = ap length c.deref_mut.ensures.value in omega arith)

pub returns-clause-nodes : goal.returns-clause-nodes
returns-clause-nodes c =
    nodes-counted c.args.kernel.now c.loop-left.kernel c.args.levels.now c.args.low c.args.high c.loop-left.left c.loop-left.states.items c.loop-left.invariant
