-- One state after the other is forked.
use Rattle.std.proofs.Common.{◌+◌, List, sym, subst, arith}
use Rattle.std.proofs.lemmas.Result.{err_from_is_err_and}
use Rattle.dd_store.specs.declared.row.Var.{Var}
use Rattle.dd_store.specs.Order.{IsIn}
use Rattle.dd_count.proofs.StatesLemmas.{forked-none, forked-more, forked-all, forked-cause}
use Rattle.dd_count.proofs.states.count_member.Goals as goal

pub loop-before-init : goal.loop-before-init
loop-before-init c = forked-none c.args.kernel.now c.args.member.0 c.args.states.now c.order-order.ensures.sound c.requires.held c.requires.below

pub fork_state-requires-clause-variable : goal.fork_state-requires-clause-variable
fork_state-requires-clause-variable c = subst (λ (vs : List Var). IsIn vs c.args.member.0) (sym c.loop-before.invariant.order) c.requires.variable

pub fork_state-requires-clause-held : goal.fork_state-requires-clause-held
fork_state-requires-clause-held c = c.loop-before.invariant.held

pub fork_state-requires-clause-above_low : goal.fork_state-requires-clause-above_low
fork_state-requires-clause-above_low c = c.loop-before.invariant.below c.loop-before.before (omega arith) (let size = c.loop-before.invariant.size in omega arith)

pub fork_state-requires-clause-above_high : goal.fork_state-requires-clause-above_high
fork_state-requires-clause-above_high c = c.loop-before.invariant.below (c.loop-before.before + 1) (omega arith) (let size = c.loop-before.invariant.size in omega arith)

pub loop-before-preserved : goal.loop-before-preserved
loop-before-preserved c =
    forked-more c.args.kernel.now c.loop-before.kernel c.fork_state.new.kernel c.args.member.0 c.args.states.now c.loop-before.states c.fork_state.new.states c.loop-before.before
    (let test = c.loop-before-test.true in omega arith) c.loop-before.invariant c.in_ok-fork_state.ensures.value c.fork_state.ensures.others c.fork_state.auto.states
    c.fork_state.ensures.held c.fork_state.ensures.keeps c.fork_state.ensures.goes_on c.fork_state.ensures.nodes

pub returns-clause-forked : goal.returns-clause-forked
returns-clause-forked c =
    forked-all c.args.kernel.now c.loop-before.kernel c.args.member.0 c.args.states.now c.loop-before.states c.loop-before.before
    (let test = c.loop-before-test.false in omega arith) (let end = c.loop-before.auto.before-end in let some = c.requires.some in omega arith) c.loop-before.invariant

pub returns-in_err-fork_state-clause-cause : goal.returns-in_err-fork_state-clause-cause
returns-in_err-fork_state-clause-cause c =
    let p = err_from_is_err_and c.from_residual.result c.from_residual.ensures.1 in
    rw (p.1, p.2)
    (forked-cause c.args.kernel.now c.loop-before.kernel c.fork_state.new.kernel c.args.member.0 c.args.states.now c.loop-before.states c.loop-before.before
    (let test = c.loop-before-test.true in omega arith) c.loop-before.invariant c.in_err-fork_state.field-0.0 c.in_err-fork_state.ensures.cause)

pub returns-in_err-fork_state-clause-nodes : goal.returns-in_err-fork_state-clause-nodes
returns-in_err-fork_state-clause-nodes c =
    let so_far = c.loop-before.invariant.nodes in let one = c.fork_state.ensures.nodes in let test = c.loop-before-test.true in omega arith

pub returns-clause-nodes : goal.returns-clause-nodes
returns-clause-nodes c = let all = c.loop-before.invariant.nodes in let end = c.loop-before.auto.before-end in let some = c.requires.some in omega arith
