-- One state more is there.
use Rattle.std.proofs.Common.{◌≡◌, ℕ, ◌+◌, List, [], ◌∷◌, ◌++◌, length, ap, sym, ◌∙◌, subst, arith}
use Rattle.dd_store.specs.Exhausted.{value_at}
use Rattle.dd_store.proofs.CountLemmas.{length-push}
use Rattle.dd_count.specs.States.{AreStates, HoldsStates, counted}
use Rattle.dd_count.proofs.CountedLemmas.{counted-none}
use Rattle.dd_count.proofs.StatesLemmas.{holds-none, holds-push, states-push}
use Rattle.dd_count.proofs.states.fill.Goals as goal

pub loop-before-init : goal.loop-before-init
loop-before-init c =
    let none = ap length c.requires.empty in
    record {
      held = subst (λ (hs : List ℕ). HoldsStates c.args.kernel.now c.args.kernel.now hs) (sym c.requires.empty) (holds-none c.args.kernel.now c.order-order.ensures.sound);
      states = λ i inside. absurd (omega arith);
      number = none;
      nodes = omega arith;
    }

pub loop-before-preserved : goal.loop-before-preserved
loop-before-preserved c =
    let begun = c.args.kernel.now in
    let t = c.loop-before.kernel in
    let u = c.constant.new.self in
    let states = c.loop-before.states.items in
    let h = c.in_ok-state.state in
    let before = c.loop-before.invariant in
    let keeps = c.constant.ensures.grows.keeps in
    let gain = c.in_ok-state.ensures.gained in
    let items : c.push_within_capacity.new.handles.items ≡ states ++ h ∷ [] = c.push_within_capacity.ensures ∙ ap (λ (hs : List ℕ). hs ++ h ∷ []) c.reserve.ensures.items in
    let value : value_at u h ≡ counted [] c.args.low c.args.high (length states)
    = (λ j a. (c.in_ok-state.ensures.value a ∙ c.is_within.ensures ∙ sym (counted-none [] c.args.low c.args.high c.loop-before.before a)) j)
    ∙ ap (λ (n : ℕ). counted [] c.args.low c.args.high n) (sym before.number) in
    record {
      held = subst (λ (hs : List ℕ). HoldsStates begun u hs) (sym items) (holds-push begun t u states h before.held keeps gain);
      states = subst (λ (hs : List ℕ). AreStates u [] c.args.low c.args.high hs) (sym items)
          (states-push begun t u [] c.args.low c.args.high states h before.held keeps gain before.states value);
      number = ap length items ∙ length-push states h ∙ ap (λ (n : ℕ). n + 1) before.number;
      nodes = let none = c.constant.ensures.grows.count in let so_far = before.nodes in omega arith;
    }
