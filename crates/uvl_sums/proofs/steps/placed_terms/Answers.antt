-- Each term is placed, and then all are sorted.
use Rattle.std.proofs.Common.{ℕ, ℤ, pos, get_or, ap, ◌∙◌, rules, arith, FitsSigned}
use Rattle.std.proofs.lemmas.Int.{ints}
use Rattle.std.proofs.lemmas.List.{take_all}
use Rattle.std.proofs.lemmas.List.Sorted.{IsNonDecreasingBy-from_sort_by_key}
use mir.Syntax.{w128}
use Rattle.uvl_sums.specs.Sums.{Term}
use Rattle.uvl_sums.proofs.StepLemmas.{placed_of, placed-more, sorted-terms, term-there}
use Rattle.uvl_sums.proofs.steps.placed_terms.Goals as goal

pub level-requires : goal.level-requires
level-requires c =
    let none : Term = (record { 0 = 0 }, pos 0) in
    term-there c.args.kernel.now.order c.args.terms.now c.loop-term.term-index none c.loop-term-test.true c.requires.variables.there

pub loop-term-preserved : goal.loop-term-preserved
loop-term-preserved c =
    let none : Term = (record { 0 = 0 }, pos 0) in
    let fits : FitsSigned w128 (get_or c.args.terms.now c.loop-term.term-index none).1 = search rules in
    placed-more c.args.kernel.now.order c.args.terms.now c.loop-term.term-index none c.loop-term.placed.items c.push.new.self.items c.level.result _ c.loop-term-test.true
    c.in_ok-push.ensures.items c.loop-term.invariant c.level.ensures (omega (arith, ints))

pub returns : goal.returns
returns c =
    sorted-terms c.args.kernel.now.order c.args.terms.now c.loop-term.placed.items c.sort_by_key.new.self.items
    c.order-order.ensures.sound.reduced.rows.distinct c.requires.variables.there c.requires.variables.distinct c.requires.size
    (c.loop-term.invariant ∙ ap (placed_of c.args.kernel.now.order) (take_all c.loop-term.term-index c.args.terms.now c.loop-term-test.false))
    c.in_ok-sort_by_key.ensures.permutation
    (IsNonDecreasingBy-from_sort_by_key (λ (p : ℕ × ℤ). p.0) _ c.in_ok-sort_by_key.ensures.sorted (λ a r q k. search rules))
