-- The bounds of the step at this place.
use Rattle.std.proofs.Common.{List, length, get_or, arith, ap, sym, ◌∙◌, rules, FitsSigned}
use Rattle.std.proofs.lemmas.Bool.{ltb-true}
use Rattle.std.proofs.lemmas.Int.{to_z-of_z}
use mir.Syntax.{w128}
use Rattle.uvl_sums.specs.declared.steps.Step.{Step}
use Rattle.uvl_sums.proofs.PartLemmas.{least-at, greatest-at}
use Rattle.uvl_sums.proofs.steps.Plan.reach.Goals as goal

pub returns-in-Some-clause-least : goal.returns-in-Some-clause-least
returns-in-Some-clause-least c =
    let steps = c.args.self.now.steps.items in
    let step = c.in-Some.step.now in
    let fits : FitsSigned w128 step.least = search rules in
    let size = ap length c.deref.ensures.value in
    let inside = ltb-true c.args.at (length c.deref.result.now) (sym c.in-Some.ensures.lookup.0) in
    to_z-of_z w128 step.least fits ∙ ap (λ (s : Step). s.least) c.in-Some.ensures.lookup.1
    ∙ ap (λ (ss : List Step). (get_or ss c.args.at step).least) c.deref.ensures.value
    ∙ least-at steps c.args.at step (omega arith) c.requires

pub returns-in-Some-clause-greatest : goal.returns-in-Some-clause-greatest
returns-in-Some-clause-greatest c =
    let steps = c.args.self.now.steps.items in
    let step = c.in-Some.step.now in
    let fits : FitsSigned w128 step.greatest = search rules in
    let size = ap length c.deref.ensures.value in
    let inside = ltb-true c.args.at (length c.deref.result.now) (sym c.in-Some.ensures.lookup.0) in
    to_z-of_z w128 step.greatest fits ∙ ap (λ (s : Step). s.greatest) c.in-Some.ensures.lookup.1
    ∙ ap (λ (ss : List Step). (get_or ss c.args.at step).greatest) c.deref.ensures.value
    ∙ greatest-at steps c.args.at step (omega arith) c.requires
