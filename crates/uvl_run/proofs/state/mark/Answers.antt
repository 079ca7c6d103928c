-- Each name that is that of a feature goes to those that the marks stand for.
use Rattle.std.proofs.Common.{◌≡◌, Bool, false, length, replicate, List, [], sym, subst, arith}
use Rattle.dd_store.specs.Follow.{assignment_of}
use Rattle.uvl_functions.specs.Variables.{marks_under}
use Rattle.uvl_model.specs.Marks.{StandFor}
use Rattle.uvl_model.specs.Products.{Products}
use Rattle.uvl_run.proofs.Marking.{stand-none, stand-next}
use Rattle.uvl_run.proofs.state.mark.Goals as goal

pub loop-name-init : goal.loop-name-init
loop-name-init c =
    let blank : c.fill.new.self ≡ replicate (length c.args.assignment.now) false = c.fill.ensures.after (λ y e. e) in
    let P : List Bool → Type 0 = λ marks. StandFor (Products c.args.model.now).names (marks_under c.args.vars.now (assignment_of marks)) [] in
    subst P (sym blank) (stand-none (Products c.args.model.now).names c.args.vars.now (length c.args.assignment.now))

pub loop-name-preserved : goal.loop-name-preserved
loop-name-preserved c =
    let found = c.in-Some.ensures in
    let size : length c.loop-name.assignment ≡ length c.args.assignment.now = omega (arith, c.loop-name.auto.assignment, c.fill.ensures.len) in
    stand-next (Products c.args.model.now).names c.args.vars.now c.loop-name.assignment c.args.names.now c.loop-name.name-index c.name-item.result c.in-Some.feature (length c.args.assignment.now) c.loop-name-test.true c.name-item.is
    (omega (arith, found.within, c.requires.count)) size c.requires.distinct c.requires.there found.known found.placed c.loop-name.invariant
