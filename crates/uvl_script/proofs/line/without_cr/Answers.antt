-- The last byte tells whether it is dropped.
use Rattle.std.proofs.Common.{sym, ap, ◌∙◌}
use Rattle.uvl_script.specs.Lines.{without_cr}
use Rattle.uvl_script.proofs.LineEnds.{without_cr-cr, without_cr-other}
use Rattle.uvl_script.proofs.line.without_cr.Goals as goal

pub returns-then-last-eq13 : goal.returns-then-last-eq13
returns-then-last-eq13 c =
    sym (ap without_cr c.in-Some.ensures.cases.0 ∙ without_cr-cr c.in-Some.front.now c.in-Some.last.now c.if-last-eq13.true)

pub returns-else-last-eq13 : goal.returns-else-last-eq13
returns-else-last-eq13 c =
    c.in-Some.ensures.cases.0 ∙ sym (ap without_cr c.in-Some.ensures.cases.0 ∙ without_cr-other c.in-Some.front.now c.in-Some.last.now c.if-last-eq13.false)
