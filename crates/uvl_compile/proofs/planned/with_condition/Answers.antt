-- The condition is made beside what is held, and both are met.
use Rattle.uvl_compile.specs.Conditions.{condition_at}
use Rattle.uvl_compile.proofs.HandleLemmas.{keeps-behind}
use Rattle.uvl_compile.proofs.StepLemmas.{meet-value}
use Rattle.uvl_compile.proofs.planned.with_condition.Goals as goal

pub returns-in-Ok-clause-value : goal.returns-in-Ok-clause-value
returns-in-Ok-clause-value c =
    meet-value c.args.kernel.now c.condition.new.kernel c.meet.new.kernel c.args.held c.in-Ok.made (condition_at c.args.map.now c.args.model.now c.args.number) c.meet.result
    c.in-Ok.ensures.keeps c.in-Ok.ensures.gained c.requires.live c.in-Ok.ensures.value c.meet.ensures.value

pub returns-in-Ok-clause-keeps : goal.returns-in-Ok-clause-keeps
returns-in-Ok-clause-keeps c =
    keeps-behind c.args.kernel.now c.condition.new.kernel c.meet.new.kernel c.in-Ok.made c.in-Ok.ensures.keeps c.in-Ok.ensures.gained c.meet.ensures.keeps
