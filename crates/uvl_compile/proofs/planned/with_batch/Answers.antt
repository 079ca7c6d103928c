-- The conditions of the batch are made beside what is held, and both are met.
use Rattle.std.proofs.Common.{ap, ◌∙◌}
use Rattle.dd_store.specs.Exhausted.{value_at}
use Rattle.dd_store.specs.Size.{Function}
use Rattle.dd_store.proofs.CountLemmas.{live_gained}
use Rattle.dd_store.proofs.StayLemmas.{value-kept}
use Rattle.uvl_compile.specs.Conditions.{both}
use Rattle.uvl_compile.proofs.HandleLemmas.{keeps-behind}
use Rattle.uvl_compile.proofs.planned.with_batch.Goals as goal

pub returns-in_err-met-in-Ok-clause-keeps : goal.returns-in_err-met-in-Ok-clause-keeps
returns-in_err-met-in-Ok-clause-keeps c =
    keeps-behind c.args.kernel.now c.batch.new.kernel c.meet.new.kernel c.in-Ok.made c.in-Ok.ensures.keeps c.in-Ok.ensures.gained c.meet.ensures.keeps

pub returns-in_ok-met-in-Ok-clause-keeps : goal.returns-in_ok-met-in-Ok-clause-keeps
returns-in_ok-met-in-Ok-clause-keeps c =
    keeps-behind c.args.kernel.now c.batch.new.kernel c.meet.new.kernel c.in-Ok.made c.in-Ok.ensures.keeps c.in-Ok.ensures.gained c.meet.ensures.keeps

pub returns-in_ok-met-in-Ok-clause-so_far : goal.returns-in_ok-met-in-Ok-clause-so_far
returns-in_ok-met-in-Ok-clause-so_far c =
    let made = value_at c.batch.new.kernel c.in-Ok.made in
    let kept = value-kept c.args.kernel.now c.batch.new.kernel c.in-Ok.ensures.keeps c.args.held c.requires.live
    (live_gained c.in-Ok.ensures.gained c.args.held c.requires.live) in
    c.in_ok-met-in-Ok.ensures.value ∙ ap (λ (f : Function). both f made) (kept ∙ c.requires.so_far) ∙ c.in-Ok.ensures.so_far
