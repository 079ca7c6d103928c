-- All conditions are met.
use Rattle.std.proofs.Common.{sym, ◌∙◌}
use Rattle.uvl_compile.proofs.Marked.{all-met}
use Rattle.uvl_compile.proofs.planned.by_marks.Goals as goal

pub returns-then-all_done-clause-value : goal.returns-then-all_done-clause-value
returns-then-all_done-clause-value c =
    c.in_ok-held.ensures.so_far
    ∙ all-met c.args.map.now c.args.model.now c.follow.new.done (c.in_ok-held.ensures.count ∙ c.requires.count) (sym c.all_done.ensures ∙ c.if-all_done.true)
