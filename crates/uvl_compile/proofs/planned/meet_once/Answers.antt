-- The condition is met, and marked.
use Rattle.std.proofs.Common.{◌≡◌, ◌<◌, false, length, get_or, ap, ◌∙◌, arith}
use Rattle.dd_store.specs.Exhausted.{value_at}
use Rattle.dd_store.specs.Size.{Function}
use Rattle.uvl_compile.specs.Conditions.{condition_at, both}
use Rattle.uvl_compile.proofs.Marked.{both-assoc, one-more, other-default}
use Rattle.uvl_compile.proofs.planned.meet_once.Goals as goal

pub returns-clause-so_far : goal.returns-clause-so_far
returns-clause-so_far c = λ f start.
    let less : c.args.number < length c.args.done.now = omega arith in
    let none : get_or c.args.done.now c.args.number false ≡ false = c.if-done-number.false in
    let more = condition_at c.args.map.now c.args.model.now c.args.number in
    ap (both f) c.in_ok-met.ensures.value ∙ both-assoc f (value_at c.args.kernel.now c.args.held) more ∙ ap (λ (g : Function). both g more) start
    ∙ one-more c.args.map.now c.args.model.now c.args.done.now c.args.number c.requires.count less (other-default c.args.done.now c.args.number _ _ less ∙ none)
