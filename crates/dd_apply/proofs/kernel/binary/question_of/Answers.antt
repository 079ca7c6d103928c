-- An operation is the same for both orders of its operands.
use Rattle.std.proofs.Common.{◌∙◌}
use Rattle.dd_store.specs.Exhausted.{value_at}
use Rattle.dd_apply.proofs.JoinLemmas.{swapped}
use Rattle.dd_apply.proofs.kernel.binary.question_of.Goals as goal

pub returns-else-a-b-clause-right : goal.returns-else-a-b-clause-right
returns-else-a-b-clause-right c = λ t r is. (is.1, is.0, is.2, is.3 ∙ swapped c.args.operation (value_at t c.args.b.0) (value_at t c.args.a.0))

pub returns-else-a-b-clause-asked : goal.returns-else-a-b-clause-asked
returns-else-a-b-clause-asked c = λ t f is. (is.1, is.0, is.2 ∙ swapped c.args.operation (value_at t c.args.a.0) (value_at t c.args.b.0))
