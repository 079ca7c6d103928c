-- By what is found first.
use Rattle.uvl_scope.proofs.OneAnswer.{one_answer}
use Rattle.uvl_scope.proofs.law.each_set_has_one_answer.Goals as goal

pub returns : goal.returns
returns c = one_answer
