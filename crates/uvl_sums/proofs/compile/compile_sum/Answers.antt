-- What is held is given back, and the value is that of the comparison.
use Rattle.std.proofs.Common.{◌+◌, ◌^◌, length}
use Rattle.uvl_sums.specs.Steps.{terms_of, remaining}
use Rattle.uvl_sums.specs.Sums.{comparison}
use Rattle.uvl_sums.proofs.CompileLemmas.{all-live, one-left, none-left, all-keeps, all-value, all-cause, plan-value, few-steps}
use Rattle.uvl_sums.proofs.compile.compile_sum.Goals as goal

pub release_all-requires : goal.release_all-requires
release_all-requires c = all-live c.args.kernel.now c.compile_plan-made.new.kernel c.compile_plan-made.new.held.items c.compile_plan-made.result c.compile_plan-made.ensures.gained c.compile_plan-made.ensures.refused

pub returns-clause-value : goal.returns-clause-value
returns-clause-value c = all-value c.args.kernel.now c.compile_plan-made.new.kernel c.release_all.new.self c.compile_plan-made.new.held.items c.release_all.ensures.less c.release_all.ensures.grows (remaining c.in_ok-plan.plan.exact (terms_of c.in_ok-plan.plan.steps.items) c.in_ok-plan.plan.start) (comparison c.args.how c.args.sum.now.terms.items c.args.sum.now.constant) c.compile_plan-made.result (plan-value c.args.kernel.now.order c.args.how c.args.sum.now.terms.items c.args.sum.now.constant c.in_ok-plan.plan c.in_ok-plan.ensures) c.compile_plan-made.ensures.value

pub returns-clause-gained : goal.returns-clause-gained
returns-clause-gained c = one-left c.args.kernel.now c.compile_plan-made.new.kernel c.release_all.new.self c.compile_plan-made.new.held.items c.release_all.ensures.less c.release_all.ensures.grows c.compile_plan-made.result c.compile_plan-made.ensures.gained

pub returns-clause-refused : goal.returns-clause-refused
returns-clause-refused c = none-left c.args.kernel.now c.compile_plan-made.new.kernel c.release_all.new.self c.compile_plan-made.new.held.items c.release_all.ensures.less c.release_all.ensures.grows c.compile_plan-made.result c.compile_plan-made.ensures.refused

pub returns-clause-keeps : goal.returns-clause-keeps
returns-clause-keeps c = all-keeps c.args.kernel.now c.compile_plan-made.new.kernel c.release_all.new.self c.compile_plan-made.new.held.items c.release_all.ensures.less c.release_all.ensures.grows c.compile_plan-made.result c.compile_plan-made.ensures.gained c.compile_plan-made.ensures.refused c.compile_plan-made.ensures.keeps

pub returns-clause-cause : goal.returns-clause-cause
returns-clause-cause c =
    all-cause c.args.kernel.now c.compile_plan-made.new.kernel c.release_all.new.self c.compile_plan-made.new.held.items c.release_all.ensures.less c.release_all.ensures.grows (remaining c.in_ok-plan.plan.exact (terms_of c.in_ok-plan.plan.steps.items) c.in_ok-plan.plan.start) (comparison c.args.how c.args.sum.now.terms.items c.args.sum.now.constant) (2 ^ (length c.in_ok-plan.plan.steps.items + 1)) c.compile_plan-made.result c.order-order.ensures.sound (plan-value c.args.kernel.now.order c.args.how c.args.sum.now.terms.items c.args.sum.now.constant c.in_ok-plan.plan c.in_ok-plan.ensures) (few-steps c.args.kernel.now.order c.in_ok-plan.plan.steps.items c.in_ok-plan.ensures.planned) c.compile_plan-made.ensures.cause
