-- The rule is made beside what is held, and both are met.
use Rattle.dd_store.specs.Exhausted.{value_at}
use Rattle.uvl_functions.specs.Functions.{rule_function}
use Rattle.uvl_compile.proofs.HandleLemmas.{keeps-behind}
use Rattle.uvl_compile.proofs.StepLemmas.{meet-value, cause-meet, cause-rule}
use Rattle.uvl_compile.proofs.listed.with_rule.Goals as goal

pub returns-in-Ok-clause-value : goal.returns-in-Ok-clause-value
returns-in-Ok-clause-value c =
    meet-value c.args.kernel.now c.listed_rule.new.kernel c.meet.new.kernel c.args.held c.in-Ok.made (rule_function c.args.map.now c.args.model.now.features c.args.rule.now) c.meet.result
    c.in-Ok.ensures.keeps c.in-Ok.ensures.gained c.requires.live (λ j a. c.in-Ok.ensures.value a j) c.meet.ensures.value

pub returns-in-Ok-clause-keeps : goal.returns-in-Ok-clause-keeps
returns-in-Ok-clause-keeps c =
    keeps-behind c.args.kernel.now c.listed_rule.new.kernel c.meet.new.kernel c.in-Ok.made c.in-Ok.ensures.keeps c.in-Ok.ensures.gained c.meet.ensures.keeps

pub returns-in-Ok-clause-cause : goal.returns-in-Ok-clause-cause
returns-in-Ok-clause-cause c =
    cause-meet c.args.kernel.now c.listed_rule.new.kernel c.args.held c.in-Ok.made c.args.map.now c.args.model.now.features c.args.rule.now c.in-Ok.ensures.keeps c.in-Ok.ensures.gained
    c.requires.live (λ j a. c.in-Ok.ensures.value a j) c.meet.result c.meet.ensures.cause

pub returns-in-Err-clause-cause : goal.returns-in-Err-clause-cause
returns-in-Err-clause-cause c =
    cause-rule c.args.kernel.now c.args.map.now c.args.model.now.features (value_at c.args.kernel.now c.args.held) c.args.rule.now c.in-Err.refusal c.in-Err.ensures.cause
