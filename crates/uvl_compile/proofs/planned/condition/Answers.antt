-- A group, or a rule behind the groups.
use Rattle.std.proofs.Common.{◌≤◌, length, ◌∙◌, arith}
use Rattle.std.proofs.lemmas.Bool.Decides.{nat_tests}
use Rattle.std.proofs.lemmas.Result.{IfOk-weaker}
use Rattle.uvl_compile.proofs.Marked.{rule-shown}
use Rattle.uvl_compile.proofs.planned.condition.Goals as goal

pub returns-in-None-clause-value : goal.returns-in-None-clause-value
returns-in-None-clause-value c =
    let behind : length c.groups-groups.result.now ≤ c.args.number = grind (arith, nat_tests, c.in-None.ensures.lookup) in
    IfOk-weaker c.quick_rule.result _ _
    (λ h is.
    (λ j a. is a j)
    ∙ rule-shown c.args.map.now c.args.model.now c.groups-groups.result.now c.rules-rules.result.now c.groups-groups.ensures.rows c.rules-rules.ensures.rows c.args.number
    c.index-rules-place.result behind c.requires.number c.index-rules-place.is)
    c.quick_rule.ensures.value
