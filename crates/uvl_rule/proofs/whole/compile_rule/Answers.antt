-- What the second way is refused for is said of the table at the call, since each live handle is one of that time.
use Rattle.std.proofs.Common.{ℕ, List, Result, Ok, Err, IfErr, arith}
use Rattle.dd_store.specs.declared.refusal.Refusal.{Refusal}
use Rattle.dd_store.specs.Changes.{Keeps}
use Rattle.dd_store.specs.Size.{Function}
use Rattle.dd_store.specs.Table.{Table, IsLive}
use Rattle.dd_store.proofs.ChangeLemmas.{keeps_then}
use Rattle.uvl_functions.specs.Cause.{IsShortFor}
use Rattle.uvl_functions.specs.Groups.{rule_groups}
use Rattle.uvl_functions.proofs.ShortLemmas.{cause-again}
use Rattle.uvl_rule.proofs.MeaningLemmas.{told-meaning}
use Rattle.uvl_rule.proofs.whole.compile_rule.Goals as goal

again : (t u : Table) (groups : List (List Function)) (result : Result ℕ Refusal) → Keeps t u → ((n : ℕ) → IsLive u n → IsLive t n)
    → IfErr result (IsShortFor u groups) → IfErr result (IsShortFor t groups)
again t u groups (Ok h) keeps was cause = tt
again t u groups (Err r) keeps was cause = cause-again t u groups r keeps was cause

kept : (c : goal.After-listed_rule) → Keeps c.args.kernel.now c.collect.new.self
kept c =
    keeps_then c.quick_rule.ensures.keeps c.collect.ensures.keeps (λ n before after. let same = c.collect.ensures.handles.each n in omega arith)

pub returns-in-Err-OverBudget-clause-cause : goal.returns-in-Err-OverBudget-clause-cause
returns-in-Err-OverBudget-clause-cause c =
    again c.args.kernel.now c.collect.new.self (rule_groups c.args.map.now c.args.model.now.features c.args.rule.now) c.listed_rule.result (kept c)
    (λ n live. let one = c.in-Err-OverBudget.ensures.refused.each n in let two = c.collect.ensures.handles.each n in omega arith)
    c.listed_rule.ensures.cause

pub returns-in-Err-OverBudget-clause-keeps : goal.returns-in-Err-OverBudget-clause-keeps
returns-in-Err-OverBudget-clause-keeps c =
    keeps_then (kept c) c.listed_rule.ensures.keeps
    (λ n before after. let one = c.in-Err-OverBudget.ensures.refused.each n in let two = c.collect.ensures.handles.each n in omega arith)

pub returns-in-Err-OverBudget-clause-meaning : goal.returns-in-Err-OverBudget-clause-meaning
returns-in-Err-OverBudget-clause-meaning c =
    told-meaning c.args.model.now c.args.map.now c.args.rule.now c.listed_rule.new.kernel c.listed_rule.result c.features.ensures.sound c.requires.rule
    c.listed_rule.ensures.value

pub returns-in_default-2-clause-meaning : goal.returns-in_default-2-clause-meaning
returns-in_default-2-clause-meaning c =
    told-meaning c.args.model.now c.args.map.now c.args.rule.now c.quick_rule.new.kernel c.quick_rule.result c.features.ensures.sound c.requires.rule
    c.quick_rule.ensures.value
