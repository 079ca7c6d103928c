-- By a plan, or as the groups list it.
use Rattle.std.proofs.Common.{◌≡◌, ℕ, sym, ap, ◌∙◌}
use Rattle.std.proofs.lemmas.Result.{IfOk-weaker}
use Rattle.dd_store.specs.Exhausted.{value_at}
use Rattle.dd_store.specs.Handles.{KeepsHandles}
use Rattle.dd_store.specs.Size.{Function}
use Rattle.uvl_functions.specs.Functions.{model_function}
use Rattle.uvl_functions.specs.Groups.{compile_groups}
use Rattle.uvl_compile.proofs.SameLemmas.{none-is, some-is, same-then, told-same}
use Rattle.uvl_compile.proofs.StepLemmas.{keeps-same}
use Rattle.uvl_compile.proofs.products.compile.Goals as goal

pub returns-in-Some-clause-value : goal.returns-in-Some-clause-value
returns-in-Some-clause-value c = λ a.
    let is = some-is c.in_ok-made.made c.in-Some.products (λ (h : ℕ). value_at c.fast.new.kernel h ≡ model_function c.args.map.now c.args.model.now c.args.model.now.rules)
    c.in-Some.is c.in_ok-made.ensures.value in
    ap (λ (f : Function). f a) (is ∙ sym (c.models_give_products.ensures.models c.args.map.now c.args.model.now c.rules.ensures.sound))

pub returns-in-None-clause-value : goal.returns-in-None-clause-value
returns-in-None-clause-value c =
    IfOk-weaker c.listed.result _ _
    (λ h is a.
    ap (λ (f : Function). f a) (is ∙ sym (c.models_give_products.ensures.models c.args.map.now c.args.model.now c.rules.ensures.sound)))
    c.listed.ensures.value

pub returns-in-None-clause-keeps : goal.returns-in-None-clause-keeps
returns-in-None-clause-keeps c =
    keeps-same c.args.kernel.now c.fast.new.kernel c.listed.new.kernel c.in_ok-made.ensures.keeps
    (none-is c.in_ok-made.made (KeepsHandles c.args.kernel.now c.fast.new.kernel) c.in-None.is c.in_ok-made.ensures.none)
    (keeps-same c.fast.new.kernel c.collect.new.self c.listed.new.kernel c.collect.ensures.keeps c.collect.ensures.handles c.listed.ensures.keeps)

pub returns-in-None-clause-cause : goal.returns-in-None-clause-cause
returns-in-None-clause-cause c =
    let none = none-is c.in_ok-made.made (KeepsHandles c.args.kernel.now c.fast.new.kernel) c.in-None.is c.in_ok-made.ensures.none in
    told-same c.args.kernel.now c.collect.new.self (compile_groups c.args.map.now c.args.model.now) c.listed.result
    (keeps-same c.args.kernel.now c.fast.new.kernel c.collect.new.self c.in_ok-made.ensures.keeps none c.collect.ensures.keeps)
    (same-then c.args.kernel.now c.fast.new.kernel c.collect.new.self none c.collect.ensures.handles) c.listed.ensures.cause
