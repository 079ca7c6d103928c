-- The tree, and then rule by rule.
use Rattle.std.proofs.Common.{take, List, sym, ap, ◌∙◌}
use Rattle.std.proofs.lemmas.Result.{err_from_is_err_and}
use Rattle.dd_store.specs.Size.{Function}
use Rattle.uvl_model.specs.declared.rule.Rule.{Rule}
use Rattle.uvl_functions.specs.Functions.{model_function, rule_function}
use Rattle.uvl_compile.specs.Conditions.{both}
use Rattle.uvl_compile.proofs.HandleLemmas.{gain-replaced, keeps-behind}
use Rattle.uvl_compile.proofs.StepLemmas.{model-none, model-push, rule-of, rules-more, cause-tree, cause-step}
use Rattle.uvl_compile.proofs.listed.listed.Goals as goal

pub returns-in_err-products-clause-cause : goal.returns-in_err-products-clause-cause
returns-in_err-products-clause-cause c =
    let p = err_from_is_err_and c.from_residual.result c.from_residual.ensures.1 in
    rw (p.1, p.2) (cause-tree c.args.kernel.now c.args.map.now c.args.model.now c.in_err-products.field-0.0 c.in_err-products.ensures.cause)

pub loop-rule-init : goal.loop-rule-init
loop-rule-init c = record {
  value = (λ j a. c.in_ok-products.ensures.value a j) ∙ c.models_give_products.ensures.trees c.args.map.now c.args.model.now c.rules-rule-items.ensures.sound
      ∙ model-none c.args.map.now c.args.model.now;
  gained = c.in_ok-products.ensures.gained;
  keeps = c.in_ok-products.ensures.keeps;
}

pub returns-in_err-products-2-clause-keeps : goal.returns-in_err-products-2-clause-keeps
returns-in_err-products-2-clause-keeps c =
    keeps-behind c.args.kernel.now c.loop-rule.kernel c.with_rule.new.kernel c.loop-rule.products c.loop-rule.invariant.keeps c.loop-rule.invariant.gained
    c.in_err-products-2.ensures.keeps

pub returns-in_err-products-2-clause-cause : goal.returns-in_err-products-2-clause-cause
returns-in_err-products-2-clause-cause c =
    let p = err_from_is_err_and c.from_residual-in_err-products-2.result c.from_residual-in_err-products-2.ensures.1 in
    rw (p.1, p.2)
    (cause-step c.args.kernel.now c.loop-rule.kernel c.loop-rule.products c.args.map.now c.args.model.now c.loop-rule.rule-index c.rule-item.result
    c.in_err-products-2.field-0.0 c.loop-rule.invariant.keeps c.loop-rule.invariant.gained
    (rule-of c.rules-rule-items.result.now c.args.model.now.rules c.rules-rule-items.ensures.rows c.loop-rule.rule-index c.rule-item.result c.rule-item.is c.loop-rule-test.true)
    c.loop-rule.invariant.value c.in_err-products-2.ensures.cause)

pub loop-rule-preserved : goal.loop-rule-preserved
loop-rule-preserved c =
    let vars = c.args.map.now in
    let rows = c.args.model.now in
    let k = c.loop-rule.rule-index in
    let rules = c.args.model.now.rules in
    let rule = c.rule-item.result in
    record {
      value = c.in_ok-products-2.ensures.value ∙ ap (λ (f : Function). both f (rule_function vars rows.features rule)) c.loop-rule.invariant.value
          ∙ model-push vars rows (take k rules) rule
          ∙ ap (λ (rs : List Rule). model_function vars rows rs) (sym (rules-more c.rules-rule-items.result.now rules c.rules-rule-items.ensures.rows k rule c.rule-item.is c.loop-rule-test.true));
      gained = gain-replaced c.args.kernel.now c.loop-rule.kernel c.with_rule.new.kernel c.loop-rule.products c.in_ok-products-2.products c.loop-rule.invariant.gained
          c.in_ok-products-2.ensures.replaced;
      keeps = keeps-behind c.args.kernel.now c.loop-rule.kernel c.with_rule.new.kernel c.loop-rule.products c.loop-rule.invariant.keeps c.loop-rule.invariant.gained
          c.in_ok-products-2.ensures.keeps;
    }
