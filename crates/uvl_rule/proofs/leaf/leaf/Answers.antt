-- A literal is refused only where the literals are too much, and a comparison is one of two numbers that a rule may have.
use Rattle.std.proofs.Common.{ap, ◌∙◌, sym, subst}
use Rattle.uvl_functions.specs.Functions.{comparison_function, rule_function}
use Rattle.uvl_model.specs.declared.rule.Number.{Number}
use Rattle.uvl_rule.specs.Comparisons.{AreSides}
use Rattle.uvl_rule.proofs.ComparisonLemmas.{cause-same, told-same}
use Rattle.uvl_rule.proofs.PartLemmas.{feature-cause, compare-cause, compare-is}
use Rattle.uvl_rule.proofs.ReadableLemmas.{sides-readable}
use Rattle.uvl_rule.proofs.leaf.leaf.Goals as goal

pub returns-in-Feature-clause-cause : goal.returns-in-Feature-clause-cause
returns-in-Feature-clause-cause c =
    feature-cause c.args.map.now c.args.model.now.features c.in-Feature.feature c.args.rule.now c.in-Feature.is c.args.kernel.now c.selected.result c.selected.ensures.cause

pub compile_comparison-requires-clause-sides : goal.compile_comparison-requires-clause-sides
compile_comparison-requires-clause-sides c =
    let node = c.in-Compare in
    subst (λ (l : Number). AreSides c.args.model.now l c.get-in-Compare.result.now) (sym c.get.ensures)
    (subst (λ (r : Number). AreSides c.args.model.now node.left r) (sym c.get-in-Compare.ensures)
    (sides-readable c.args.model.now c.args.rule.now node.how node.left node.right node.is c.requires.readable))

pub returns-in-Compare-clause-value : goal.returns-in-Compare-clause-value
returns-in-Compare-clause-value c =
    let vars = c.args.map.now in
    let features = c.args.model.now.features in
    let node = c.in-Compare in
    told-same c.compile_comparison.new.kernel (comparison_function vars features node.how c.get.result.now c.get-in-Compare.result.now)
    (rule_function vars features c.args.rule.now) c.compile_comparison.result
    (ap (λ (l : Number). comparison_function vars features node.how l c.get-in-Compare.result.now) c.get.ensures
    ∙ ap (λ (r : Number). comparison_function vars features node.how node.left r) c.get-in-Compare.ensures
    ∙ compare-is vars features node.how node.left node.right c.args.rule.now node.is)
    c.compile_comparison.ensures.value

pub returns-in-Compare-clause-cause : goal.returns-in-Compare-clause-cause
returns-in-Compare-clause-cause c =
    let vars = c.args.map.now in
    let features = c.args.model.now.features in
    let node = c.in-Compare in
    compare-cause vars features node.how node.left node.right c.args.rule.now node.is c.args.kernel.now c.compile_comparison.result
    (cause-same c.args.kernel.now (comparison_function vars features node.how c.get.result.now c.get-in-Compare.result.now)
    (comparison_function vars features node.how node.left node.right) c.compile_comparison.result
    (ap (λ (l : Number). comparison_function vars features node.how l c.get-in-Compare.result.now) c.get.ensures
    ∙ ap (λ (r : Number). comparison_function vars features node.how node.left r) c.get-in-Compare.ensures)
    c.compile_comparison.ensures.cause)
