-- Sides change for a comparison the other way round, and `!=` is the opposite of `==`.
use Rattle.std.proofs.Common.{ap, ◌∙◌}
use Rattle.std.proofs.lemmas.Result.{err_from_is_err_and}
use Rattle.dd_store.specs.Exhausted.{value_at}
use Rattle.dd_store.proofs.ChangeLemmas.{keeps_then}
use Rattle.dd_store.proofs.CountLemmas.{live_gained}
use Rattle.uvl_functions.specs.RuleParts.{opposite}
use Rattle.uvl_sums.specs.declared.linear.Cmp3.TheVariants as cmp3
use Rattle.uvl_functions.specs.Functions.{comparison_function}
use Rattle.uvl_rule.specs.Comparisons.{difference_function}
use Rattle.uvl_rule.proofs.ComparisonLemmas.{told-same, cause-same, opposite-cause, negated-refused, same-Equal, same-Differs, same-Less, same-AtMost, same-Greater, same-AtLeast}
use Rattle.uvl_rule.proofs.comparison.compile_comparison.Goals as goal

pub returns-in-Equal-clause-value : goal.returns-in-Equal-clause-value
returns-in-Equal-clause-value c =
    let vars = c.args.map.now in
    let rows = c.args.model.now.features in
    told-same c.compare.new.kernel (difference_function vars rows cmp3.Equal c.args.left.now c.args.right.now)
    (comparison_function vars rows c.args.how c.args.left.now c.args.right.now) c.compare.result
    (same-Equal vars rows c.args.left.now c.args.right.now c.args.how c.in-Equal.is) c.compare.ensures.value

pub returns-in-Equal-clause-cause : goal.returns-in-Equal-clause-cause
returns-in-Equal-clause-cause c =
    let vars = c.args.map.now in
    let rows = c.args.model.now.features in
    cause-same c.args.kernel.now (difference_function vars rows cmp3.Equal c.args.left.now c.args.right.now)
    (comparison_function vars rows c.args.how c.args.left.now c.args.right.now) c.compare.result
    (same-Equal vars rows c.args.left.now c.args.right.now c.args.how c.in-Equal.is) c.compare.ensures.cause

pub returns-in_err-equal-in-Differs-clause-cause : goal.returns-in_err-equal-in-Differs-clause-cause
returns-in_err-equal-in-Differs-clause-cause c =
    let p = err_from_is_err_and c.from_residual.result c.from_residual.ensures.1 in
    let vars = c.args.map.now in
    let rows = c.args.model.now.features in
    let f = difference_function vars rows cmp3.Equal c.args.left.now c.args.right.now in
    cause-same c.args.kernel.now (opposite f) (comparison_function vars rows c.args.how c.args.left.now c.args.right.now) c.from_residual.result
    (same-Differs vars rows c.args.left.now c.args.right.now c.args.how c.in-Differs.is)
    (rw (p.1, p.2) (opposite-cause c.args.kernel.now f c.in_err-equal-in-Differs.field-0.0 c.in_err-equal-in-Differs.ensures.cause))

pub returns-in_ok-equal-in-Differs-clause-value : goal.returns-in_ok-equal-in-Differs-clause-value
returns-in_ok-equal-in-Differs-clause-value c =
    let vars = c.args.map.now in
    let rows = c.args.model.now.features in
    told-same c.negate.new.kernel (opposite (value_at c.compare-in-Differs.new.kernel c.in_ok-equal-in-Differs.equal))
    (comparison_function vars rows c.args.how c.args.left.now c.args.right.now) c.negate.result
    (ap opposite c.in_ok-equal-in-Differs.ensures.value ∙ same-Differs vars rows c.args.left.now c.args.right.now c.args.how c.in-Differs.is)
    c.negate.ensures.value

pub returns-in_ok-equal-in-Differs-clause-keeps : goal.returns-in_ok-equal-in-Differs-clause-keeps
returns-in_ok-equal-in-Differs-clause-keeps c =
    keeps_then c.in_ok-equal-in-Differs.ensures.keeps c.negate.ensures.keeps (λ n before after. live_gained c.in_ok-equal-in-Differs.ensures.gained n before)

pub returns-in_ok-equal-in-Differs-clause-cause : goal.returns-in_ok-equal-in-Differs-clause-cause
returns-in_ok-equal-in-Differs-clause-cause c =
    let vars = c.args.map.now in
    let rows = c.args.model.now.features in
    let f = difference_function vars rows cmp3.Equal c.args.left.now c.args.right.now in
    cause-same c.args.kernel.now (opposite f) (comparison_function vars rows c.args.how c.args.left.now c.args.right.now) c.negate.result
    (same-Differs vars rows c.args.left.now c.args.right.now c.args.how c.in-Differs.is)
    (negated-refused c.args.kernel.now c.compare-in-Differs.new.kernel c.in_ok-equal-in-Differs.equal f c.negate.result
    c.in_ok-equal-in-Differs.ensures.keeps c.in_ok-equal-in-Differs.ensures.gained c.in_ok-equal-in-Differs.ensures.value c.negate.ensures.cause)

pub returns-in-Less-clause-value : goal.returns-in-Less-clause-value
returns-in-Less-clause-value c =
    let vars = c.args.map.now in
    let rows = c.args.model.now.features in
    told-same c.compare-in-Less.new.kernel (difference_function vars rows cmp3.Less c.args.left.now c.args.right.now)
    (comparison_function vars rows c.args.how c.args.left.now c.args.right.now) c.compare-in-Less.result
    (same-Less vars rows c.args.left.now c.args.right.now c.args.how c.in-Less.is) c.compare-in-Less.ensures.value

pub returns-in-Less-clause-cause : goal.returns-in-Less-clause-cause
returns-in-Less-clause-cause c =
    let vars = c.args.map.now in
    let rows = c.args.model.now.features in
    cause-same c.args.kernel.now (difference_function vars rows cmp3.Less c.args.left.now c.args.right.now)
    (comparison_function vars rows c.args.how c.args.left.now c.args.right.now) c.compare-in-Less.result
    (same-Less vars rows c.args.left.now c.args.right.now c.args.how c.in-Less.is) c.compare-in-Less.ensures.cause

pub returns-in-AtMost-clause-value : goal.returns-in-AtMost-clause-value
returns-in-AtMost-clause-value c =
    let vars = c.args.map.now in
    let rows = c.args.model.now.features in
    told-same c.compare-in-AtMost.new.kernel (difference_function vars rows cmp3.AtMost c.args.left.now c.args.right.now)
    (comparison_function vars rows c.args.how c.args.left.now c.args.right.now) c.compare-in-AtMost.result
    (same-AtMost vars rows c.args.left.now c.args.right.now c.args.how c.in-AtMost.is) c.compare-in-AtMost.ensures.value

pub returns-in-AtMost-clause-cause : goal.returns-in-AtMost-clause-cause
returns-in-AtMost-clause-cause c =
    let vars = c.args.map.now in
    let rows = c.args.model.now.features in
    cause-same c.args.kernel.now (difference_function vars rows cmp3.AtMost c.args.left.now c.args.right.now)
    (comparison_function vars rows c.args.how c.args.left.now c.args.right.now) c.compare-in-AtMost.result
    (same-AtMost vars rows c.args.left.now c.args.right.now c.args.how c.in-AtMost.is) c.compare-in-AtMost.ensures.cause

pub returns-in-Greater-clause-value : goal.returns-in-Greater-clause-value
returns-in-Greater-clause-value c =
    let vars = c.args.map.now in
    let rows = c.args.model.now.features in
    told-same c.compare-in-Greater.new.kernel (difference_function vars rows cmp3.Less c.args.right.now c.args.left.now)
    (comparison_function vars rows c.args.how c.args.left.now c.args.right.now) c.compare-in-Greater.result
    (same-Greater vars rows c.args.left.now c.args.right.now c.args.how c.in-Greater.is) c.compare-in-Greater.ensures.value

pub returns-in-Greater-clause-cause : goal.returns-in-Greater-clause-cause
returns-in-Greater-clause-cause c =
    let vars = c.args.map.now in
    let rows = c.args.model.now.features in
    cause-same c.args.kernel.now (difference_function vars rows cmp3.Less c.args.right.now c.args.left.now)
    (comparison_function vars rows c.args.how c.args.left.now c.args.right.now) c.compare-in-Greater.result
    (same-Greater vars rows c.args.left.now c.args.right.now c.args.how c.in-Greater.is) c.compare-in-Greater.ensures.cause

pub returns-in-AtLeast-clause-value : goal.returns-in-AtLeast-clause-value
returns-in-AtLeast-clause-value c =
    let vars = c.args.map.now in
    let rows = c.args.model.now.features in
    told-same c.compare-in-AtLeast.new.kernel (difference_function vars rows cmp3.AtMost c.args.right.now c.args.left.now)
    (comparison_function vars rows c.args.how c.args.left.now c.args.right.now) c.compare-in-AtLeast.result
    (same-AtLeast vars rows c.args.left.now c.args.right.now c.args.how c.in-AtLeast.is) c.compare-in-AtLeast.ensures.value

pub returns-in-AtLeast-clause-cause : goal.returns-in-AtLeast-clause-cause
returns-in-AtLeast-clause-cause c =
    let vars = c.args.map.now in
    let rows = c.args.model.now.features in
    cause-same c.args.kernel.now (difference_function vars rows cmp3.AtMost c.args.right.now c.args.left.now)
    (comparison_function vars rows c.args.how c.args.left.now c.args.right.now) c.compare-in-AtLeast.result
    (same-AtLeast vars rows c.args.left.now c.args.right.now c.args.how c.in-AtLeast.is) c.compare-in-AtLeast.ensures.cause
