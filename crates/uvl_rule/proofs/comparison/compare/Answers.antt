-- The sum of the form is the difference of the numbers.
use Rattle.uvl_rule.specs.Comparisons.{difference_function}
use Rattle.uvl_sums.specs.Sums.{comparison}
use Rattle.uvl_rule.proofs.ComparisonLemmas.{is-sum, sum-is, sum-told, sum-cause}
use Rattle.uvl_rule.proofs.comparison.compare.Goals as goal

pub compile_sum-requires : goal.compile_sum-requires
compile_sum-requires c =
    is-sum c.args.map.now c.in_ok-form.form c.in_ok-sum.sum.terms.items c.in_ok-sum.sum.constant c.in_ok-sum.ensures.terms c.in_ok-sum.ensures.constant
    c.args.kernel.now c.requires.variables.there c.requires.variables.distinct c.in_ok-form.ensures.size

pub returns-clause-value : goal.returns-clause-value
returns-clause-value c =
    sum-told c.compile_sum.new.kernel (comparison c.args.how c.in_ok-sum.sum.terms.items c.in_ok-sum.sum.constant)
    (difference_function c.args.map.now c.args.model.now.features c.args.how c.args.first.now c.args.second.now) c.compile_sum.result
    (sum-is c.args.map.now c.in_ok-form.form c.in_ok-sum.sum.terms.items c.in_ok-sum.sum.constant c.in_ok-sum.ensures.terms c.in_ok-sum.ensures.constant
    c.args.model.now.features c.args.how c.args.first.now c.args.second.now c.in_ok-form.ensures.value) c.compile_sum.ensures.value

pub returns-clause-cause : goal.returns-clause-cause
returns-clause-cause c =
    sum-cause c.args.kernel.now c.compile_sum.new.kernel (comparison c.args.how c.in_ok-sum.sum.terms.items c.in_ok-sum.sum.constant)
    (difference_function c.args.map.now c.args.model.now.features c.args.how c.args.first.now c.args.second.now) c.compile_sum.result
    (sum-is c.args.map.now c.in_ok-form.form c.in_ok-sum.sum.terms.items c.in_ok-sum.sum.constant c.in_ok-sum.ensures.terms c.in_ok-sum.ensures.constant
    c.args.model.now.features c.args.how c.args.first.now c.args.second.now c.in_ok-form.ensures.value) c.compile_sum.ensures.cause
