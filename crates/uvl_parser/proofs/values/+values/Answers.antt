use Rattle.std.proofs.Common.{arith, rules}
use Rattle.uvl_grammar.specs.steps.Reading.{bind, choose}
use Rattle.uvl_grammar.specs.steps.Values.{value_with, value_at, attribute_at}
use Rattle.uvl_grammar.proofs.Parts.Values.{value_above}
use Rattle.uvl_parser.proofs.values.+values.Goals as goal

pub attributes-returns : goal.attributes-returns
attributes-returns t c = c.separated.ensures (attribute_at c.args.depth) (λ alloc ts r answered. search rules)

pub values-returns : goal.values-returns
values-returns t c = c.separated.ensures (value_at c.args.depth) (λ alloc ts r answered. search rules)

pub value_at-returns-in_ok-rest : goal.value_at-returns-in_ok-rest
unfolding value_with choose bind
value_at-returns-in_ok-rest t c = rw (value_above c.args.depth c.args.tokens.now (omega arith)) (search rules)

pub value_at-returns-in_ok-rest-2 : goal.value_at-returns-in_ok-rest-2
unfolding value_with choose bind
value_at-returns-in_ok-rest-2 t c = rw (value_above c.args.depth c.args.tokens.now (omega arith)) (search rules)
