-- The operator in front is of the precedence that it is found on, and of no other one.
use Rattle.std.proofs.Common.{refl}
use Rattle.uvl_parser.proofs.Expressions.Operators.{splits_inside, splits_outside}
use Rattle.uvl_parser.proofs.expression.precedence.split_operator.Goals as goal

pub returns-then-is_between : goal.returns-then-is_between
returns-then-is_between c =
    splits_inside _ _ _ _ _ _ _ c.in_ok-first.ensures.cases.0 c.in_ok-operator.ensures (c.if-is_between.ensures.0 refl)

pub returns-else-is_between : goal.returns-else-is_between
returns-else-is_between c =
    splits_outside _ _ _ _ _ _ _ c.in_ok-first.ensures.cases.0 c.in_ok-operator.ensures
    (λ between. let wrong = c.if-is_between.ensures.1 between in absurd (cc wrong))
