-- There is a point exactly where the digits in front of it are not all.
use Rattle.std.proofs.Common.{sym, arith}
use Rattle.uvl_base.specs.Number.{is_point}
use Rattle.uvl_base.proofs.Digits.{list_any-position, list_any-no_position}
use Rattle.uvl_base.proofs.fixed.split_point.Goals as goal

pub returns-then-point-digits-clause-has_point : goal.returns-then-point-digits-clause-has_point
returns-then-point-digits-clause-has_point c =
    sym (list_any-position is_point c.args.digits.now (omega (arith, c.before_point-point.ensures.count)))

pub returns-else-point-digits-clause-has_point : goal.returns-else-point-digits-clause-has_point
returns-else-point-digits-clause-has_point c =
    sym (list_any-no_position is_point c.args.digits.now (omega (arith, c.before_point-point.ensures.count)))
