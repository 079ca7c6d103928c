-- How far above a primary each precedence of operators stands.
use Rattle.std.specs.Prelude.{ℕ, ◌<◌}
use Rattle.std.proofs.Common.{arith}
use Rattle.uvl_parser.specs.declared.expression.precedence.Precedence.{Precedence}
use Rattle.uvl_parser.specs.declared.expression.precedence.Precedence.TheVariants as precedence

-- what stands between the operators of a precedence
abbrev pub part_rank : Precedence → ℕ
part_rank precedence.Product = 1
part_rank precedence.Sum = 3
part_rank precedence.And = 7
part_rank precedence.Or = 9
part_rank precedence.Implies = 11
part_rank precedence.Iff = 13

-- one more token makes up for all of them
pub rank_below : (l : Precedence) → part_rank l < 16
rank_below precedence.Product = omega arith
rank_below precedence.Sum = omega arith
rank_below precedence.And = omega arith
rank_below precedence.Or = omega arith
rank_below precedence.Implies = omega arith
rank_below precedence.Iff = omega arith
