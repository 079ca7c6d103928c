-- The sum can't get above 0, or not down to it.
use Rattle.std.proofs.Common.{arith, false}
use Rattle.std.proofs.lemmas.Int.{ints}
use Rattle.uvl_sums.proofs.SettledLemmas.{never-above, always-above}
use Rattle.uvl_sums.proofs.settle.settle_at_most.Goals as goal

pub returns-then-so_far-greatest-le0-clause-settles : goal.returns-then-so_far-greatest-le0-clause-settles
returns-then-so_far-greatest-le0-clause-settles c =
    never-above c.args.so_far c.args.least c.args.greatest _ _ c.requires (omega (arith, ints)) (omega (arith, ints)) (omega (arith, ints))

pub returns-then-so_far-least-gt0-clause-settles : goal.returns-then-so_far-least-gt0-clause-settles
returns-then-so_far-least-gt0-clause-settles c =
    always-above c.args.so_far c.args.least c.args.greatest _ _ false c.requires (omega (arith, ints)) (omega (arith, ints)) (omega (arith, ints))
