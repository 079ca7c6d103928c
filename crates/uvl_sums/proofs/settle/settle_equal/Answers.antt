-- The sum can't get up to 0, not down to it, or is 0.
use Rattle.std.proofs.Common.{arith, true}
use Rattle.std.proofs.lemmas.Int.{ints}
use Rattle.uvl_sums.proofs.SettledLemmas.{always-below, always-above, is-zero}
use Rattle.uvl_sums.proofs.settle.settle_equal.Goals as goal

pub returns-then-so_far-greatest-lt0-clause-settles : goal.returns-then-so_far-greatest-lt0-clause-settles
returns-then-so_far-greatest-lt0-clause-settles c =
    always-below c.args.so_far c.args.least c.args.greatest _ _ c.requires (omega (arith, ints)) (omega (arith, ints)) (omega (arith, ints)) (omega (arith, ints)) (omega (arith, ints))

pub returns-then-so_far-least-gt0-clause-settles : goal.returns-then-so_far-least-gt0-clause-settles
returns-then-so_far-least-gt0-clause-settles c =
    always-above c.args.so_far c.args.least c.args.greatest _ _ true c.requires (omega (arith, ints)) (omega (arith, ints)) (omega (arith, ints))

pub returns-then-least-greatest-clause-settles : goal.returns-then-least-greatest-clause-settles
returns-then-least-greatest-clause-settles c =
    is-zero c.args.so_far c.args.least c.args.greatest _ c.requires (omega (arith, ints)) (omega (arith, ints)) (omega (arith, ints)) (omega (arith, ints))
