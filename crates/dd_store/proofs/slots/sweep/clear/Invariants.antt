-- The chains of the variables before this one are empty.
use Rattle.std.proofs.Common.{ℕ, ◌<◌}
use Rattle.dd_store.specs.Linked.{AreEmpty, heads_of}
use Rattle.dd_store.proofs.slots.sweep.clear.Given as goal

abbrev pub invariant-loop-chains : goal.invariant-loop-chains
invariant-loop-chains l = (v : ℕ) → v < l.chains-index → AreEmpty (heads_of l.variables v)
