-- The first terms are placed.
use Rattle.std.proofs.Common.{◌≡◌, take}
use Rattle.uvl_sums.proofs.StepLemmas.{placed_of}
use Rattle.uvl_sums.proofs.steps.placed_terms.Given as goal

abbrev pub invariant-loop-term : goal.invariant-loop-term
invariant-loop-term l = l.placed.items ≡ placed_of l.kernel.order (take l.term-index l.terms)
