-- The scan says what the tokens in front of the place say, and nothing is met at any of them.
use Rattle.std.proofs.Common.{ℕ, ◌<◌}
use Rattle.uvl_profile.specs.First.{in_front, NothingMet}
use Rattle.uvl_profile.specs.steps.Scan.{Follows}
use Rattle.uvl_profile.proofs.scan.first_met.Given as goal

abbrev pub invariant-loop-index : goal.invariant-loop-index
invariant-loop-index l = record {
  follows : Follows (in_front l.index l.tokens) l.scan;
  none_before : (k : ℕ) → k < l.index → NothingMet l.tokens k;
}
