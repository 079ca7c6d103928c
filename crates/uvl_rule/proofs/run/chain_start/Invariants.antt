-- The nodes from the start on have the connective.
use Rattle.std.proofs.Common.{◌≡◌, ◌<◌, length, drop, Some}
use Rattle.std.specs.List.{All}
use Rattle.uvl_rule.specs.Run.{connective_of}
use Rattle.uvl_rule.specs.Spine.{rules_at}
use Rattle.uvl_rule.proofs.run.chain_start.Given as goal

abbrev pub invariant-loop-start : goal.invariant-loop-start
invariant-loop-start l =
    (l.start < length l.nodes) × All (λ node. connective_of node ≡ Some l.connective) (rules_at (drop l.start l.nodes))

abbrev pub decreases-loop-start : goal.decreases-loop-start
decreases-loop-start l = l.start
