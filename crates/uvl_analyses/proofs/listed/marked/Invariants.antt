-- The features in front of one are listed.
use Rattle.std.proofs.Common.{◌≡◌, false, filter, map, get_or}
use Rattle.std.specs.List.{range_with_len}
use Rattle.uvl_model.specs.Spelling.{numbered}
use Rattle.uvl_analyses.proofs.listed.marked.Given as goal

abbrev pub invariant-loop-number : goal.invariant-loop-number
invariant-loop-number l =
    l.features.items ≡ filter (λ feature. get_or l.marks feature.0 false) (map numbered (range_with_len 0 l.number))
