-- The children in front of one are written, with all below them.
use Rattle.std.proofs.Common.{◌≡◌, ℕ, ◌≤◌, ◌+◌, ◌-◌, ◌++◌, string_bytes}
use Rattle.std.specs.List.{flat_map, range_with_len}
use Rattle.uvl_gen.specs.Generated.{feature_lines}
use Rattle.uvl_gen.proofs.model.+put_feature.Given as goal

abbrev pub decreases-put_feature : goal.decreases-put_feature
decreases-put_feature l = l.n - l.number

abbrev pub invariant-loop-child : goal.invariant-loop-child
invariant-loop-child l =
    (l.first ≤ l.child)
    × ((levels : ℕ) → l.n ≤ l.number + levels →
    string_bytes l.text ≡ string_bytes l.initial.text ++ flat_map (feature_lines levels l.n (l.tabs + 2)) (range_with_len l.first (l.child - l.first)))
