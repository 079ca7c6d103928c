-- What holds of all generated models.
use Rattle.std.specs.Prelude.{◌≡◌, ◌↔◌, ◌≤◌, ℕ, ◌+◌, ◌++◌}
use Rattle.std.specs.List.{flat_map, Contains}
use Rattle.uvl_gen.specs.Generated.{name_of, parent_of, children_of, attributes_of, line, group_line, lines_of_feature}

-- the children of a feature are the features of the model whose parent it is
abbrev pub ChildrenAreOfTheirParent : Type 0
ChildrenAreOfTheirParent =
    (n parent number : ℕ) → 1 ≤ parent →
    Contains (children_of n parent) number ↔ ((2 ≤ number) × (number ≤ n) × (parent_of number ≡ parent))

-- each feature of the model has its line, the line of its group where it has children, and the lines of these
abbrev pub FeaturesStandAboveTheirChildren : Type 0
FeaturesStandAboveTheirChildren =
    (n tabs number : ℕ) → 1 ≤ number → number ≤ n →
    lines_of_feature n tabs number
    ≡ line tabs (name_of number ++ attributes_of number)
    ++ group_line (tabs + 1) number (children_of n number)
    ++ flat_map (lines_of_feature n (tabs + 2)) (children_of n number)
