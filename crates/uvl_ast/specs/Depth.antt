-- How deep a tree of features is written.
use Rattle.std.specs.Prelude.{ℕ, ◌+◌, max, List, [], ◌∷◌}
use Rattle.uvl_ast.specs.declared.feature.Feature.{Feature}
use Rattle.uvl_ast.specs.declared.feature.Feature.TheOpen.{Feature-F, Group-F}
use Rattle.uvl_ast.specs.declared.feature.Feature.TheFolds.{fold-Feature, fold-Group}
use Rattle.uvl_ast.specs.declared.feature.Group.{Group}

-- the greatest of the numbers, and 0 of none
abbrev pub greatest : List ℕ → ℕ
greatest [] = 0
greatest (n ∷ ns) = max n (greatest ns)

-- a feature is one deeper than the deepest of its groups, where a depth stands for each
abbrev pub feature_depth : Feature-F ℕ ℕ → ℕ
feature_depth feature = 1 + greatest feature.groups

-- a group is as deep as the deepest of its members, where a depth stands for each
abbrev pub group_depth : Group-F ℕ ℕ → ℕ
group_depth group = greatest group.members

-- how deep a feature is written with all below it, a feature without groups being 1 deep
abbrev pub depth_of : Feature → ℕ
depth_of = fold-Feature ℕ ℕ feature_depth group_depth

-- how deep the members of a group are
abbrev pub depth_of_group : Group → ℕ
depth_of_group = fold-Group ℕ ℕ feature_depth group_depth
