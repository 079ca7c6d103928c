-- How many members the groups of a tree of features have.
use Rattle.std.specs.Prelude.{ℕ, ◌≤◌, List, ◌∷◌, length}
use Rattle.std.specs.List.{All, flat_map}
use Rattle.uvl_ast.specs.declared.feature.Feature.{Feature}
use Rattle.uvl_ast.specs.declared.feature.Feature.TheOpen.{Feature-F, Group-F}
use Rattle.uvl_ast.specs.declared.feature.Feature.TheFolds.{fold-Feature, fold-Group}
use Rattle.uvl_ast.specs.declared.feature.Group.{Group}

-- the counts of a feature are those of its groups
abbrev pub feature_counts : Feature-F (List ℕ) (List ℕ) → List ℕ
feature_counts feature = flat_map (λ counts. counts) feature.groups

-- the count of a group stands in front of those below its members
abbrev pub group_counts : Group-F (List ℕ) (List ℕ) → List ℕ
group_counts group = length group.members ∷ flat_map (λ counts. counts) group.members

-- how many members each group below a feature has, in document order
abbrev pub member_counts : Feature → List ℕ
member_counts = fold-Feature (List ℕ) (List ℕ) feature_counts group_counts

-- how many members a group has, and each group below its members
abbrev pub member_counts_of_group : Group → List ℕ
member_counts_of_group = fold-Group (List ℕ) (List ℕ) feature_counts group_counts

-- no group below a feature is empty
abbrev pub EachGroupHasMembers : Feature → Type 0
EachGroupHasMembers feature = All (λ count. 1 ≤ count) (member_counts feature)
