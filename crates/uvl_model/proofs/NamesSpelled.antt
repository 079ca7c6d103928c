-- The rows of a tree have its names.
use Rattle.std.proofs.Common.{◌≡◌, ℕ, ◌+◌, ◌∷◌, map, Option, None, Some, refl, ap, ◌∙◌}
use Rattle.std.proofs.lemmas.List.{map-append}
use Rattle.uvl_model.specs.declared.rows.FeatureNo.{FeatureNo}
use Rattle.uvl_model.specs.declared.rows.FeatureRow.{FeatureRow}
use Rattle.uvl_model.specs.Names.{feature_names}
use Rattle.uvl_model.specs.Rows.{Rows}
use Rattle.uvl_model.specs.Spelling.{Spells, numbered, size_of, size_of_members, feature_rows, feature_rows_of_groups, feature_rows_of_members}
use Rattle.uvl_semantics.specs.Tree.{Tree, Groups, Members, feature, no_groups, group, no_members, member, names_of, names_of_groups, names_of_members}

mutual
  -- the rows of a tree have its names
  names_spelled : (tree : Tree) (parent : Option FeatureNo) (n : ℕ) → map (λ (row : FeatureRow). row.name) (feature_rows parent n tree) ≡ names_of tree
  names_spelled (feature head below) parent n = ap (λ names. head.name ∷ names) (groups_spelled below (numbered n) (n + 1))

  groups_spelled : (groups : Groups) (parent : FeatureNo) (n : ℕ) → map (λ (row : FeatureRow). row.name) (feature_rows_of_groups parent n groups) ≡ names_of_groups groups
  groups_spelled no_groups parent n = refl
  groups_spelled (group lo hi members others) parent n =
      map-append (λ row. row.name) (feature_rows_of_members parent n members) (feature_rows_of_groups parent (n + size_of_members members) others)
      ∙ rw (members_spelled members parent n, groups_spelled others parent (n + size_of_members members)) refl

  members_spelled : (members : Members) (parent : FeatureNo) (n : ℕ) → map (λ (row : FeatureRow). row.name) (feature_rows_of_members parent n members) ≡ names_of_members members
  members_spelled no_members parent n = refl
  members_spelled (member tree others) parent n =
      map-append (λ row. row.name) (feature_rows (Some parent) n tree) (feature_rows_of_members parent (n + size_of tree) others)
      ∙ rw (names_spelled tree (Some parent) n, members_spelled others parent (n + size_of tree)) refl

-- the names of rows are those of the tree that they spell
pub spelled_names : (tree : Tree) (rows : Rows) → Spells tree rows → feature_names rows ≡ names_of tree
spelled_names tree rows spelled = ap (map (λ row. row.name)) spelled.features ∙ names_spelled tree None 0
