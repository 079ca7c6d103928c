-- How a tree is spelled as rows: features numbered in document order, and groups as the walk meets them.
use Rattle.std.specs.Prelude.{◌≡◌, ℕ, ◌+◌, List, [], ◌∷◌, ◌++◌, length, Option, Some, None}
use Rattle.uvl_model.specs.declared.rows.FeatureNo.{FeatureNo}
use Rattle.uvl_model.specs.declared.rows.FeatureRow.{FeatureRow}
use Rattle.uvl_model.specs.declared.rows.GroupRow.{GroupRow}
use Rattle.uvl_model.specs.Rows.{Rows}
use Rattle.uvl_semantics.specs.Tree.{Tree, Groups, Members, feature, no_groups, group, no_members, member}
use Rattle.uvl_semantics.specs.Tree.{names_of, names_of_members}

-- a feature's number
abbrev pub numbered : ℕ → FeatureNo
numbered n = record { 0 = n }

-- how many features a tree has
abbrev pub size_of : Tree → ℕ
size_of tree = length (names_of tree)

-- how many the trees of a group's members have
abbrev pub size_of_members : Members → ℕ
size_of_members members = length (names_of_members members)

abbrev mutual
  -- the rows of the features of a tree that hangs below a parent and whose first number is n
  pub feature_rows : Option FeatureNo → ℕ → Tree → List FeatureRow
  feature_rows parent n (feature head below) =
      record { name = head.name; parent = parent; attributes = head.attributes }
      ∷ feature_rows_of_groups (numbered n) (n + 1) below

  -- those of the members of groups, group by group
  pub feature_rows_of_groups : FeatureNo → ℕ → Groups → List FeatureRow
  feature_rows_of_groups parent n no_groups = []
  feature_rows_of_groups parent n (group lo hi members others) =
      feature_rows_of_members parent n members ++ feature_rows_of_groups parent (n + size_of_members members) others

  -- those of the trees of members, one after another
  pub feature_rows_of_members : FeatureNo → ℕ → Members → List FeatureRow
  feature_rows_of_members parent n no_members = []
  feature_rows_of_members parent n (member tree others) =
      feature_rows (Some parent) n tree ++ feature_rows_of_members parent (n + size_of tree) others

-- the numbers of the members of a group whose first member has number n
abbrev pub member_numbers : ℕ → Members → List FeatureNo
member_numbers n no_members = []
member_numbers n (member tree others) = numbered n ∷ member_numbers (n + size_of tree) others

abbrev mutual
  -- the rows of the groups of a tree whose first number is n
  pub group_rows : ℕ → Tree → List GroupRow
  group_rows n (feature head below) = group_rows_of_groups (numbered n) (n + 1) below

  -- the row of each group, and behind it those of its members' trees
  pub group_rows_of_groups : FeatureNo → ℕ → Groups → List GroupRow
  group_rows_of_groups parent n no_groups = []
  group_rows_of_groups parent n (group lo hi members others) =
      record { parent = parent; lo = lo; hi = hi; members = member_numbers n members }
      ∷ group_rows_of_members n members ++ group_rows_of_groups parent (n + size_of_members members) others

  -- those of the trees of members, one after another
  pub group_rows_of_members : ℕ → Members → List GroupRow
  group_rows_of_members n no_members = []
  group_rows_of_members n (member tree others) = group_rows n tree ++ group_rows_of_members (n + size_of tree) others

-- The rows spell the tree, whatever their rules are.
pub record Spells (tree : Tree) (rows : Rows) : Type 0 where
  pub features : rows.features ≡ feature_rows None 0 tree
  pub groups : rows.groups ≡ group_rows 0 tree
