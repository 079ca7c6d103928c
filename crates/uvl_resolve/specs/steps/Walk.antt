-- What the steps of the walk over the trees of files add to the rows.
use Rattle.std.specs.Prelude.{◌≡◌, ℕ, ◌+◌, ◌≤◌, List, ◌∷◌, ◌++◌, map, length, Option, Some}
use Rattle.std.specs.Option.{option_map}
use Rattle.uvl_base.specs.Limits.{most_features}
use Rattle.uvl_ast.specs.declared.feature.Feature.{Feature}
use Rattle.uvl_ast.specs.declared.feature.Group.{Group}
use Rattle.uvl_imports.specs.declared.file_set.Loaded.{Loaded}
use Rattle.uvl_model.specs.declared.rows.FeatureNo.{FeatureNo}
use Rattle.uvl_model.specs.Spelling.{size_of, size_of_members, feature_rows, feature_rows_of_groups}
use Rattle.uvl_model.specs.Spelling.{feature_rows_of_members, member_numbers, group_rows, group_rows_of_groups}
use Rattle.uvl_model.specs.Spelling.{group_rows_of_members}
use Rattle.uvl_placing.specs.Files.{imports_of, placed, tree_of_file}
use Rattle.uvl_placing.specs.Names.{qualifier_of}
use Rattle.uvl_placing.specs.Trees.{Branch, tree_of_line, tree_placed, branch_of_written, groups_of, members_of}
use Rattle.uvl_resolve.specs.Under.{tree_under, groups_under, members_under}
use Rattle.uvl_resolve.specs.declared.rows.RowBuilder.{RowBuilder}
use Rattle.uvl_semantics.specs.Tree.{Tree, Groups, Members, names_of_groups}

-- the qualifiers of the import lines of each file are known
abbrev pub qualifiers_of : List Loaded → List (List (List ℕ))
qualifiers_of files = map (λ loaded. map qualifier_of loaded.file.imports) files

-- what a line of a file says with a text in front, where these files stand in front of the file
abbrev pub said_by_line : List Loaded → Loaded → List ℕ → Feature → Option Tree
said_by_line front loaded text line =
    option_map (tree_under text) (tree_of_line (imports_of (placed front) loaded) line)

-- what groups of it say
abbrev pub said_by_groups : List Loaded → Loaded → List ℕ → List Group → Option Groups
said_by_groups front loaded text written =
    option_map (groups_under text) (groups_of (map (branch_of_written (imports_of (placed front) loaded)) written))

-- a group with a text in front of each name
abbrev pub branch_under : List ℕ → Branch → Branch
branch_under text branch =
    record { lo = branch.lo; hi = branch.hi; members = members_under text branch.members }

-- what a group of it says
abbrev pub said_by_group : List Loaded → Loaded → List ℕ → Group → Option Branch
said_by_group front loaded text written =
    option_map (branch_under text) (branch_of_written (imports_of (placed front) loaded) written)

-- what lines of it say as members of a group
abbrev pub said_by_members : List Loaded → Loaded → List ℕ → List Feature → Option Members
said_by_members front loaded text lines =
    option_map (members_under text) (members_of (map (tree_of_line (imports_of (placed front) loaded)) lines))

-- what a file says
abbrev pub said_by_file : List Loaded → Loaded → List ℕ → Option Tree
said_by_file front loaded text = option_map (tree_under text) (tree_of_file (placed front) loaded)

-- what a reference of it places
abbrev pub said_by_names : List Loaded → Loaded → List ℕ → List (List ℕ) → Option Tree
said_by_names front loaded text names =
    option_map (tree_under text) (tree_placed (imports_of (placed front) loaded) names)

-- how many features are there with so many more, where what they are is known
abbrev pub HasRoom : {A : Type 0} → (A → ℕ) → ℕ → Option A → Type 0
HasRoom size n said = (value : _) × (said ≡ Some value) × (n + size value ≤ most_features)

abbrev pub TreeFits : RowBuilder → Option Tree → Type 0
TreeFits rows said = HasRoom size_of (length rows.features) said

abbrev pub GroupsFit : RowBuilder → Option Groups → Type 0
GroupsFit rows said = HasRoom (λ below. length (names_of_groups below)) (length rows.features) said

abbrev pub GroupFits : RowBuilder → Option Branch → Type 0
GroupFits rows said = HasRoom (λ branch. size_of_members branch.members) (length rows.features) said

abbrev pub MembersFit : RowBuilder → Option Members → Type 0
MembersFit rows said = HasRoom size_of_members (length rows.features) said

-- the rows of a tree stand behind the others
pub record AddsTree (old new : RowBuilder) (parent : Option FeatureNo) (said : Option Tree) : Type 0 where
  pub tree : Tree
  pub says : said ≡ Some tree
  pub features : new.features ≡ old.features ++ feature_rows parent (length old.features) tree
  pub groups : new.groups ≡ old.groups ++ group_rows (length old.features) tree
  pub count : length new.features ≡ length old.features + size_of tree

-- the rows of a group and of its members' trees stand behind the others
pub record AddsGroup (old new : RowBuilder) (parent : FeatureNo) (said : Option Branch) : Type 0 where
  pub branch : Branch
  pub says : said ≡ Some branch
  pub features : new.features ≡ old.features ++ feature_rows_of_members parent (length old.features) branch.members
  pub groups : new.groups ≡ old.groups
      ++ record {
        parent = parent;
        lo = branch.lo;
        hi = branch.hi;
        members = member_numbers (length old.features) branch.members;
      }
      ∷ group_rows_of_members (length old.features) branch.members
  pub count : length new.features ≡ length old.features + size_of_members branch.members

-- the rows of groups stand behind the others
pub record AddsGroups (old new : RowBuilder) (parent : FeatureNo) (said : Option Groups) : Type 0 where
  pub below : Groups
  pub say : said ≡ Some below
  pub features : new.features ≡ old.features ++ feature_rows_of_groups parent (length old.features) below
  pub groups : new.groups ≡ old.groups ++ group_rows_of_groups parent (length old.features) below
  pub count : length new.features ≡ length old.features + length (names_of_groups below)

-- the rows of the trees of members stand behind the others, and these are their numbers
pub record AddsMembers (old new : RowBuilder) (parent : FeatureNo) (said : Option Members) (numbers : List FeatureNo) :
    Type 0 where
  pub members : Members
  pub say : said ≡ Some members
  pub numbered : numbers ≡ member_numbers (length old.features) members
  pub features : new.features ≡ old.features ++ feature_rows_of_members parent (length old.features) members
  pub groups : new.groups ≡ old.groups ++ group_rows_of_members (length old.features) members
  pub count : length new.features ≡ length old.features + size_of_members members
