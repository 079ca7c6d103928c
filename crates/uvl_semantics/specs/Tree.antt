-- A feature tree, as UVL writes one: a feature has groups, and a group has bounds and members.
use Rattle.std.specs.Prelude.{ℕ, ◌+◌, max, List, [], ◌∷◌, ◌++◌}
use Rattle.uvl_ast.specs.declared.feature.Attribute.{Attribute}

-- what stands at a feature: its name, and its attributes as they are written
pub record Head : Type 0 where
  pub name : List ℕ
  pub attributes : List Attribute

mutual
  -- a feature with its head and its groups
  pub data Tree : Type 0 where
    feature : (head : Head) (below : Groups) → Tree

  -- the groups of a feature, as they are written
  pub data Groups : Type 0 where
    no_groups : Groups
    group : (lo hi : ℕ) (members : Members) (others : Groups) → Groups

  -- the members of a group, as they are written
  pub data Members : Type 0 where
    no_members : Members
    member : (tree : Tree) (others : Members) → Members

-- the feature at the top
abbrev pub top_head : Tree → Head
top_head (feature head below) = head

-- its name
abbrev pub top_name : Tree → List ℕ
top_name (feature head below) = head.name

-- how many members a group has
abbrev pub member_count : Members → ℕ
member_count no_members = 0
member_count (member tree others) = 1 + member_count others

abbrev mutual
  -- the heads of the features in document order: a feature before its groups
  pub heads_of : Tree → List Head
  heads_of (feature head below) = head ∷ heads_of_groups below

  -- those of the members, group by group
  pub heads_of_groups : Groups → List Head
  heads_of_groups no_groups = []
  heads_of_groups (group lo hi members others) = heads_of_members members ++ heads_of_groups others

  -- those of the trees, member by member
  pub heads_of_members : Members → List Head
  heads_of_members no_members = []
  heads_of_members (member tree others) = heads_of tree ++ heads_of_members others

abbrev mutual
  -- the names of the features in document order
  pub names_of : Tree → List (List ℕ)
  names_of (feature head below) = head.name ∷ names_of_groups below

  -- those of the members, group by group
  pub names_of_groups : Groups → List (List ℕ)
  names_of_groups no_groups = []
  names_of_groups (group lo hi members others) = names_of_members members ++ names_of_groups others

  -- those of the trees, member by member
  pub names_of_members : Members → List (List ℕ)
  names_of_members no_members = []
  names_of_members (member tree others) = names_of tree ++ names_of_members others

abbrev mutual
  -- how deep the tree is, a feature without groups being 1 deep
  pub depth_of : Tree → ℕ
  depth_of (feature head below) = 1 + depth_of_groups below

  -- the depth of the deepest member of any group
  pub depth_of_groups : Groups → ℕ
  depth_of_groups no_groups = 0
  depth_of_groups (group lo hi members others) = max (depth_of_members members) (depth_of_groups others)

  -- the depth of the deepest member
  pub depth_of_members : Members → ℕ
  depth_of_members no_members = 0
  depth_of_members (member tree others) = max (depth_of tree) (depth_of_members others)
