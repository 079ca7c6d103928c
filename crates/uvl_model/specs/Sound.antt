-- What a feature model keeps in its type.
use Rattle.std.specs.Prelude.{◌≡◌, ℕ, ◌+◌, ◌-◌, ◌≤◌, ◌⊎◌, ⊤, List, [], ◌∷◌, Contains}
use Rattle.std.specs.List.{All}
use Rattle.uvl_ast.specs.declared.feature.Attribute.{Attribute}
use Rattle.uvl_ast.specs.Keys.{key_lists}
use Rattle.uvl_ast.specs.Nesting.{nesting_of_attribute}
use Rattle.uvl_ast.specs.Texts.{AreQuotable, texts_of}
use Rattle.uvl_base.specs.Limits.{most_features, most_depth, most_nesting}
use Rattle.uvl_model.specs.Rows.{Rows}
use Rattle.uvl_model.specs.Rules.{IsRule}
use Rattle.uvl_model.specs.Spelling.{Spells, size_of}
use Rattle.uvl_semantics.specs.Tree.{Tree, Groups, Members, feature, no_groups, group, no_members, member, member_count}
use Rattle.uvl_semantics.specs.Tree.{names_of, depth_of}

-- no name of the list stands twice
abbrev pub AreDistinct : List (List ℕ) → Type 0
AreDistinct [] = ⊤
AreDistinct (name ∷ names) = (Contains names name → ⊥) × AreDistinct names

-- The bounds of a group of k members: it has a member, hi is at most k, and lo is at most hi, or is k + 1
-- beside hi = k, and then no set fits.
abbrev pub HasBounds : ℕ → ℕ → ℕ → Type 0
HasBounds lo hi k = (1 ≤ k) × (hi ≤ k) × ((lo ≤ hi) ⊎ ((lo ≡ k + 1) × (hi ≡ k)))

abbrev mutual
  -- each group of the tree has such bounds
  pub IsBounded : Tree → Type 0
  IsBounded (feature head below) = AreBounded below

  -- each of the groups, and those below them
  pub AreBounded : Groups → Type 0
  AreBounded no_groups = ⊤
  AreBounded (group lo hi members others) =
      HasBounds lo hi (member_count members) × MembersAreBounded members × AreBounded others

  -- each group of the members' trees
  pub MembersAreBounded : Members → Type 0
  MembersAreBounded no_members = ⊤
  MembersAreBounded (member tree others) = IsBounded tree × MembersAreBounded others

-- A tree that a model may have: within the limits on features and on their depth, with distinct names and
-- bounds as above.
pub record IsWithinLimits (tree : Tree) : Type 0 where
  pub few : size_of tree ≤ most_features
  pub shallow : depth_of tree ≤ most_depth
  pub distinct : AreDistinct (names_of tree)
  pub bounded : IsBounded tree

-- Attributes of a feature that a model may have: the keys of each list differ, each text can stand in single quotes, and
-- braces and brackets nest no deeper than the limit, the feature's own braces counted.
pub record AreAttributes (attributes : List Attribute) : Type 0 where
  pub keys : All AreDistinct (key_lists attributes)
  pub texts : All (λ attribute. AreQuotable (texts_of attribute)) attributes
  pub nested : All (λ attribute. nesting_of_attribute attribute ≤ most_nesting - 1) attributes

-- the rows spell such a tree, and each feature has such attributes and each rule is one that a model may have
pub record IsSound (rows : Rows) : Type 0 where
  pub tree : Tree
  pub spelled : Spells tree rows
  pub within : IsWithinLimits tree
  pub attributes : All (λ row. AreAttributes row.attributes) rows.features
  pub rules : All (IsRule rows) rows.rules
