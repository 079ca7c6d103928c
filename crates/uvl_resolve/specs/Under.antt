-- Trees and constraints whose names have a text in front.
use Rattle.std.specs.Prelude.{ℕ, List, ◌++◌}
pub use Rattle.uvl_scope.specs.Spelling.{MayStandInName}
use Rattle.uvl_semantics.specs.Constraint.{Quantity, literal, attribute, total, plus, minus, times}
use Rattle.uvl_semantics.specs.Constraint.{Constraint, selected, negation, conjunction, disjunction, implication}
use Rattle.uvl_semantics.specs.Constraint.{equivalence, comparison}
use Rattle.uvl_semantics.specs.Tree.{Tree, Groups, Members, Head, feature, no_groups, group, no_members, member}

-- a feature with a text in front of its name
abbrev pub head_under : List ℕ → Head → Head
head_under text head = record { name = text ++ head.name; attributes = head.attributes }

abbrev mutual
  -- a tree with a text in front of each name
  pub tree_under : List ℕ → Tree → Tree
  tree_under text (feature head below) = feature (head_under text head) (groups_under text below)

  -- the groups of a feature
  pub groups_under : List ℕ → Groups → Groups
  groups_under text no_groups = no_groups
  groups_under text (group lo hi members others) =
      group lo hi (members_under text members) (groups_under text others)

  -- the members of a group
  pub members_under : List ℕ → Members → Members
  members_under text no_members = no_members
  members_under text (member tree others) = member (tree_under text tree) (members_under text others)

-- a number with a text in front of each feature's name
abbrev pub quantity_under : List ℕ → Quantity → Quantity
quantity_under text (literal millionths) = literal millionths
quantity_under text (attribute name key) = attribute (text ++ name) key
quantity_under text (total top key) = total (text ++ top) key
quantity_under text (plus left right) = plus (quantity_under text left) (quantity_under text right)
quantity_under text (minus left right) = minus (quantity_under text left) (quantity_under text right)
quantity_under text (times left right) = times (quantity_under text left) (quantity_under text right)

-- a constraint with a text in front of each feature's name
abbrev pub constraint_under : List ℕ → Constraint → Constraint
constraint_under text (selected name) = selected (text ++ name)
constraint_under text (negation operand) = negation (constraint_under text operand)
constraint_under text (conjunction left right) = conjunction (constraint_under text left) (constraint_under text right)
constraint_under text (disjunction left right) = disjunction (constraint_under text left) (constraint_under text right)
constraint_under text (implication left right) = implication (constraint_under text left) (constraint_under text right)
constraint_under text (equivalence left right) = equivalence (constraint_under text left) (constraint_under text right)
constraint_under text (comparison how left right) = comparison how (quantity_under text left) (quantity_under text right)
