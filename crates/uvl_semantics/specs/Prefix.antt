-- Trees and constraints under a qualifier: each name with the qualifier and a dot (46) in front. This project's own.
use Rattle.std.specs.Prelude.{ℕ, List, ◌∷◌, ◌++◌}
use Rattle.uvl_semantics.specs.Constraint.{Quantity, literal, attribute, total, plus, minus, times}
use Rattle.uvl_semantics.specs.Constraint.{Constraint, selected, negation, conjunction, disjunction, implication}
use Rattle.uvl_semantics.specs.Constraint.{equivalence, comparison}
use Rattle.uvl_semantics.specs.Tree.{Tree, Groups, Members, Head, feature, no_groups, group, no_members, member}

-- a name under a qualifier
abbrev pub prefixed_name : List ℕ → List ℕ → List ℕ
prefixed_name qualifier name = qualifier ++ 46 ∷ name

-- a feature under it: its attributes are as before
abbrev pub prefixed_head : List ℕ → Head → Head
prefixed_head qualifier head = record { name = prefixed_name qualifier head.name; attributes = head.attributes }

abbrev mutual
  -- a tree under it
  pub prefixed : List ℕ → Tree → Tree
  prefixed qualifier (feature head below) = feature (prefixed_head qualifier head) (prefixed_groups qualifier below)

  -- the groups of a feature
  pub prefixed_groups : List ℕ → Groups → Groups
  prefixed_groups qualifier no_groups = no_groups
  prefixed_groups qualifier (group lo hi members others) =
      group lo hi (prefixed_members qualifier members) (prefixed_groups qualifier others)

  -- the members of a group
  pub prefixed_members : List ℕ → Members → Members
  prefixed_members qualifier no_members = no_members
  prefixed_members qualifier (member tree others) = member (prefixed qualifier tree) (prefixed_members qualifier others)

-- a number under it
abbrev pub prefixed_quantity : List ℕ → Quantity → Quantity
prefixed_quantity qualifier (literal millionths) = literal millionths
prefixed_quantity qualifier (attribute name key) = attribute (prefixed_name qualifier name) key
prefixed_quantity qualifier (total top key) = total (prefixed_name qualifier top) key
prefixed_quantity qualifier (plus left right) = plus (prefixed_quantity qualifier left) (prefixed_quantity qualifier right)
prefixed_quantity qualifier (minus left right) =
    minus (prefixed_quantity qualifier left) (prefixed_quantity qualifier right)
prefixed_quantity qualifier (times left right) =
    times (prefixed_quantity qualifier left) (prefixed_quantity qualifier right)

-- a constraint under it
abbrev pub prefixed_constraint : List ℕ → Constraint → Constraint
prefixed_constraint qualifier (selected name) = selected (prefixed_name qualifier name)
prefixed_constraint qualifier (negation operand) = negation (prefixed_constraint qualifier operand)
prefixed_constraint qualifier (conjunction left right) =
    conjunction (prefixed_constraint qualifier left) (prefixed_constraint qualifier right)
prefixed_constraint qualifier (disjunction left right) =
    disjunction (prefixed_constraint qualifier left) (prefixed_constraint qualifier right)
prefixed_constraint qualifier (implication left right) =
    implication (prefixed_constraint qualifier left) (prefixed_constraint qualifier right)
prefixed_constraint qualifier (equivalence left right) =
    equivalence (prefixed_constraint qualifier left) (prefixed_constraint qualifier right)
prefixed_constraint qualifier (comparison how left right) =
    comparison how (prefixed_quantity qualifier left) (prefixed_quantity qualifier right)
