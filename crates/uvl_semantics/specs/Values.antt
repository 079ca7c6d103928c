-- The numbers of a set of features. Numbers are in millionths, and a product of two in units of 10^-12; both are exact.
use Rattle.std.specs.Prelude.{ℕ, ℤ, pos, ◌+ℤ◌, ◌-ℤ◌, ◌*ℤ◌, List, [], ◌∷◌, ◌++◌, unwrap_or, if◌then◌else◌}
use Rattle.std.specs.Str.{bytes_eq}
use Rattle.uvl_semantics.specs.Attributes.{number_of_key, number_among}
use Rattle.uvl_semantics.specs.Constraint.{Quantity, literal, attribute, total, plus, minus, times}
use Rattle.uvl_semantics.specs.Product.{has}
use Rattle.uvl_semantics.specs.Tree.{Tree, Groups, Members, Head, feature, no_groups, group, no_members, member, heads_of}

abbrev mutual
  -- the features from the one with this name downwards, in document order; none where the tree doesn't have it
  pub heads_below : List ℕ → Tree → List Head
  heads_below top (feature head below) =
      if bytes_eq head.name top then heads_of (feature head below) else heads_below_groups top below

  -- those in the groups
  pub heads_below_groups : List ℕ → Groups → List Head
  heads_below_groups top no_groups = []
  heads_below_groups top (group lo hi members others) =
      heads_below_members top members ++ heads_below_groups top others

  -- those in the members' trees
  pub heads_below_members : List ℕ → Members → List Head
  heads_below_members top no_members = []
  heads_below_members top (member tree others) = heads_below top tree ++ heads_below_members top others

-- the total of the numbers that the selected ones of the features have under a key; what is no number counts 0
abbrev pub total_of : List ℕ → List Head → List (List ℕ) → ℤ
total_of key [] set = pos 0
total_of key (head ∷ heads) set =
    (if has set head.name then unwrap_or (number_of_key key head.attributes) (pos 0) else pos 0)
    +ℤ total_of key heads set

-- What numbers are read from: the heads of all features, and those from the feature with a name downwards.
pub record Heads : Type 0 where
  pub all : List Head
  pub below : List ℕ → List Head

-- those of a tree
abbrev pub heads_in : Tree → Heads
heads_in tree = record { all = heads_of tree; below = λ top. heads_below top tree }

-- What a number without a product is, in millionths: an attribute of a feature that isn't selected is 0. (A product is
-- read by `value_by` alone.)
abbrev pub plain_by : Heads → Quantity → List (List ℕ) → ℤ
plain_by heads (literal millionths) set = millionths
plain_by heads (attribute name key) set =
    if has set name then unwrap_or (number_among heads.all name key) (pos 0) else pos 0
plain_by heads (total top key) set = total_of key (heads.below top) set
plain_by heads (plus left right) set = plain_by heads left set +ℤ plain_by heads right set
plain_by heads (minus left right) set = plain_by heads left set -ℤ plain_by heads right set
plain_by heads (times left right) set = pos 0

-- What a number is, in units of 10^-12. No side of a product has a product in it.
abbrev pub value_by : Heads → Quantity → List (List ℕ) → ℤ
value_by heads (plus left right) set = value_by heads left set +ℤ value_by heads right set
value_by heads (minus left right) set = value_by heads left set -ℤ value_by heads right set
value_by heads (times left right) set = plain_by heads left set *ℤ plain_by heads right set
value_by heads simple set = plain_by heads simple set *ℤ pos 1000000

-- what a number without a product is in a tree
abbrev pub plain : Tree → Quantity → List (List ℕ) → ℤ
plain tree = plain_by (heads_in tree)

-- what a number is in a tree
abbrev pub value : Tree → Quantity → List (List ℕ) → ℤ
value tree = value_by (heads_in tree)
