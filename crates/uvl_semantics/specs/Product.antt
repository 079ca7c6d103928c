-- Which sets of features are products (UVL; Benavides, Segura and Ruiz-Cortés 2010). A set is a list of names, of which
-- only membership counts.
use Rattle.std.specs.Prelude.{ℕ, ◌+◌, Bool, true, not, ◌&&◌, nat_le, List, if◌then◌else◌}
use Rattle.std.specs.List.{list_any, list_all}
use Rattle.std.specs.Str.{bytes_eq}
use Rattle.uvl_semantics.specs.Tree.{Tree, Groups, Members, feature, no_groups, group, no_members, member}
use Rattle.uvl_semantics.specs.Tree.{top_name, names_of}

-- whether a name is in a set
abbrev pub has : List (List ℕ) → List ℕ → Bool
has set name = list_any (bytes_eq name) set

-- how many members of a group are in the set
abbrev pub chosen_count : Members → List (List ℕ) → ℕ
chosen_count no_members set = 0
chosen_count (member tree others) set = (if has set (top_name tree) then 1 else 0) + chosen_count others set

-- no feature of the tree is in the set
abbrev pub is_absent : Tree → List (List ℕ) → Bool
is_absent tree set = list_all (λ name. not (has set name)) (names_of tree)

-- A tree whose top is in the set fits: of each group of the top from lo to hi members are in the set,
-- the tree of each such member fits, and no feature of another member's tree is in the set.
abbrev mutual
  -- the tree of a chosen feature fits
  pub fits : Tree → List (List ℕ) → Bool
  fits (feature head below) set = groups_fit below set

  -- each group of a chosen feature fits
  pub groups_fit : Groups → List (List ℕ) → Bool
  groups_fit no_groups set = true
  groups_fit (group lo hi members others) set =
      nat_le lo (chosen_count members set) && nat_le (chosen_count members set) hi && members_fit members set
      && groups_fit others set

  -- each member's tree fits, or is absent where the member is
  pub members_fit : Members → List (List ℕ) → Bool
  members_fit no_members set = true
  members_fit (member tree others) set =
      (if has set (top_name tree) then fits tree set else is_absent tree set) && members_fit others set

-- A set is a product of a tree alone: it has only features of the tree, it has the root, and the tree fits.
abbrev pub is_product_of_tree : Tree → List (List ℕ) → Bool
is_product_of_tree tree set = list_all (has (names_of tree)) set && has set (top_name tree) && fits tree set
