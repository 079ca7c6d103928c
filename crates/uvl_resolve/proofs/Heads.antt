-- The features of a scope and of a tree, by their names and by what stands beside them.
use Rattle.std.proofs.Common.{◌≡◌, ℕ, List, [], ◌∷◌, ◌++◌, length, refl, sym, ap, ◌∙◌}
use Rattle.std.proofs.lemmas.List.{length-map, map-append}
use Rattle.uvl_ast.specs.declared.feature.Attribute.{Attribute}
use Rattle.uvl_resolve.specs.steps.Rules.{attributes_of_heads, heads_with, names_of_heads, root_of}
use Rattle.uvl_semantics.specs.Tree.{Tree, Groups, Members, Head, feature, no_groups, group, no_members, member}
use Rattle.uvl_semantics.specs.Tree.{heads_of, heads_of_groups, heads_of_members, names_of, names_of_groups, names_of_members, top_name}

-- names stay where something stands beside them
pub names_with : (names : List (List ℕ)) (lists : List (List Attribute)) → names_of_heads (heads_with names lists) ≡ names
names_with [] lists = refl
names_with (name ∷ names) [] = ap (λ (ns : List (List ℕ)). name ∷ ns) (names_with names [])
names_with (name ∷ names) (attributes ∷ lists) = ap (λ (ns : List (List ℕ)). name ∷ ns) (names_with names lists)

pub count_with : (names : List (List ℕ)) (lists : List (List Attribute)) → length (heads_with names lists) ≡ length names
count_with names lists = sym (length-map (heads_with names lists) (λ (head : Head). head.name)) ∙ ap length (names_with names lists)

-- features are their names with what stands beside them
pub heads_again : (heads : List Head) → heads_with (names_of_heads heads) (attributes_of_heads heads) ≡ heads
heads_again [] = refl
heads_again (head ∷ heads) = ap (λ (hs : List Head). head ∷ hs) (heads_again heads)

mutual
  -- the names of a tree are those of its features
  pub names_are : (tree : Tree) → names_of tree ≡ names_of_heads (heads_of tree)
  names_are (feature head below) = ap (λ (ns : List (List ℕ)). head.name ∷ ns) (groups_names below)

  groups_names : (below : Groups) → names_of_groups below ≡ names_of_heads (heads_of_groups below)
  groups_names no_groups = refl
  groups_names (group lo hi members others) =
      ap (λ (ns : List (List ℕ)). ns ++ names_of_groups others) (members_names members)
      ∙ ap (λ (ns : List (List ℕ)). names_of_heads (heads_of_members members) ++ ns) (groups_names others)
      ∙ sym (map-append (λ (head : Head). head.name) (heads_of_members members) (heads_of_groups others))

  members_names : (members : Members) → names_of_members members ≡ names_of_heads (heads_of_members members)
  members_names no_members = refl
  members_names (member tree others) =
      ap (λ (ns : List (List ℕ)). ns ++ names_of_members others) (names_are tree)
      ∙ ap (λ (ns : List (List ℕ)). names_of_heads (heads_of tree) ++ ns) (members_names others)
      ∙ sym (map-append (λ (head : Head). head.name) (heads_of tree) (heads_of_members others))

-- the first of its features is the root
pub root_is : (tree : Tree) → root_of (heads_of tree) ≡ top_name tree
root_is (feature head below) = refl
