-- Trees under a qualifier.
use Rattle.std.proofs.Common.{◌≡◌, ℕ, ◌+◌, max, List, ◌∷◌, ◌++◌, map, refl, sym, ap, ◌∙◌}
use Rattle.std.proofs.lemmas.List.{map-append}
use Rattle.uvl_ast.specs.declared.feature.Attribute.{Attribute}
use Rattle.uvl_semantics.specs.Prefix.{prefixed_name, prefixed, prefixed_groups, prefixed_members}
use Rattle.uvl_semantics.specs.Tree.{Tree, Groups, Members, Head, feature, no_groups, group, no_members, member, heads_of, heads_of_groups, heads_of_members, names_of, names_of_groups, names_of_members, depth_of, depth_of_groups, depth_of_members}

-- what stands at features
abbrev attributes_at : List Head → List (List Attribute)
attributes_at heads = map (λ head. head.attributes) heads

-- what stands at features, one behind the other
pub attributes_both : (first second : List Head) (here there : List (List Attribute)) → here ≡ attributes_at first → there ≡ attributes_at second
    → here ++ there ≡ attributes_at (first ++ second)
attributes_both first second here there is are =
    ap (λ (lists : List (List Attribute)). lists ++ there) is ∙ ap (λ (lists : List (List Attribute)). attributes_at first ++ lists) are
    ∙ sym (map-append (λ (head : Head). head.attributes) first second)

module _ (qualifier : List ℕ) where
  -- names in front of others
  in_front : (first second here there : List (List ℕ)) → here ≡ map (prefixed_name qualifier) first → there ≡ map (prefixed_name qualifier) second
      → here ++ there ≡ map (prefixed_name qualifier) (first ++ second)
  in_front first second here there is are =
      ap (λ (ns : List (List ℕ)). ns ++ there) is ∙ ap (λ (ns : List (List ℕ)). map (prefixed_name qualifier) first ++ ns) are
      ∙ sym (map-append (prefixed_name qualifier) first second)

  mutual
    -- each name is under the qualifier
    pub names-prefixed : (tree : Tree) → names_of (prefixed qualifier tree) ≡ map (prefixed_name qualifier) (names_of tree)
    names-prefixed (feature head below) = ap (λ (ns : List (List ℕ)). prefixed_name qualifier head.name ∷ ns) (names-groups below)

    names-groups : (groups : Groups) → names_of_groups (prefixed_groups qualifier groups) ≡ map (prefixed_name qualifier) (names_of_groups groups)
    names-groups no_groups = refl
    names-groups (group lo hi members others) =
        in_front (names_of_members members) (names_of_groups others) (names_of_members (prefixed_members qualifier members))
        (names_of_groups (prefixed_groups qualifier others)) (names-members members) (names-groups others)

    names-members : (members : Members) → names_of_members (prefixed_members qualifier members) ≡ map (prefixed_name qualifier) (names_of_members members)
    names-members no_members = refl
    names-members (member tree others) =
        in_front (names_of tree) (names_of_members others) (names_of (prefixed qualifier tree))
        (names_of_members (prefixed_members qualifier others)) (names-prefixed tree) (names-members others)

  -- two depths that stay as they are
  both : (first second here there : ℕ) → here ≡ first → there ≡ second → max here there ≡ max first second
  both first second here there is are = ap (λ (n : ℕ). max n there) is ∙ ap (max first) are

  mutual
    -- the depth stays as it is
    pub depth-prefixed : (tree : Tree) → depth_of (prefixed qualifier tree) ≡ depth_of tree
    depth-prefixed (feature head below) = ap (λ (n : ℕ). 1 + n) (depth-groups below)

    depth-groups : (groups : Groups) → depth_of_groups (prefixed_groups qualifier groups) ≡ depth_of_groups groups
    depth-groups no_groups = refl
    depth-groups (group lo hi members others) =
        both (depth_of_members members) (depth_of_groups others) (depth_of_members (prefixed_members qualifier members))
        (depth_of_groups (prefixed_groups qualifier others)) (depth-members members) (depth-groups others)

    depth-members : (members : Members) → depth_of_members (prefixed_members qualifier members) ≡ depth_of_members members
    depth-members no_members = refl
    depth-members (member tree others) =
        both (depth_of tree) (depth_of_members others) (depth_of (prefixed qualifier tree))
        (depth_of_members (prefixed_members qualifier others)) (depth-prefixed tree) (depth-members others)

  mutual
    -- so do the attributes
    pub attributes-prefixed : (tree : Tree) → attributes_at (heads_of (prefixed qualifier tree)) ≡ attributes_at (heads_of tree)
    attributes-prefixed (feature head below) = ap (λ (lists : List (List Attribute)). head.attributes ∷ lists) (attributes-groups below)

    attributes-groups : (groups : Groups) → attributes_at (heads_of_groups (prefixed_groups qualifier groups)) ≡ attributes_at (heads_of_groups groups)
    attributes-groups no_groups = refl
    attributes-groups (group lo hi members others) =
        sym (attributes_both (heads_of_members (prefixed_members qualifier members)) (heads_of_groups (prefixed_groups qualifier others))
        (attributes_at (heads_of_members members)) (attributes_at (heads_of_groups others)) (sym (attributes-members members)) (sym (attributes-groups others)))
        ∙ attributes_both (heads_of_members members) (heads_of_groups others) (attributes_at (heads_of_members members)) (attributes_at (heads_of_groups others)) refl refl

    attributes-members : (members : Members) → attributes_at (heads_of_members (prefixed_members qualifier members)) ≡ attributes_at (heads_of_members members)
    attributes-members no_members = refl
    attributes-members (member tree others) =
        sym (attributes_both (heads_of (prefixed qualifier tree)) (heads_of_members (prefixed_members qualifier others))
        (attributes_at (heads_of tree)) (attributes_at (heads_of_members others)) (sym (attributes-prefixed tree)) (sym (attributes-members others)))
        ∙ attributes_both (heads_of tree) (heads_of_members others) (attributes_at (heads_of tree)) (attributes_at (heads_of_members others)) refl refl
