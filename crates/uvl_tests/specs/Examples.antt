-- Small trees, on which the definitions are checked.
use Rattle.std.specs.Prelude.{ℕ, List, [], ◌∷◌, filter, codes}
use Rattle.uvl_semantics.specs.Product.{is_product_of_tree}
use Rattle.uvl_semantics.specs.Tree.{Tree, Groups, Members, Head, feature, no_groups, group, no_members, member, names_of}
use Rattle.uvl_semantics.specs.Family.{sublists_of}

-- a feature without attributes
abbrev pub plain : List ℕ → Groups → Tree
plain name below = feature (record { name = name; attributes = [] }) below

-- members without groups
abbrev pub leaves : List (List ℕ) → Members
leaves [] = no_members
leaves (name ∷ names) = member (plain name no_groups) (leaves names)

-- a car, its mandatory body and an optional radio
abbrev pub thin_tree : Tree
thin_tree =
    plain (codes "Car") (group 1 1 (leaves (codes "Body" ∷ [])) (group 0 1 (leaves (codes "Radio" ∷ [])) no_groups))

-- a root with the group `[2..9]` over three members, of which hi becomes three
abbrev pub two_or_three : Tree
two_or_three = plain (codes "R") (group 2 3 (leaves (codes "A" ∷ codes "B" ∷ codes "C" ∷ [])) no_groups)

-- a root with an optional P, and P with the group `[4..*]` over three members, which none can meet
abbrev pub unfittable : Tree
unfittable =
    plain (codes "R")
    (group 0 1
    (member (plain (codes "P") (group 4 3 (leaves (codes "A" ∷ codes "B" ∷ codes "C" ∷ [])) no_groups)) no_members)
    no_groups)

-- the same group below the root, so that no set has the root and fits
abbrev pub void_tree : Tree
void_tree = plain (codes "R") (group 4 3 (leaves (codes "A" ∷ codes "B" ∷ codes "C" ∷ [])) no_groups)

-- the products among the sublists of a tree's names
abbrev pub products_of : Tree → List (List (List ℕ))
products_of tree = filter (is_product_of_tree tree) (sublists_of (names_of tree))
