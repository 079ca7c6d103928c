-- What holds of all families and of the products of all trees.
use Rattle.std.specs.Prelude.{◌≡◌, ◌↔◌, ℕ, Bool, true, false, ◌&&◌, List}
use Rattle.uvl_semantics.specs.Constraint.{Constraint}
use Rattle.uvl_semantics.specs.Family.{Family, IsTestOfSets, IsOfSets, ProductsOf, marked, some_set, is_void}
use Rattle.uvl_semantics.specs.Tree.{Tree}

-- the products of a tree with constraints are a family of sets
abbrev pub ProductsOfTreesAreSets : Type 0
ProductsOfTreesAreSets = (tree : Tree) (constraints : List Constraint) → IsOfSets (ProductsOf tree constraints)

-- among the sublists of a family's names there is a set that passes a test where any list of names whatever is one
abbrev pub SublistsTellSets : Type 0
SublistsTellSets =
    (family : Family) (test : List (List ℕ) → Bool) → IsOfSets family → IsTestOfSets test →
    (some_set family test ≡ false) ↔ ((set : List (List ℕ)) → (family.contains set && test set) ≡ false)

-- a family of sets is void exactly where no list of names whatever is in it
abbrev pub VoidFamiliesHaveNoSet : Type 0
VoidFamiliesHaveNoSet =
    (family : Family) → IsOfSets family →
    (is_void family ≡ true) ↔ ((set : List (List ℕ)) → family.contains set ≡ false)

-- and it is so already where no marks of its names give a set of it
abbrev pub MarksTellVoidFamilies : Type 0
MarksTellVoidFamilies =
    (family : Family) → ((marks : List Bool) → family.contains (marked family.names marks) ≡ false) →
    is_void family ≡ true
