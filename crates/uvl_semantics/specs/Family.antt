-- Families of sets of features, and whether some set of a family passes a test. A set is a list of names, of which
-- only membership counts.
use Rattle.std.specs.Prelude.{◌≡◌, ℕ, Bool, true, not, ◌&&◌, List, [], ◌∷◌, ◌++◌, map, if◌then◌else◌}
use Rattle.std.specs.List.{list_any, list_all}
use Rattle.uvl_semantics.specs.Constraint.{Constraint}
use Rattle.uvl_semantics.specs.Holding.{holds}
use Rattle.uvl_semantics.specs.Product.{has, is_product_of_tree}
use Rattle.uvl_semantics.specs.Tree.{Tree, names_of}

-- a family of sets: the names that its sets may have, and which sets are in it
pub record Family : Type 0 where
  pub names : List (List ℕ)
  pub contains : List (List ℕ) → Bool

-- A set is a product: it is one of the tree, and every constraint holds in it.
abbrev pub is_product : Tree → List Constraint → List (List ℕ) → Bool
is_product tree constraints set =
    is_product_of_tree tree set && list_all (λ constraint. holds tree constraint set) constraints

-- the products of a tree with constraints
abbrev pub ProductsOf : Tree → List Constraint → Family
ProductsOf tree constraints = record { names = names_of tree; contains = is_product tree constraints }

-- the test answers alike for lists of names that have the same members
abbrev pub IsTestOfSets : (List (List ℕ) → Bool) → Type 0
IsTestOfSets test =
    (first second : List (List ℕ)) → ((name : List ℕ) → has first name ≡ has second name) → test first ≡ test second

-- the family is one of sets, and these have only its names
pub record IsOfSets (family : Family) : Type 0 where
  pub by_members : IsTestOfSets family.contains
  pub named : (set : List (List ℕ)) → family.contains set ≡ true → list_all (has family.names) set ≡ true

-- those of the items whose mark is true, the marks standing beside the items
abbrev pub marked : {A : Type 0} → List A → List Bool → List A
marked [] marks = []
marked (item ∷ items) [] = []
marked (item ∷ items) (mark ∷ marks) = if mark then item ∷ marked items marks else marked items marks

-- all sublists of the names, each in their order
abbrev pub sublists_of : List (List ℕ) → List (List (List ℕ))
sublists_of [] = [] ∷ []
sublists_of (name ∷ names) = map (λ set. name ∷ set) (sublists_of names) ++ sublists_of names

-- some set of the family passes the test
abbrev pub some_set : Family → (List (List ℕ) → Bool) → Bool
some_set family test = list_any (λ set. family.contains set && test set) (sublists_of family.names)

-- the family has no set; so a model without a product is void (Benavides, Segura and Ruiz-Cortés 2010)
abbrev pub is_void : Family → Bool
is_void family = not (some_set family (λ set. true))
