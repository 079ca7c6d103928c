-- The definitions on a car whose navigation system costs too much beside the radio that it needs.
use Rattle.std.proofs.Common.{◌≡◌, ℕ, true, List, [], ◌∷◌, refl}
use Rattle.std.specs.Prelude.{codes}
use Rattle.uvl_semantics.specs.Family.{ProductsOf, Family}
use Rattle.uvl_semantics.specs.Constraint.{Constraint, selected, negation, implication}
use Rattle.uvl_semantics.specs.Tree.{Tree, Members, feature, no_groups, group, no_members, member}
use Rattle.uvl_analyses.specs.Analyses.{dead_of, core_of, comes_with}

-- a feature without groups, in front of other members
abbrev leaf : List ℕ → Members → Members
leaf name others = member (feature (record { name = name; attributes = [] }) no_groups) others

-- a root with a radio and a navigation system, both of which may be left out
abbrev car : Tree
car =
    feature (record { name = codes "Car"; attributes = [] })
    (group 0 2 (leaf (codes "Radio") (leaf (codes "Nav") no_members)) no_groups)

-- these products, where the constraints hold
abbrev cars : List Constraint → Family
cars constraints = ProductsOf car constraints

the_root_is_core : core_of (cars []) ≡ codes "Car" ∷ []
the_root_is_core = refl

nothing_is_dead : dead_of (cars []) ≡ []
nothing_is_dead = refl

-- the navigation system needs the radio and goes without it
abbrev torn : List Constraint
torn = implication (selected (codes "Nav")) (selected (codes "Radio")) ∷ implication (selected (codes "Radio")) (negation (selected (codes "Nav"))) ∷ []

navigation_is_dead : dead_of (cars torn) ≡ codes "Nav" ∷ []
navigation_is_dead = refl

-- each car has a radio, though its group lets it go
radios_come_with_cars : comes_with (cars (implication (selected (codes "Car")) (selected (codes "Radio")) ∷ [])) (codes "Car") (codes "Radio") ≡ true
radios_come_with_cars = refl

-- a root that excludes itself
everything_is_dead : dead_of (cars (negation (selected (codes "Car")) ∷ [])) ≡ codes "Car" ∷ codes "Radio" ∷ codes "Nav" ∷ []
everything_is_dead = refl
