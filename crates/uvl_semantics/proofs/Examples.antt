-- The definitions on small models: a car with prices, products of numbers at their bounds, and the sum of an imported file.
use Rattle.std.proofs.Common.{◌≡◌, ℕ, pos, true, false, List, [], ◌∷◌, refl}
use Rattle.std.specs.Prelude.{codes}
use Rattle.uvl_ast.specs.declared.feature.Attribute.{Attribute, roll-Attribute}
use Rattle.uvl_ast.specs.declared.feature.AttrValue.TheVariants as value
use Rattle.uvl_semantics.specs.Constraint.{Constraint, selected, implication, comparison, at_most, literal, attribute, total, times}
use Rattle.uvl_semantics.specs.Family.{is_product}
use Rattle.uvl_semantics.specs.Tree.{Tree, Members, feature, no_groups, group, no_members, member}

-- an attribute with a number of millionths
abbrev numbered : List ℕ → ℕ → Attribute
numbered key millionths = roll-Attribute (record { key = key; value = value.Number (pos millionths); place = record { line = 1; column = 1 } })

-- a feature without groups, in front of other members
abbrev leaf : List ℕ → List Attribute → Members → Members
leaf name attributes others = member (feature (record { name = name; attributes = attributes }) no_groups) others

-- one of two engines, and a radio and a navigation system that cost something
abbrev car : Tree
car =
    feature (record { name = codes "Car"; attributes = [] })
    (group 1 1 (leaf (codes "Gas") [] (leaf (codes "Electric") [] no_members))
    (group 0 2 (leaf (codes "Radio") (numbered (codes "Price") 300000000 ∷ []) (leaf (codes "Nav") (numbered (codes "Price") 700500000 ∷ []) no_members)) no_groups))

-- the navigation system needs the radio, and all that is selected costs at most so much
abbrev rules_of_car : ℕ → List Constraint
rules_of_car most =
    implication (selected (codes "Nav")) (selected (codes "Radio"))
    ∷ comparison at_most (total (codes "Car") (codes "Price")) (literal (pos most))
    ∷ []

a_radio_is_cheap : is_product car (rules_of_car 1000000000) (codes "Car" ∷ codes "Gas" ∷ codes "Radio" ∷ []) ≡ true
a_radio_is_cheap = refl

navigation_needs_the_radio : is_product car (rules_of_car 1000000000) (codes "Car" ∷ codes "Gas" ∷ codes "Nav" ∷ []) ≡ false
navigation_needs_the_radio = refl

both_cost_too_much : is_product car (rules_of_car 1000000000) (codes "Car" ∷ codes "Gas" ∷ codes "Radio" ∷ codes "Nav" ∷ []) ≡ false
both_cost_too_much = refl

both_cost_exactly_so_much : is_product car (rules_of_car 1000500000) (codes "Car" ∷ codes "Gas" ∷ codes "Radio" ∷ codes "Nav" ∷ []) ≡ true
both_cost_exactly_so_much = refl

two_engines_are_too_many : is_product car (rules_of_car 1000000000) (codes "Car" ∷ codes "Gas" ∷ codes "Electric" ∷ []) ≡ false
two_engines_are_too_many = refl

-- a single feature whose attribute p is 2
abbrev single : Tree
single = feature (record { name = codes "A"; attributes = numbered (codes "p") 2000000 ∷ [] }) no_groups

-- 999999 * A.p is at most so much, told in millionths
abbrev bounded : ℕ → List Constraint
bounded most =
    comparison at_most (times (literal (pos 999999000000)) (attribute (codes "A") (codes "p"))) (literal (pos most)) ∷ []

the_product_is_below : is_product single (bounded 2000000000000) (codes "A" ∷ []) ≡ true
the_product_is_below = refl

the_product_is_exact : is_product single (bounded 1999997999999) (codes "A" ∷ []) ≡ false
the_product_is_exact = refl

-- one whose attribute p is the greatest number
abbrev greatest : Tree
greatest = feature (record { name = codes "A"; attributes = numbered (codes "p") 999999999999999999 ∷ [] }) no_groups

-- 999999.999999 * A.p is at most the greatest number
abbrev far_below : List Constraint
far_below =
    comparison at_most (times (literal (pos 999999999999)) (attribute (codes "A") (codes "p"))) (literal (pos 999999999999999999)) ∷ []

no_digit_is_lost : is_product greatest far_below (codes "A" ∷ []) ≡ false
no_digit_is_lost = refl

-- a radio with a receiver, as an imported file has it
abbrev radio : Members
radio =
    member (feature (record { name = codes "r.Radio"; attributes = [] }) (group 0 1 (leaf (codes "r.DAB") (numbered (codes "Price") 50000000 ∷ []) no_members) no_groups))
    no_members

-- it is placed in a car with seats
abbrev car_with_radio : Tree
car_with_radio =
    feature (record { name = codes "Car"; attributes = [] })
    (group 1 1 (leaf (codes "Seats") (numbered (codes "Price") 100000000 ∷ []) no_members) (group 0 1 radio no_groups))

-- the placed file's sum is at most 40
abbrev rules_of_radio : List Constraint
rules_of_radio = comparison at_most (total (codes "r.Radio") (codes "Price")) (literal (pos 40000000)) ∷ []

seats_are_not_counted : is_product car_with_radio rules_of_radio (codes "Car" ∷ codes "Seats" ∷ codes "r.Radio" ∷ []) ≡ true
seats_are_not_counted = refl

the_receiver_costs_too_much : is_product car_with_radio rules_of_radio (codes "Car" ∷ codes "Seats" ∷ codes "r.Radio" ∷ codes "r.DAB" ∷ []) ≡ false
the_receiver_costs_too_much = refl
