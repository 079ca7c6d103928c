-- Whether a set is a product of a tree with constraints depends on its members alone.
use Rattle.std.proofs.Common.{◌≡◌, ℕ, Bool, true, false, not, ◌&&◌, List, [], ◌∷◌, refl, ap}
use Rattle.std.specs.List.{list_all}
use Rattle.std.proofs.Math.Path.{fun_ext}
use Rattle.uvl_semantics.specs.Constraint.{Quantity, literal, attribute, total, plus, minus, times}
use Rattle.uvl_semantics.specs.Constraint.{Constraint, selected, negation, conjunction, disjunction, implication, equivalence, comparison}
use Rattle.uvl_semantics.specs.Family.{IsTestOfSets, IsOfSets, ProductsOf, is_product}
use Rattle.uvl_semantics.specs.Holding.{holds_by}
use Rattle.uvl_semantics.specs.Product.{has, chosen_count, is_absent, fits, groups_fit, members_fit}
use Rattle.uvl_semantics.specs.Tree.{Tree, Groups, Members, Head, feature, no_groups, group, no_members, member, top_name, names_of}
use Rattle.uvl_semantics.specs.Values.{Heads, heads_in, total_of, plain_by, value_by}
use Rattle.uvl_semantics.proofs.Membership.{all_have-same}

module _ (first second : List (List ℕ)) (same : (name : List ℕ) → has first name ≡ has second name) where
  count-same : (members : Members) → chosen_count members first ≡ chosen_count members second
  count-same no_members = refl
  count-same (member tree others) = rw (same (top_name tree), count-same others) refl

  absent-same : (tree : Tree) → is_absent tree first ≡ is_absent tree second
  absent-same tree = ap (λ (test : List ℕ → Bool). list_all (λ name. not (test name)) (names_of tree)) (fun_ext same)

  mutual
    fits-same : (tree : Tree) → fits tree first ≡ fits tree second
    fits-same (feature head below) = groups-same below

    groups-same : (groups : Groups) → groups_fit groups first ≡ groups_fit groups second
    groups-same no_groups = refl
    groups-same (group lo hi members others) = rw (count-same members, members-same members, groups-same others) refl

    members-same : (members : Members) → members_fit members first ≡ members_fit members second
    members-same no_members = refl
    members-same (member tree others) = rw (same (top_name tree), fits-same tree, absent-same tree, members-same others) refl

  total-same : (key : List ℕ) (heads : List Head) → total_of key heads first ≡ total_of key heads second
  total-same key [] = refl
  total-same key (head ∷ heads) = rw (same head.name, total-same key heads) refl

  module _ (heads : Heads) where
    plain-same : (quantity : Quantity) → plain_by heads quantity first ≡ plain_by heads quantity second
    plain-same (literal millionths) = refl
    plain-same (attribute name key) = rw (same name) refl
    plain-same (total top key) = total-same key (heads.below top)
    plain-same (plus left right) = rw (plain-same left, plain-same right) refl
    plain-same (minus left right) = rw (plain-same left, plain-same right) refl
    plain-same (times left right) = refl

    value-same : (quantity : Quantity) → value_by heads quantity first ≡ value_by heads quantity second
    value-same (literal millionths) = refl
    value-same (attribute name key) = rw (same name) refl
    value-same (total top key) = rw (total-same key (heads.below top)) refl
    value-same (plus left right) = rw (value-same left, value-same right) refl
    value-same (minus left right) = rw (value-same left, value-same right) refl
    value-same (times left right) = rw (plain-same left, plain-same right) refl

    -- a constraint holds alike
    pub holds-same : (constraint : Constraint) → holds_by heads constraint first ≡ holds_by heads constraint second
    holds-same (selected name) = same name
    holds-same (negation operand) = rw (holds-same operand) refl
    holds-same (conjunction left right) = rw (holds-same left, holds-same right) refl
    holds-same (disjunction left right) = rw (holds-same left, holds-same right) refl
    holds-same (implication left right) = rw (holds-same left, holds-same right) refl
    holds-same (equivalence left right) = rw (holds-same left, holds-same right) refl
    holds-same (comparison how left right) = rw (value-same left, value-same right) refl

    -- and so do all of a list
    pub all_hold-same : (constraints : List Constraint)
        → list_all (λ constraint. holds_by heads constraint first) constraints ≡ list_all (λ constraint. holds_by heads constraint second) constraints
    all_hold-same [] = refl
    all_hold-same (constraint ∷ constraints) = rw (holds-same constraint, all_hold-same constraints) refl

product-same : (tree : Tree) (constraints : List Constraint) → IsTestOfSets (is_product tree constraints)
product-same tree constraints first second same =
    rw (all_have-same (names_of tree) first second same, same (top_name tree), fits-same first second same tree, all_hold-same first second same (heads_in tree) constraints)
    refl

named_by : (within top fit hold : Bool) → (within && top && fit && hold) ≡ true → within ≡ true
named_by true top fit hold h = refl
named_by false top fit hold h = h

pub products-IsOfSets : (tree : Tree) (constraints : List Constraint) → IsOfSets (ProductsOf tree constraints)
products-IsOfSets tree constraints =
    record { by_members = product-same tree constraints; named = λ set product. named_by _ _ _ _ product }
