-- The definitions on a small model: either of A and B needs C.
use Rattle.std.proofs.Common.{◌≡◌, ℕ, true, false, List, [], ◌∷◌, Some, None, refl}
use Rattle.std.specs.Prelude.{codes}
use Rattle.uvl_semantics.specs.Constraint.{selected, implication, disjunction}
use Rattle.uvl_semantics.specs.Family.{Family, ProductsOf}
use Rattle.uvl_semantics.specs.Tree.{Members, feature, no_groups, group, no_members, member}
use Rattle.uvl_decisions.specs.Deciding.{decide_answer, conflict}
use Rattle.uvl_decisions.specs.Decisions.{Decision, is_forced, is_offered}
use Rattle.uvl_decisions.specs.Explanation.{explanation}
use Rattle.uvl_decisions.specs.Retracting.{retract_answer, is_closed}
use Rattle.uvl_decisions.specs.Session.{Session, chosen, forced, choices_of, close}

-- a feature without groups and attributes, in front of other members
abbrev leaf : List ℕ → Members → Members
leaf name others = member (feature (record { name = name; attributes = [] }) no_groups) others

abbrev products : Family
products =
    ProductsOf (feature (record { name = codes "R"; attributes = [] })
    (group 0 3 (leaf (codes "A") (leaf (codes "B") (leaf (codes "C") no_members))) no_groups))
    (implication (disjunction (selected (codes "A")) (selected (codes "B"))) (selected (codes "C")) ∷ [])

abbrev yes : List ℕ → Decision
yes name = record { feature = name; value = true }

abbrev no : List ℕ → Decision
no name = record { feature = name; value = false }

nothing_is_forced_at_first : explanation products [] (yes (codes "C")) ≡ None
nothing_is_forced_at_first = refl

the_oldest_is_dropped : explanation products (yes (codes "A") ∷ yes (codes "B") ∷ []) (yes (codes "C")) ≡ Some (yes (codes "B") ∷ [])
the_oldest_is_dropped = refl

the_root_needs_no_decision : explanation products (yes (codes "A") ∷ []) (yes (codes "R")) ≡ Some []
the_root_needs_no_decision = refl

without_c_there_is_no_a : is_forced products (no (codes "C") ∷ []) (no (codes "A")) ≡ true
without_c_there_is_no_a = refl

b_is_free_beside_a : is_offered products (yes (codes "A") ∷ []) (no (codes "B")) ≡ true
b_is_free_beside_a = refl

-- A and B are chosen; then C can't be left out, as the newer of the two forces it
abbrev chosen_two : Session
chosen_two = record { closed = []; standing = yes (codes "A") ∷ yes (codes "B") ∷ [] }

a_conflict_names_its_reason : decide_answer products chosen_two (no (codes "C")) ≡ conflict (yes (codes "B") ∷ [])
a_conflict_names_its_reason = refl

all_choices_are_known : choices_of products chosen_two ≡ forced true ∷ chosen true ∷ chosen true ∷ forced true ∷ []
all_choices_are_known = refl

a_closed_decision_stays : retract_answer products (close chosen_two) (codes "A") ≡ is_closed
a_closed_decision_stays = refl
