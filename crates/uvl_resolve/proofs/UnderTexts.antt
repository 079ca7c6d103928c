-- Trees and constraints with texts in front of their names.
use Rattle.std.proofs.Common.{◌≡◌, ℕ, List, [], ◌∷◌, ◌++◌, refl, sym, ap, ◌∙◌}
use Rattle.std.proofs.lemmas.List.{append_assoc}
use Rattle.uvl_semantics.specs.Constraint.{Constraint, Quantity, selected, negation, conjunction, disjunction, implication, equivalence, comparison, literal, attribute, total, plus, minus, times}
use Rattle.uvl_semantics.specs.Prefix.{prefixed, prefixed_groups, prefixed_members, prefixed_head, prefixed_name, prefixed_constraint, prefixed_quantity}
use Rattle.uvl_semantics.specs.Tree.{Tree, Groups, Members, Head, feature, no_groups, group, no_members, member}
use Rattle.uvl_resolve.specs.Under.{head_under, tree_under, groups_under, members_under, constraint_under, quantity_under}

mutual
  -- nothing is in front
  pub under_nothing : (tree : Tree) → tree_under [] tree ≡ tree
  under_nothing (feature head below) = ap (feature head) (groups_under_nothing below)

  groups_under_nothing : (below : Groups) → groups_under [] below ≡ below
  groups_under_nothing no_groups = refl
  groups_under_nothing (group lo hi members others) =
      ap (λ (m : Members). group lo hi m (groups_under [] others)) (members_under_nothing members)
      ∙ ap (group lo hi members) (groups_under_nothing others)

  members_under_nothing : (members : Members) → members_under [] members ≡ members
  members_under_nothing no_members = refl
  members_under_nothing (member tree others) =
      ap (λ (t : Tree). member t (members_under [] others)) (under_nothing tree) ∙ ap (member tree) (members_under_nothing others)

-- the text in front where a qualifier comes between
abbrev pub longer : List ℕ → List ℕ → List ℕ
longer text qualifier = text ++ (qualifier ++ 46 ∷ [])

name_longer : (text qualifier name : List ℕ) → text ++ prefixed_name qualifier name ≡ longer text qualifier ++ name
name_longer text qualifier name =
    ap (λ (xs : List ℕ). text ++ xs) (sym (append_assoc qualifier (46 ∷ []) name)) ∙ sym (append_assoc text (qualifier ++ 46 ∷ []) name)

head_longer : (text qualifier : List ℕ) (head : Head) → head_under text (prefixed_head qualifier head) ≡ head_under (longer text qualifier) head
head_longer text qualifier head = λ i. record { name = name_longer text qualifier head.name i; attributes = head.attributes }

mutual
  -- a qualifier comes between
  pub under_longer : (text qualifier : List ℕ) (tree : Tree) → tree_under text (prefixed qualifier tree) ≡ tree_under (longer text qualifier) tree
  under_longer text qualifier (feature head below) =
      ap (λ (h : Head). feature h (groups_under text (prefixed_groups qualifier below))) (head_longer text qualifier head)
      ∙ ap (feature (head_under (longer text qualifier) head)) (groups_longer text qualifier below)

  groups_longer : (text qualifier : List ℕ) (below : Groups)
      → groups_under text (prefixed_groups qualifier below) ≡ groups_under (longer text qualifier) below
  groups_longer text qualifier no_groups = refl
  groups_longer text qualifier (group lo hi members others) =
      ap (λ (m : Members). group lo hi m (groups_under text (prefixed_groups qualifier others))) (members_longer text qualifier members)
      ∙ ap (group lo hi (members_under (longer text qualifier) members)) (groups_longer text qualifier others)

  members_longer : (text qualifier : List ℕ) (members : Members)
      → members_under text (prefixed_members qualifier members) ≡ members_under (longer text qualifier) members
  members_longer text qualifier no_members = refl
  members_longer text qualifier (member tree others) =
      ap (λ (t : Tree). member t (members_under text (prefixed_members qualifier others))) (under_longer text qualifier tree)
      ∙ ap (member (tree_under (longer text qualifier) tree)) (members_longer text qualifier others)

-- numbers and constraints
quantity_longer : (text qualifier : List ℕ) (number : Quantity) → quantity_under text (prefixed_quantity qualifier number) ≡ quantity_under (longer text qualifier) number
quantity_longer text qualifier (literal millionths) = refl
quantity_longer text qualifier (attribute name key) = ap (λ (n : List ℕ). attribute n key) (name_longer text qualifier name)
quantity_longer text qualifier (total top key) = ap (λ (n : List ℕ). total n key) (name_longer text qualifier top)
quantity_longer text qualifier (plus left right) = rw (quantity_longer text qualifier left, quantity_longer text qualifier right) refl
quantity_longer text qualifier (minus left right) = rw (quantity_longer text qualifier left, quantity_longer text qualifier right) refl
quantity_longer text qualifier (times left right) = rw (quantity_longer text qualifier left, quantity_longer text qualifier right) refl

pub constraint_longer : (text qualifier : List ℕ) (c : Constraint) → constraint_under text (prefixed_constraint qualifier c) ≡ constraint_under (longer text qualifier) c
constraint_longer text qualifier (selected name) = ap selected (name_longer text qualifier name)
constraint_longer text qualifier (negation operand) = ap negation (constraint_longer text qualifier operand)
constraint_longer text qualifier (conjunction left right) = rw (constraint_longer text qualifier left, constraint_longer text qualifier right) refl
constraint_longer text qualifier (disjunction left right) = rw (constraint_longer text qualifier left, constraint_longer text qualifier right) refl
constraint_longer text qualifier (implication left right) = rw (constraint_longer text qualifier left, constraint_longer text qualifier right) refl
constraint_longer text qualifier (equivalence left right) = rw (constraint_longer text qualifier left, constraint_longer text qualifier right) refl
constraint_longer text qualifier (comparison how left right) = rw (quantity_longer text qualifier left, quantity_longer text qualifier right) refl

-- nothing is in front of a constraint
quantity_bare : (number : Quantity) → quantity_under [] number ≡ number
quantity_bare (literal millionths) = refl
quantity_bare (attribute name key) = refl
quantity_bare (total top key) = refl
quantity_bare (plus left right) = rw (quantity_bare left, quantity_bare right) refl
quantity_bare (minus left right) = rw (quantity_bare left, quantity_bare right) refl
quantity_bare (times left right) = rw (quantity_bare left, quantity_bare right) refl

pub constraint_bare : (c : Constraint) → constraint_under [] c ≡ c
constraint_bare (selected name) = refl
constraint_bare (negation operand) = ap negation (constraint_bare operand)
constraint_bare (conjunction left right) = rw (constraint_bare left, constraint_bare right) refl
constraint_bare (disjunction left right) = rw (constraint_bare left, constraint_bare right) refl
constraint_bare (implication left right) = rw (constraint_bare left, constraint_bare right) refl
constraint_bare (equivalence left right) = rw (constraint_bare left, constraint_bare right) refl
constraint_bare (comparison how left right) = rw (quantity_bare left, quantity_bare right) refl
