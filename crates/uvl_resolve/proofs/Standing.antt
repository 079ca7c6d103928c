-- Features that stand among others.
use Rattle.std.proofs.Common.{◌≡◌, ℕ, zero, suc, ◌+◌, ◌-◌, List, [], ◌∷◌, ◌++◌, length, map, take, Some, Bool, true, false, cond, refl, sym, ap, ◌∙◌, subst, arith}
use Rattle.std.specs.Prelude.{slice_get, position}
use Rattle.std.specs.Option.{option_map}
use Rattle.std.specs.Str.{bytes_eq}
use Rattle.std.proofs.lemmas.Bool.{false≢true, or_parts}
use Rattle.std.proofs.lemmas.List.{append_assoc, map-append}
use Rattle.std.proofs.lemmas.Option.{slice_get-map}
use Rattle.std.proofs.lemmas.Slice.Eq.{bytes_eq-Decides}
use Rattle.uvl_imports.specs.Texts.{AreDistinct, has}
use Rattle.uvl_placing.specs.Names.{dotted, behind_dots, front_of, last_of}
use Rattle.uvl_resolve.specs.Under.{head_under}
use Rattle.uvl_resolve.specs.steps.Rules.{StandAt}
use Rattle.uvl_resolve.proofs.Targets.{position_next}
use Rattle.uvl_semantics.specs.Prefix.{prefixed, prefixed_groups, prefixed_head, prefixed_members, prefixed_name}
use Rattle.uvl_semantics.specs.Tree.{Tree, Groups, Members, Head, feature, no_groups, group, no_members, member, heads_of, heads_of_groups, heads_of_members, top_head}

-- what stands behind a list
pub get_behind : {A : Type 0} (front rest : List A) (n k : ℕ) → n ≡ length front + k → slice_get (front ++ rest) n ≡ slice_get rest k
get_behind [] rest n k e = ap (slice_get rest) (omega (arith, e))
get_behind (x ∷ front) rest zero k e = absurd (omega (arith, e))
get_behind (x ∷ front) rest (suc n) k e = get_behind front rest n k (omega (arith, e))

-- what stands in it is there with more behind it
pub get_before : {A : Type 0} (front rest : List A) (k : ℕ) (x : A) → slice_get front k ≡ Some x → slice_get (front ++ rest) k ≡ Some x
get_before [] rest k x h = absurd cc
get_before (y ∷ front) rest zero x h = h
get_before (y ∷ front) rest (suc k) x h = get_before front rest k x h

-- features stand among themselves
pub stand_here : (heads : List Head) → StandAt heads 0 [] heads
stand_here heads k head h = ap (slice_get heads) (omega arith) ∙ h

pub stand_behind : (front all : List Head) (n : ℕ) (text : List ℕ) (heads : List Head) → StandAt all n text heads → StandAt (front ++ all) (length front + n) text heads
stand_behind front all n text heads stand k head h = get_behind front all ((length front + n) + k) (n + k) (omega arith) ∙ stand k head h

pub stand_before : (all rest : List Head) (n : ℕ) (text : List ℕ) (heads : List Head) → StandAt all n text heads → StandAt (all ++ rest) n text heads
stand_before all rest n text heads stand k head h = get_before all rest (n + k) (head_under text head) (stand k head h)

-- a feature with two texts in front
under_both : (text more : List ℕ) (head : Head) → head_under text (head_under more head) ≡ head_under (text ++ more) head
under_both text more head = λ i. record { name = sym (append_assoc text more head.name) i; attributes = head.attributes }

-- features that stand among features that stand among others
pub stand_within : (all heads inner : List Head) (offset number : ℕ) (text more : List ℕ) → StandAt all offset text heads → StandAt heads number more inner
    → StandAt all (offset + number) (text ++ more) inner
stand_within all heads inner offset number text more outer stand k head h =
    let n : (offset + number) + k ≡ offset + (number + k) = omega arith in
    ap (slice_get all) n ∙ outer (number + k) (head_under more head) (stand k head h)
    ∙ ap (λ (t : Head). Some t) (under_both text more head)

-- a feature under a qualifier
under_qualifier : (qualifier : List ℕ) (head : Head) → prefixed_head qualifier head ≡ head_under (qualifier ++ 46 ∷ []) head
under_qualifier qualifier head = λ i. record { name = sym (append_assoc qualifier (46 ∷ []) head.name) i; attributes = head.attributes }

-- features under a qualifier
pub stand_under : (qualifier : List ℕ) (heads : List Head) → StandAt (map (prefixed_head qualifier) heads) 0 (qualifier ++ 46 ∷ []) heads
stand_under qualifier heads k head h =
    ap (slice_get (map (prefixed_head qualifier) heads)) (omega arith) ∙ slice_get-map (prefixed_head qualifier) heads k
    ∙ ap (option_map (prefixed_head qualifier)) h ∙ ap (λ (t : Head). Some t) (under_qualifier qualifier head)

-- the features of a tree under a qualifier
mutual
  pub heads_prefixed : (qualifier : List ℕ) (tree : Tree) → heads_of (prefixed qualifier tree) ≡ map (prefixed_head qualifier) (heads_of tree)
  heads_prefixed qualifier (feature head below) = ap (λ (hs : List Head). prefixed_head qualifier head ∷ hs) (groups_prefixed qualifier below)

  groups_prefixed : (qualifier : List ℕ) (below : Groups) → heads_of_groups (prefixed_groups qualifier below) ≡ map (prefixed_head qualifier) (heads_of_groups below)
  groups_prefixed qualifier no_groups = refl
  groups_prefixed qualifier (group lo hi members others) =
      ap (λ (hs : List Head). hs ++ heads_of_groups (prefixed_groups qualifier others)) (members_prefixed qualifier members)
      ∙ ap (λ (hs : List Head). map (prefixed_head qualifier) (heads_of_members members) ++ hs) (groups_prefixed qualifier others)
      ∙ sym (map-append (prefixed_head qualifier) (heads_of_members members) (heads_of_groups others))

  members_prefixed : (qualifier : List ℕ) (members : Members) → heads_of_members (prefixed_members qualifier members) ≡ map (prefixed_head qualifier) (heads_of_members members)
  members_prefixed qualifier no_members = refl
  members_prefixed qualifier (member tree others) =
      ap (λ (hs : List Head). hs ++ heads_of_members (prefixed_members qualifier others)) (heads_prefixed qualifier tree)
      ∙ ap (λ (hs : List Head). map (prefixed_head qualifier) (heads_of tree) ++ hs) (members_prefixed qualifier others)
      ∙ sym (map-append (prefixed_head qualifier) (heads_of tree) (heads_of_members others))

-- the first feature is the top
pub top_first : (tree : Tree) → slice_get (heads_of tree) 0 ≡ Some (top_head tree)
top_first (feature head below) = refl

-- all names but the last, and the last behind a dot
front_more : (name next : List ℕ) (names : List (List ℕ)) → front_of (name ∷ next ∷ names) ≡ name ∷ front_of (next ∷ names)
front_more name next names =
    let e : length (name ∷ next ∷ names) - 1 ≡ suc (length (next ∷ names) - 1) = omega arith in
    ap (λ (n : ℕ). take n (name ∷ next ∷ names)) e

front_one : (name : List ℕ) → front_of (name ∷ []) ≡ []
front_one name =
    let e : length (name ∷ []) - 1 ≡ 0 = omega arith in
    ap (λ (n : ℕ). take n (name ∷ [])) e

last_behind : (name : List ℕ) (names : List (List ℕ)) → behind_dots (front_of (name ∷ names)) ++ 46 ∷ last_of (name ∷ names) ≡ behind_dots (name ∷ names)
last_behind name [] =
    ap (λ (ns : List (List ℕ)). behind_dots ns ++ 46 ∷ name) (front_one name) ∙ sym (ap (λ (t : List ℕ). 46 ∷ t) (append_nil name))
  where
    append_nil : (xs : List ℕ) → xs ++ [] ≡ xs
    append_nil [] = refl
    append_nil (x ∷ xs) = ap (λ (t : List ℕ). x ∷ t) (append_nil xs)
last_behind name (next ∷ names) =
    ap (λ (ns : List (List ℕ)). behind_dots ns ++ 46 ∷ last_of (next ∷ names)) (front_more name next names)
    ∙ append_assoc (46 ∷ name) (behind_dots (front_of (next ∷ names))) (46 ∷ last_of (next ∷ names))
    ∙ ap (λ (t : List ℕ). (46 ∷ name) ++ t) (last_behind next names)

pub last_dotted : (name next : List ℕ) (names : List (List ℕ))
    → prefixed_name (dotted (front_of (name ∷ next ∷ names))) (last_of (name ∷ next ∷ names)) ≡ dotted (name ∷ next ∷ names)
last_dotted name next names =
    ap (λ (ns : List (List ℕ)). dotted ns ++ 46 ∷ last_of (next ∷ names)) (front_more name next names)
    ∙ append_assoc name (behind_dots (front_of (next ∷ names))) (46 ∷ last_of (next ∷ names))
    ∙ ap (λ (t : List ℕ). name ++ t) (last_behind next names)

-- a name that stands once is found where it stands
pub found_at : (names : List (List ℕ)) (k : ℕ) (name : List ℕ) → AreDistinct names → slice_get names k ≡ Some name → position (bytes_eq name) names ≡ Some k
found_at [] k name distinct h = absurd cc
found_at (x ∷ names) zero name distinct h =
    let same : name ≡ x = cc in
    position_next (bytes_eq name) x names
    ∙ ap (λ (t : Bool). cond t (Some 0) (option_map suc (position (bytes_eq name) names))) ((bytes_eq-Decides name x).1 same)
found_at (x ∷ names) (suc k) name distinct h =
    position_next (bytes_eq name) x names
    ∙ ap (λ (t : Bool). cond t (Some 0) (option_map suc (position (bytes_eq name) names))) (differs (bytes_eq name x) refl)
    ∙ ap (option_map suc) (found_at names k name distinct.1 h)
  where
    not_there : (names : List (List ℕ)) (k : ℕ) → slice_get names k ≡ Some name → has names x ≡ false → bytes_eq x name ≡ false
    not_there [] k h none = absurd cc
    not_there (y ∷ names) zero h none =
        let same : y ≡ name = cc in
        subst (λ (n : List ℕ). bytes_eq x n ≡ false) same (or_parts (bytes_eq x y) (has names x) none).0
    not_there (y ∷ names) (suc k) h none = not_there names k h (or_parts (bytes_eq x y) (has names x) none).1

    differs : (b : Bool) → bytes_eq name x ≡ b → b ≡ false
    differs false e = refl
    differs true e =
        let same : x ≡ name = sym ((bytes_eq-Decides name x).0 e) in
        absurd (false≢true (sym (not_there names k h distinct.0) ∙ (bytes_eq-Decides x name).1 same))
