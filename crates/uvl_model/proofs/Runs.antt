-- The features below one stand in one run of the rows of a tree.
use Rattle.std.proofs.Common.{◌≡◌, ℕ, zero, suc, ◌+◌, ◌<◌, ◌≤◌, unwrap_or, Bool, true, false, not, cond, ◌⊎◌, inl, inr, List, [], ◌∷◌, ◌++◌, length, take, drop, get_or, map, slice_get, Option, None, Some, Contains, refl, sym, ap, ◌∙◌, subst, append_assoc, append-nil, if◌then◌else◌, arith}
use Rattle.std.specs.List.{before_first, position_or_len}
use Rattle.std.specs.Str.{bytes_eq}
use Rattle.std.proofs.Math.Seq.{drop-append-add}
use Rattle.std.proofs.lemmas.Bool.{false_from_ne_true, le-ltb, lt-ltb}
use Rattle.std.proofs.lemmas.List.{length-map}
use Rattle.std.proofs.lemmas.List.Elements.{Contains-append_left, Contains-append_right, Contains-get_or}
use Rattle.std.proofs.lemmas.Option.{none-some, same_Some}
use Rattle.std.proofs.lemmas.Slice.Eq.{bytes_eq-Decides}
use Rattle.uvl_model.specs.declared.rows.FeatureNo.{FeatureNo}
use Rattle.uvl_model.specs.declared.rows.FeatureRow.{FeatureRow}
use Rattle.uvl_model.specs.Amounts.{is_outside, rows_below, run_from}
use Rattle.uvl_model.specs.Heads.{head_of_row, heads_below_rows}
use Rattle.uvl_model.specs.Names.{feature_names, name_of}
use Rattle.uvl_model.specs.Rows.{Rows}
use Rattle.uvl_model.specs.Rules.{IsThere}
use Rattle.uvl_model.specs.Sound.{AreDistinct, IsSound}
use Rattle.uvl_model.specs.Spelling.{numbered, size_of, size_of_members, feature_rows, feature_rows_of_groups, feature_rows_of_members}
use Rattle.uvl_semantics.specs.Tree.{Tree, Groups, Members, Head, feature, no_groups, group, no_members, member}
use Rattle.uvl_semantics.specs.Tree.{heads_of_groups, names_of, names_of_groups, names_of_members}
use Rattle.uvl_semantics.specs.Values.{heads_below, heads_below_groups, heads_below_members}
use Rattle.uvl_model.proofs.Below.{below_spelled, groups_spelled, heads_spelled, members_spelled, heads_counted, members_counted}
use Rattle.uvl_model.proofs.NamesSpelled.{spelled_names}
use Rattle.uvl_model.proofs.Places.{Contains-at}

-- ---- lists that are taken apart

-- what stands at a place of two lists stands in one of them
in_either : {A : Type 0} (xs ys : List A) (k : ℕ) (x : A) → slice_get (xs ++ ys) k ≡ Some x
    → (slice_get xs k ≡ Some x) ⊎ ((j : ℕ) × (k ≡ length xs + j) × (slice_get ys j ≡ Some x))
in_either [] ys k x at = inr (k, omega arith, at)
in_either (y ∷ xs) ys zero x at = inl at
in_either (y ∷ xs) ys (suc k) x at =
    elim (in_either xs ys k x at) [ inl front ↦ inl front | inr back ↦ inr (back.0, omega (arith, back.1), back.2) ]

distinct_left : (xs ys : List (List ℕ)) → AreDistinct (xs ++ ys) → AreDistinct xs
distinct_left [] ys d = tt
distinct_left (x ∷ xs) ys d = ((λ c. d.0 (Contains-append_left xs ys x c)), distinct_left xs ys d.1)

distinct_right : (xs ys : List (List ℕ)) → AreDistinct (xs ++ ys) → AreDistinct ys
distinct_right [] ys d = d
distinct_right (x ∷ xs) ys d = distinct_right xs ys d.1

-- what a list contains is its first item or is further behind
contains_cases : (y : List ℕ) (xs : List (List ℕ)) (x : List ℕ) → Contains (y ∷ xs) x → (x ≡ y) ⊎ Contains xs x
contains_cases y xs x c = at c.0 c.1 c.2
  where
    at : (k : ℕ) → k < length (y ∷ xs) → get_or (y ∷ xs) k x ≡ x → (x ≡ y) ⊎ Contains xs x
    at zero inside is = inl (sym is)
    at (suc k) inside is = inr (k, omega arith, is)

-- what stands in the first stands not in the second
distinct_apart : (xs ys : List (List ℕ)) → AreDistinct (xs ++ ys) → (k : ℕ) (x : List ℕ) → slice_get xs k ≡ Some x → Contains ys x → ⊥
distinct_apart [] ys d k x at c = none-some x at
distinct_apart (y ∷ xs) ys d zero x at c =
    d.0 (Contains-append_right xs ys y (subst (λ (z : List ℕ). Contains ys z) (sym (same_Some y x at)) c))
distinct_apart (y ∷ xs) ys d (suc k) x at c = distinct_apart xs ys d.1 k x at c

-- nor the other way round
apart_back : (xs ys : List (List ℕ)) → AreDistinct (xs ++ ys) → (j : ℕ) (x : List ℕ) → slice_get ys j ≡ Some x → Contains xs x → ⊥
apart_back [] ys d j x at c = absurd (omega (arith, c.1))
apart_back (y ∷ xs) ys d j x at c =
    elim (contains_cases y xs x c) [
      | inl same ↦ d.0 (Contains-append_right xs ys y (subst (λ (z : List ℕ). Contains ys z) same (Contains-at ys j x at)))
      | inr later ↦ apart_back xs ys d.1 j x at later
    ]

both_empty : {A : Type 0} (xs ys : List A) → xs ≡ [] → ys ≡ [] → xs ++ ys ≡ []
both_empty xs ys e f = ap (λ zs. zs ++ ys) e ∙ f

-- ---- the parents of rows

-- no row is outside
abbrev AllInside : ℕ → List FeatureRow → Type 0
AllInside t [] = Unit {0}
AllInside t (row ∷ rows) = (is_outside (numbered t) row ≡ false) × AllInside t rows

-- the first row is
abbrev Stops : ℕ → List FeatureRow → Type 0
Stops t [] = Unit {0}
Stops t (row ∷ rows) = is_outside (numbered t) row ≡ true

inside_append : (t : ℕ) (xs ys : List FeatureRow) → AllInside t xs → AllInside t ys → AllInside t (xs ++ ys)
inside_append t [] ys h k = k
inside_append t (x ∷ xs) ys h k = (h.0, inside_append t xs ys h.1 k)

mutual
  tree_inside : (tree : Tree) (t : ℕ) (parent : FeatureNo) (n : ℕ) → t ≤ parent.0 → t ≤ n → AllInside t (feature_rows (Some parent) n tree)
  tree_inside (feature head below) t parent n a b = (le-ltb parent.0 t a, groups_inside below t (numbered n) (n + 1) b (omega arith))

  groups_inside : (groups : Groups) (t : ℕ) (parent : FeatureNo) (n : ℕ) → t ≤ parent.0 → t ≤ n → AllInside t (feature_rows_of_groups parent n groups)
  groups_inside no_groups t parent n a b = tt
  groups_inside (group lo hi members others) t parent n a b =
      inside_append t (feature_rows_of_members parent n members) (feature_rows_of_groups parent (n + size_of_members members) others)
      (members_inside members t parent n a b) (groups_inside others t parent (n + size_of_members members) a (omega arith))

  members_inside : (members : Members) (t : ℕ) (parent : FeatureNo) (n : ℕ) → t ≤ parent.0 → t ≤ n → AllInside t (feature_rows_of_members parent n members)
  members_inside no_members t parent n a b = tt
  members_inside (member tree others) t parent n a b =
      inside_append t (feature_rows (Some parent) n tree) (feature_rows_of_members parent (n + size_of tree) others)
      (tree_inside tree t parent n a b) (members_inside others t parent (n + size_of tree) a (omega arith))

members_stop : (members : Members) (t : ℕ) (parent : FeatureNo) (n : ℕ) (rest : List FeatureRow) → parent.0 < t → Stops t rest
    → Stops t (feature_rows_of_members parent n members ++ rest)
members_stop no_members t parent n rest below stops = stops
members_stop (member (feature head below) others) t parent n rest less stops = lt-ltb parent.0 t less

groups_stop : (groups : Groups) (t : ℕ) (parent : FeatureNo) (n : ℕ) (rest : List FeatureRow) → parent.0 < t → Stops t rest
    → Stops t (feature_rows_of_groups parent n groups ++ rest)
groups_stop no_groups t parent n rest below stops = stops
groups_stop (group lo hi members others) t parent n rest below stops =
    let xs = feature_rows_of_members parent n members in
    let ys = feature_rows_of_groups parent (n + size_of_members members) others in
    subst (λ (rows : List FeatureRow). Stops t rows) (sym (append_assoc xs ys rest))
    (members_stop members t parent n (ys ++ rest) below (groups_stop others t parent (n + size_of_members members) rest below stops))

-- the run in front of what stops it
cut_run : (t : ℕ) (xs rest : List FeatureRow) → AllInside t xs → Stops t rest → before_first (is_outside (numbered t)) (xs ++ rest) ≡ xs
cut_run t [] [] inside stops = refl
cut_run t [] (row ∷ rows) inside stops =
    ap (λ (b : Bool). take (cond (not b) (1 + position_or_len (is_outside (numbered t)) rows) 0) (row ∷ rows)) stops
cut_run t (row ∷ rows) rest inside stops =
    let more : 1 + position_or_len (is_outside (numbered t)) (rows ++ rest) ≡ suc (position_or_len (is_outside (numbered t)) (rows ++ rest)) = omega arith in
    ap (λ (b : Bool). take (cond (not b) (1 + position_or_len (is_outside (numbered t)) (rows ++ rest)) 0) (row ∷ (rows ++ rest))) inside.0
    ∙ ap (λ (m : ℕ). take m (row ∷ (rows ++ rest))) more
    ∙ ap (λ (zs : List FeatureRow). row ∷ zs) (cut_run t rows rest inside.1 stops)

-- ---- names that a tree doesn't have

-- what is there stands at its number
stands_there : (names : List (List ℕ)) (k : ℕ) → k < length names → slice_get names k ≡ Some (unwrap_or (slice_get names k) [])
stands_there [] k inside = absurd (omega arith)
stands_there (name ∷ names) zero inside = refl
stands_there (name ∷ names) (suc k) inside = stands_there names k (omega arith)

-- a name differs from one that isn't in the list
differs : (names : List (List ℕ)) (head name : List ℕ) → (Contains names head → ⊥) → Contains names name → bytes_eq head name ≡ false
differs names head name out there =
    false_from_ne_true _ (λ h. out (subst (λ (z : List ℕ). Contains names z) (sym ((bytes_eq-Decides head name).0 h)) there))

-- a name at a place of the list is one
pub differs_at : (names : List (List ℕ)) (head : List ℕ) (n : ℕ) → (Contains names head → ⊥) → n < length names
    → bytes_eq head (unwrap_or (slice_get names n) []) ≡ false
differs_at names head n out inside =
    let name = unwrap_or (slice_get names n) [] in
    differs names head name out (Contains-at names n name (stands_there names n inside))

absent : (names : List (List ℕ)) (head name : List ℕ) → (Contains (head ∷ names) name → ⊥) → bytes_eq head name ≡ false
absent names head name out =
    false_from_ne_true _ (λ h. out (subst (λ (z : List ℕ). Contains (head ∷ names) z) ((bytes_eq-Decides head name).0 h)
    (Contains-get_or (head ∷ names) 0 head (omega arith))))

mutual
  tree_without : (tree : Tree) (name : List ℕ) → (Contains (names_of tree) name → ⊥) → heads_below name tree ≡ []
  tree_without (feature head below) name out =
      ap (λ (b : Bool). if b then head ∷ heads_of_groups below else heads_below_groups name below) (absent (names_of_groups below) head.name name out)
      ∙ groups_without below name (λ c. out (Contains-append_right (head.name ∷ []) (names_of_groups below) name c))

  groups_without : (groups : Groups) (name : List ℕ) → (Contains (names_of_groups groups) name → ⊥) → heads_below_groups name groups ≡ []
  groups_without no_groups name out = refl
  groups_without (group lo hi members others) name out =
      both_empty (heads_below_members name members) (heads_below_groups name others)
      (members_without members name (λ c. out (Contains-append_left (names_of_members members) (names_of_groups others) name c)))
      (groups_without others name (λ c. out (Contains-append_right (names_of_members members) (names_of_groups others) name c)))

  members_without : (members : Members) (name : List ℕ) → (Contains (names_of_members members) name → ⊥) → heads_below_members name members ≡ []
  members_without no_members name out = refl
  members_without (member tree others) name out =
      both_empty (heads_below name tree) (heads_below_members name others)
      (tree_without tree name (λ c. out (Contains-append_left (names_of tree) (names_of_members others) name c)))
      (members_without others name (λ c. out (Contains-append_right (names_of tree) (names_of_members others) name c)))

-- ---- the run

-- what stands behind rows stops each run that begins in them
abbrev Behind : ℕ → List FeatureRow → Type 0
Behind n rest = (t : ℕ) → n ≤ t → Stops t rest

tree_counted : (tree : Tree) (parent : Option FeatureNo) (n : ℕ) → length (feature_rows parent n tree) ≡ size_of tree
tree_counted tree parent n = sym (length-map (feature_rows parent n tree) head_of_row) ∙ ap length (heads_spelled tree parent n) ∙ heads_counted tree

members_row_count : (members : Members) (parent : FeatureNo) (n : ℕ) → length (feature_rows_of_members parent n members) ≡ size_of_members members
members_row_count members parent n =
    sym (length-map (feature_rows_of_members parent n members) head_of_row) ∙ ap length (members_spelled members parent n) ∙ members_counted members

-- the heads of the run that begins at a place of rows, where the first row has number n
abbrev run_at : ℕ → ℕ → List FeatureRow → List Head
run_at n k rows = map head_of_row (run_from (numbered (n + k)) (drop k rows))

-- behind other rows it is the run of the later ones
run_later : (n k j : ℕ) (xs zs : List FeatureRow) → k ≡ length xs + j → run_at n k (xs ++ zs) ≡ run_at (n + length xs) j zs
run_later n k j xs zs e =
    let number : n + k ≡ n + length xs + j = omega (arith, e) in
    let rows : drop k (xs ++ zs) ≡ drop j zs = ap (λ (m : ℕ). drop m (xs ++ zs)) e ∙ drop-append-add xs zs j in
    ap (λ (m : ℕ). map head_of_row (run_from (numbered m) (drop k (xs ++ zs)))) number
    ∙ ap (λ (rs : List FeatureRow). map head_of_row (run_from (numbered (n + length xs + j)) rs)) rows

mutual
  tree_run : (tree : Tree) (parent : Option FeatureNo) (n : ℕ) (rest : List FeatureRow) (name : List ℕ) (k : ℕ) → Behind n rest
      → AreDistinct (names_of tree) → slice_get (names_of tree) k ≡ Some name → run_at n k (feature_rows parent n tree ++ rest) ≡ heads_below name tree
  tree_run (feature head below) parent n rest name zero behind d at =
      let rows = feature_rows_of_groups (numbered n) (n + 1) below in
      let same : bytes_eq head.name name ≡ true = (bytes_eq-Decides head.name name).1 (same_Some head.name name at) in
      let inside : AllInside (n + 0) rows = groups_inside below (n + 0) (numbered n) (n + 1) (omega arith) (omega arith) in
      ap (λ (rs : List FeatureRow). head ∷ map head_of_row rs) (cut_run (n + 0) rows rest inside (behind (n + 0) (omega arith)))
      ∙ ap (λ (hs : List Head). head ∷ hs) (groups_spelled below (numbered n) (n + 1))
      ∙ sym (ap (λ (b : Bool). if b then head ∷ heads_of_groups below else heads_below_groups name below) same)
  tree_run (feature head below) parent n rest name (suc k) behind d at =
      let other = differs (names_of_groups below) head.name name d.0 (Contains-at (names_of_groups below) k name at) in
      let number : n + suc k ≡ n + 1 + k = omega arith in
      ap (λ (m : ℕ). map head_of_row (run_from (numbered m) (drop k (feature_rows_of_groups (numbered n) (n + 1) below ++ rest)))) number
      ∙ groups_run below (numbered n) (n + 1) rest name k (omega arith) (λ t h. behind t (omega arith)) d.1 at
      ∙ sym (ap (λ (b : Bool). if b then head ∷ heads_of_groups below else heads_below_groups name below) other)

  groups_run : (groups : Groups) (parent : FeatureNo) (n : ℕ) (rest : List FeatureRow) (name : List ℕ) (k : ℕ) → parent.0 < n → Behind n rest
      → AreDistinct (names_of_groups groups) → slice_get (names_of_groups groups) k ≡ Some name
      → run_at n k (feature_rows_of_groups parent n groups ++ rest) ≡ heads_below_groups name groups
  groups_run no_groups parent n rest name k inside behind d at = absurd (none-some name at)
  groups_run (group lo hi members others) parent n rest name k inside behind d at =
      let size = size_of_members members in
      let xs = feature_rows_of_members parent n members in
      let ys = feature_rows_of_groups parent (n + size) others in
      let front = names_of_members members in
      let back = names_of_groups others in
      let later : Behind n (ys ++ rest) = λ t h. groups_stop others t parent (n + size) rest (omega arith) (behind t h) in
      let whole : run_at n k ((xs ++ ys) ++ rest) ≡ run_at n k (xs ++ (ys ++ rest)) = ap (λ (rs : List FeatureRow). run_at n k rs) (append_assoc xs ys rest) in
      whole ∙ elim (in_either front back k name at) [
        | inl here ↦
            members_run members parent n (ys ++ rest) name k inside later (distinct_left front back d) here
            ∙ sym (append-nil (heads_below_members name members))
            ∙ ap (λ (hs : List Head). heads_below_members name members ++ hs) (sym (groups_without others name (λ c. distinct_apart front back d k name here c)))
        | inr there ↦
            let j = there.0 in
            let count = members_row_count members parent n in
            let place : k ≡ length xs + j = omega (arith, there.1, count) in
            let first : n + length xs ≡ n + size = omega (arith, count) in
            run_later n k j xs (ys ++ rest) place
            ∙ ap (λ (m : ℕ). run_at m j (ys ++ rest)) first
            ∙ groups_run others parent (n + size) rest name j (omega arith) (λ t h. behind t (omega arith)) (distinct_right front back d) there.2
            ∙ ap (λ (hs : List Head). hs ++ heads_below_groups name others)
            (sym (members_without members name (λ c. apart_back front back d j name there.2 c)))
      ]

  members_run : (members : Members) (parent : FeatureNo) (n : ℕ) (rest : List FeatureRow) (name : List ℕ) (k : ℕ) → parent.0 < n → Behind n rest
      → AreDistinct (names_of_members members) → slice_get (names_of_members members) k ≡ Some name
      → run_at n k (feature_rows_of_members parent n members ++ rest) ≡ heads_below_members name members
  members_run no_members parent n rest name k inside behind d at = absurd (none-some name at)
  members_run (member tree others) parent n rest name k inside behind d at =
      let size = size_of tree in
      let xs = feature_rows (Some parent) n tree in
      let ys = feature_rows_of_members parent (n + size) others in
      let front = names_of tree in
      let back = names_of_members others in
      let later : Behind n (ys ++ rest) = λ t h. members_stop others t parent (n + size) rest (omega arith) (behind t h) in
      let whole : run_at n k ((xs ++ ys) ++ rest) ≡ run_at n k (xs ++ (ys ++ rest)) = ap (λ (rs : List FeatureRow). run_at n k rs) (append_assoc xs ys rest) in
      whole ∙ elim (in_either front back k name at) [
        | inl here ↦
            tree_run tree (Some parent) n (ys ++ rest) name k later (distinct_left front back d) here
            ∙ sym (append-nil (heads_below name tree))
            ∙ ap (λ (hs : List Head). heads_below name tree ++ hs) (sym (members_without others name (λ c. distinct_apart front back d k name here c)))
        | inr there ↦
            let j = there.0 in
            let count = tree_counted tree (Some parent) n in
            let place : k ≡ length xs + j = omega (arith, there.1, count) in
            let first : n + length xs ≡ n + size = omega (arith, count) in
            run_later n k j xs (ys ++ rest) place
            ∙ ap (λ (m : ℕ). run_at m j (ys ++ rest)) first
            ∙ members_run others parent (n + size) rest name j (omega arith) (λ t h. behind t (omega arith)) (distinct_right front back d) there.2
            ∙ ap (λ (hs : List Head). hs ++ heads_below_members name others)
            (sym (tree_without tree name (λ c. apart_back front back d j name there.2 c)))
      ]

-- the run from a feature of sound rows has the features below it
pub run_is_below : (rows : Rows) → IsSound rows → (top : FeatureNo) → IsThere rows top
    → map head_of_row (rows_below rows.features top) ≡ heads_below_rows rows (name_of (feature_names rows) top)
run_is_below rows sound top there =
    let tree = sound.tree in
    let name = name_of (feature_names rows) top in
    let inside : top.0 < length (feature_names rows) = rw (length-map rows.features (λ row. row.name)) there in
    let at : slice_get (names_of tree) top.0 ≡ Some name =
    ap (λ (names : List (List ℕ)). slice_get names top.0) (sym (spelled_names tree rows sound.spelled)) ∙ stands_there (feature_names rows) top.0 inside in
    let number : top.0 ≡ 0 + top.0 = omega arith in
    let features : rows.features ≡ feature_rows None 0 tree ++ [] = sound.spelled.features ∙ sym (append-nil (feature_rows None 0 tree)) in
    ap (λ (rs : List FeatureRow). map head_of_row (run_from top (drop top.0 rs))) features
    ∙ ap (λ (m : ℕ). map head_of_row (run_from (numbered m) (drop top.0 (feature_rows None 0 tree ++ [])))) number
    ∙ tree_run tree None 0 [] name top.0 (λ t h. tt) sound.within.distinct at
    ∙ sym (below_spelled tree rows sound.spelled name)

-- the front of rows that ends with a run
pub run_taken : (top : FeatureNo) (rows : List FeatureRow) → 0 < length rows
    → take (1 + position_or_len (is_outside top) (drop 1 rows)) rows ≡ run_from top rows
run_taken top [] some = absurd (omega arith)
run_taken top (row ∷ rows) some =
    let more : 1 + position_or_len (is_outside top) rows ≡ suc (position_or_len (is_outside top) rows) = omega arith in
    ap (λ (m : ℕ). take m (row ∷ rows)) more
