-- How names are placed, one after another.
use Rattle.std.proofs.Common.{◌≡◌, ◌==◌, ℕ, suc, ◌+◌, ◌<◌, ◌≤◌, Bool, true, false, not, cond, if◌then◌else◌, ◌||◌, Some, List, [], ◌∷◌, ◌++◌, map, length, filter, take, drop, get_or, count_by, inl, inr, append_assoc, slice_get, Contains, refl, sym, ap, ◌∙◌, subst, arith, length-append}
use Rattle.std.specs.List.{All}
use Rattle.std.specs.Str.{bytes_eq}
use Rattle.std.proofs.lemmas.Bool.{eqb-true, cases_lt}
use Rattle.std.proofs.Math.Seq.{get_or-append_seam}
use Rattle.std.proofs.lemmas.List.{map-append, map_more, take-map, length-map, get_or_append_left, take-append-drop}
use Rattle.std.proofs.lemmas.List.Sums.{length-filter}
use Rattle.std.proofs.lemmas.List.Elements.{All-nil, All-cons, All-weaker, Contains-append_right, Contains-get_or}
use Rattle.std.proofs.lemmas.Option.{slice_get_within, get_or_from_slice_get, slice_get-get_or}
use Rattle.dd_store.specs.declared.row.Var.{Var}
use Rattle.dd_store.specs.Order.{level_in, IsDistinct}
use Rattle.dd_store.specs.Changes.{KeepsRowsAndBudget}
use Rattle.dd_store.specs.Handles.{KeepsHandles}
use Rattle.dd_store.specs.Table.{Table, IsSound, IsVariable, value_of}
use Rattle.uvl_model.specs.declared.rows.FeatureRow.{FeatureRow}
use Rattle.uvl_model.specs.Names.{feature_names}
use Rattle.uvl_model.specs.Rows.{Rows}
use Rattle.uvl_model.specs.Sound.{AreDistinct}
use Rattle.uvl_semantics.specs.Product.{has}
use Rattle.uvl_semantics.proofs.Membership.{bytes_eq-other}
use Rattle.uvl_functions.specs.Placing.{with_name, with_names, AreNamed, AddsVariables}
use Rattle.uvl_functions.specs.Variables.{HasVariables}

-- an element keeps its place where more come behind
pub slice_get-append-left : {A : Type 0} (xs ys : List A) (k : ℕ) (x : A) → slice_get xs k ≡ Some x → slice_get (xs ++ ys) k ≡ Some x
slice_get-append-left xs ys k x is =
    let within = slice_get_within xs k x is in
    let longer : k < length (xs ++ ys) = omega (arith, length-append xs ys) in
    slice_get-get_or (xs ++ ys) k x longer ∙ ap Some (get_or_append_left xs ys x k within ∙ get_or_from_slice_get xs k x x is)

-- the names behind one more, placed last
pub with_names-push : (names more : List (List ℕ)) (name : List ℕ) → with_names names (more ++ name ∷ []) ≡ with_name (with_names names more) name
with_names-push names [] name = refl
with_names-push names (x ∷ more) name = with_names-push (with_name names x) more name

pub with_names-append : (names front rest : List (List ℕ)) → with_names names (front ++ rest) ≡ with_names (with_names names front) rest
with_names-append names [] rest = refl
with_names-append names (x ∷ front) rest = with_names-append (with_name names x) front rest

-- there are never fewer
longer : (names : List (List ℕ)) (x : List ℕ) → length names ≤ length (with_name names x)
longer names x = by (has names x)
  where
    by : (b : Bool) → length names ≤ length (if b then names else names ++ x ∷ [])
    by true = omega arith
    by false = omega (arith, length-append names (x ∷ []))

pub longer-all : (names more : List (List ℕ)) → length names ≤ length (with_names names more)
longer-all names [] = omega arith
longer-all names (x ∷ more) = omega (arith, longer names x, longer-all (with_name names x) more)

-- a name that differs is there as before
has-push : (names : List (List ℕ)) (x y : List ℕ) → bytes_eq y x ≡ false → has (names ++ x ∷ []) y ≡ has names y
has-push [] x y other = ap (λ b. b || false) other
has-push (z ∷ names) x y other = ap (λ b. bytes_eq y z || b) (has-push names x y other)

new-same : (names : List (List ℕ)) (x : List ℕ) (more : List (List ℕ)) → (Contains more x → ⊥)
    → filter (λ y. not (has (names ++ x ∷ []) y)) more ≡ filter (λ y. not (has names y)) more
new-same names x [] out = refl
new-same names x (y ∷ more) out =
    let here : Contains (y ∷ more) y = Contains-get_or (y ∷ more) 0 y (omega arith) in
    let other = bytes_eq-other (y ∷ more) y x out here in
    let same = has-push names x y other in
    let rest = new-same names x more (λ c. out (Contains-append_right (y ∷ []) more x c)) in
    rw (same, rest) refl

-- how many there are: those before and those that are new
pub count-new : (names more : List (List ℕ)) → AreDistinct more → length (with_names names more) ≡ length names + length (filter (λ y. not (has names y)) more)
count-new names [] distinct = omega arith
count-new names (x ∷ more) distinct = by (has names x) (λ (ns : List (List ℕ)). count-new ns more distinct.1)
  where
    by : (b : Bool) → ((ns : List (List ℕ)) → length (with_names ns more) ≡ length ns + length (filter (λ y. not (has ns y)) more)) → length (with_names (if b then names else names ++ x ∷ []) more)
        ≡ length names + length (cond (not b) (x ∷ filter (λ y. not (has names y)) more) (filter (λ y. not (has names y)) more))
    by true rest = rest names
    by false rest =
        let all = rest (names ++ x ∷ []) in
        let same = ap length (new-same names x more distinct.0) in
        let one = length-append names (x ∷ []) in
        omega arith

-- variables keep their names where names come behind
pub named-grow : (names more : List (List ℕ)) (vars : List Var) (wanted : List (List ℕ)) → AreNamed names vars wanted → AreNamed (names ++ more) vars wanted
named-grow names more [] [] is = refl
named-grow names more [] (w ∷ wanted) is = cc
named-grow names more (v ∷ vars) [] is = cc
named-grow names more (v ∷ vars) (w ∷ wanted) is =
    let head : slice_get names v.0 ≡ Some w = cc in
    let tail : AreNamed names vars wanted = cc in
    let rest = named-grow names more vars wanted tail in
    let kept = slice_get-append-left names more v.0 w head in
    rw (kept, rest) refl

pub named-push : (names : List (List ℕ)) (vars : List Var) (wanted : List (List ℕ)) (v : Var) (w : List ℕ) → AreNamed names vars wanted → slice_get names v.0 ≡ Some w
    → AreNamed names (vars ++ v ∷ []) (wanted ++ w ∷ [])
named-push names vars wanted v w is one =
    map-append (λ (u : Var). slice_get names u.0) vars (v ∷ []) ∙ ap (λ xs. xs ++ slice_get names v.0 ∷ []) is
    ∙ ap (λ o. map (λ (n : List ℕ). Some n) wanted ++ o ∷ []) one ∙ sym (map-append (λ (n : List ℕ). Some n) wanted (w ∷ []))

-- each is one of the names' variables
pub named-within : (names : List (List ℕ)) (vars : List Var) (wanted : List (List ℕ)) → AreNamed names vars wanted → All (λ v. v.0 < length names) vars
named-within names [] wanted is = All-nil (λ (v : Var). v.0 < length names)
named-within names (v ∷ vars) [] is = cc
named-within names (v ∷ vars) (w ∷ wanted) is =
    let head : slice_get names v.0 ≡ Some w = cc in
    let tail : AreNamed names vars wanted = cc in
    All-cons (λ (v : Var). v.0 < length names) v vars (slice_get_within names v.0 w head) (named-within names vars wanted tail)

-- another variable than those that have other names
absent-level : (names : List (List ℕ)) (n : ℕ) (w : List ℕ) → slice_get names n ≡ Some w → (vars : List Var) (wanted : List (List ℕ))
    → AreNamed names vars wanted → (Contains wanted w → ⊥) → level_in vars n ≡ length vars
absent-level names n w at [] wanted is out = refl
absent-level names n w at (v ∷ vars) [] is out = cc
absent-level names n w at (v ∷ vars) (u ∷ wanted) is out =
    by (v.0 == n) refl (λ (tail : AreNamed names vars wanted). absent-level names n w at vars wanted tail (λ c. out (Contains-append_right (u ∷ []) wanted w c)))
  where
    head : slice_get names v.0 ≡ Some u
    head = cc

    tail : AreNamed names vars wanted
    tail = cc

    by : (b : Bool) → (v.0 == n) ≡ b → (AreNamed names vars wanted → level_in vars n ≡ length vars) → (if b then 0 else suc (level_in vars n)) ≡ suc (length vars)
    by true same rest =
        let equal : v.0 ≡ n = eqb-true v.0 n same in
        let both : Some u ≡ Some w = sym head ∙ ap (slice_get names) equal ∙ at in
        let is_w : u ≡ w = cc in
        absurd (out (subst (λ (z : List ℕ). Contains (u ∷ wanted) z) is_w (Contains-get_or (u ∷ wanted) 0 u (omega arith))))
    by false other rest = ap suc (rest tail)

-- so they differ where the names do
pub named-distinct : (names : List (List ℕ)) (vars : List Var) (wanted : List (List ℕ)) → AreNamed names vars wanted → AreDistinct wanted → IsDistinct vars
named-distinct names [] wanted is distinct = tt
named-distinct names (v ∷ vars) [] is distinct = cc
named-distinct names (v ∷ vars) (w ∷ wanted) is distinct =
    let head : slice_get names v.0 ≡ Some w = cc in
    let tail : AreNamed names vars wanted = cc in
    (absent-level names v.0 w head vars wanted tail distinct.0, named-distinct names vars wanted tail distinct.1)

-- what comes behind some elements stands at their number
pub slice_get-seam : {A : Type 0} (xs : List A) (x : A) (k : ℕ) → k ≡ length xs → slice_get (xs ++ x ∷ []) k ≡ Some x
slice_get-seam xs x k is =
    let longer : length xs < length (xs ++ x ∷ []) = omega (arith, length-append xs (x ∷ [])) in
    ap (slice_get (xs ++ x ∷ [])) is ∙ slice_get-get_or (xs ++ x ∷ []) (length xs) x longer ∙ ap Some (get_or-append_seam xs x [] x)

-- there are no more than those before and the others
pub no-longer : (names more : List (List ℕ)) → length (with_names names more) ≤ length names + length more
no-longer names [] = omega arith
no-longer names (x ∷ more) = by (has names x) (λ (ns : List (List ℕ)). no-longer ns more)
  where
    by : (b : Bool) → ((ns : List (List ℕ)) → length (with_names ns more) ≤ length ns + length more) → length (with_names (if b then names else names ++ x ∷ []) more) ≤ length names + suc (length more)
    by true rest = let all = rest names in omega arith
    by false rest = let all = rest (names ++ x ∷ []) in let one = length-append names (x ∷ []) in omega arith

-- of features
names-filter : (names : List (List ℕ)) (rows : List FeatureRow)
    → length (filter (λ y. not (has names y)) (map (λ (row : FeatureRow). row.name) rows)) ≡ length (filter (λ (row : FeatureRow). not (has names row.name)) rows)
names-filter names [] = refl
names-filter names (row ∷ rows) = by (not (has names row.name)) (names-filter names rows)
  where
    by : (b : Bool) → length (filter (λ y. not (has names y)) (map (λ (row : FeatureRow). row.name) rows)) ≡ length (filter (λ (row : FeatureRow). not (has names row.name)) rows)
        → length (cond b (row.name ∷ filter (λ y. not (has names y)) (map (λ (row : FeatureRow). row.name) rows)) (filter (λ y. not (has names y)) (map (λ (row : FeatureRow). row.name) rows)))
        ≡ length (cond b (row ∷ filter (λ (row : FeatureRow). not (has names row.name)) rows) (filter (λ (row : FeatureRow). not (has names row.name)) rows))
    by true same = ap suc same
    by false same = same

pub count-features : (names : List (List ℕ)) (rows : List FeatureRow) → AreDistinct (map (λ (row : FeatureRow). row.name) rows)
    → length (with_names names (map (λ (row : FeatureRow). row.name) rows)) ≡ length names + count_by (λ (row : FeatureRow). not (has names row.name)) rows
count-features names rows distinct =
    let all = count-new names (map (λ (row : FeatureRow). row.name) rows) distinct in
    let same = names-filter names rows ∙ length-filter (λ (row : FeatureRow). not (has names row.name)) rows in
    omega arith

-- one feature more of those whose names are placed
pub take-names : (now rows : List FeatureRow) → now ≡ rows → (k : ℕ) (row : FeatureRow) → row ≡ get_or now k row → k < length now
    → take (k + 1) (map (λ (r : FeatureRow). r.name) rows) ≡ take k (map (λ (r : FeatureRow). r.name) rows) ++ row.name ∷ []
take-names now rows shown k row is within =
    subst (λ (xs : List FeatureRow). take (k + 1) (map (λ (r : FeatureRow). r.name) xs) ≡ take k (map (λ (r : FeatureRow). r.name) xs) ++ row.name ∷ []) shown
    (take-map (λ (r : FeatureRow). r.name) (k + 1) now ∙ map_more (λ (r : FeatureRow). r.name) now k row within
    ∙ ap (λ xs. xs ++ (get_or now k row).name ∷ []) (sym (take-map (λ (r : FeatureRow). r.name) k now))
    ∙ ap (λ (r : FeatureRow). take k (map (λ (s : FeatureRow). s.name) now) ++ r.name ∷ []) (sym is))

-- there is room for one where there is for all
pub room : (old names : List (List ℕ)) (k : ℕ) (name : List ℕ) → take (k + 1) names ≡ take k names ++ name ∷ []
    → length (with_name (with_names old (take k names)) name) ≤ length (with_names old names)
room old names k name more =
    let one = sym (with_names-push old (take k names) name) ∙ ap (with_names old) (sym more) in
    let all = sym (with_names-append old (take (k + 1) names) (drop (k + 1) names)) ∙ ap (with_names old) (take-append-drop (k + 1) names) in
    let less = longer-all (with_names old (take (k + 1) names)) (drop (k + 1) names) in
    omega (arith, ap length one, ap length all)

-- a name more takes none away
pub named-with : (names : List (List ℕ)) (x : List ℕ) (vars : List Var) (wanted : List (List ℕ)) → AreNamed names vars wanted → AreNamed (with_name names x) vars wanted
named-with names x vars wanted is = by (has names x)
  where
    by : (b : Bool) → AreNamed (if b then names else names ++ x ∷ []) vars wanted
    by true = is
    by false = named-grow names (x ∷ []) vars wanted is

pub named-count : (names : List (List ℕ)) (vars : List Var) (wanted : List (List ℕ)) → AreNamed names vars wanted → length vars ≡ length wanted
named-count names vars wanted is = sym (length-map vars (λ (v : Var). slice_get names v.0)) ∙ ap length is ∙ length-map wanted (λ (n : List ℕ). Some n)

-- placed names are those of a model's variables
pub has-variables : (t : Table) (rows : Rows) (names : List (List ℕ)) (vars : List Var) → IsSound t → length names ≡ length t.order
    → AreNamed names vars (feature_names rows) → AreDistinct (feature_names rows) → HasVariables t rows vars
has-variables t rows names vars sound many named distinct = record {
  count = named-count names vars (feature_names rows) named ∙ length-map rows.features (λ (row : FeatureRow). row.name);
  there = All-weaker (λ (v : Var). v.0 < length names) (λ (v : Var). IsVariable t v.0) (λ v less. sound.has_numbers v.0 (omega arith)) vars
      (named-within names vars (feature_names rows) named);
  distinct = named-distinct names vars (feature_names rows) named distinct;
}

-- a variable more
pub adds-one : (a b : Table) (v : Var) → v.0 ≡ length a.order → b.order ≡ a.order ++ v ∷ [] → KeepsHandles a b → KeepsRowsAndBudget a b
    → ((n : ℕ) (x : ℕ → Bool) → value_of b n x ≡ value_of a n x) → IsSound b → AddsVariables a b
adds-one a b v number last handles nodes values sound = record {
  order = (v ∷ [], last);
  handles = handles;
  nodes = nodes;
  values = values;
  numbered = λ k least less.
      let count = ap length last ∙ length-append a.order (v ∷ []) in
      let at : k ≡ length a.order = omega arith in
      let same : v.0 ≡ k = number ∙ sym at in
      ap (λ (vs : List Var). slice_get vs k) last ∙ slice_get-seam a.order v k at ∙ ap (λ (n : ℕ). Some (var_of n)) same;
  sound = sound;
}
  where
    var_of : ℕ → Var
    var_of n = record { 0 = n }

pub adds-then : (a b c : Table) → AddsVariables a b → AddsVariables b c → AddsVariables a c
adds-then a b c one two = record {
  order = (one.order.0 ++ two.order.0, two.order.1 ∙ ap (λ (vs : List Var). vs ++ two.order.0) one.order.1 ∙ append_assoc a.order one.order.0 two.order.0);
  handles = record { each = λ n. two.handles.each n ∙ one.handles.each n; total = two.handles.total ∙ one.handles.total };
  nodes = record { rows = λ n. two.nodes.rows n ∙ one.nodes.rows n; count = two.nodes.count ∙ one.nodes.count; budget = two.nodes.budget ∙ one.nodes.budget };
  values = λ n x. two.values n x ∙ one.values n x;
  numbered = λ k least less. elim (cases_lt k (length b.order)) [
    | inl before ↦ ap (λ (vs : List Var). slice_get vs k) two.order.1 ∙ slice_get-append-left b.order two.order.0 k (record { 0 = k }) (one.numbered k least before)
    | inr behind ↦ two.numbered k behind less
  ];
  sound = two.sound;
}
