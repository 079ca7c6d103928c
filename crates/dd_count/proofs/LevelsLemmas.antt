-- Sorting the levels of variables that differ: each stands below the one in front of it, and they are as many.
use Rattle.std.proofs.Common.{◌≡◌, ◌⊎◌, ◌==◌, ℕ, suc, ◌+◌, ◌<◌, ◌≤◌, Bool, true, false, if◌then◌else◌, List, [], ◌∷◌, ◌++◌, length, map, take, get_or, refl, ap, sym, ◌∙◌, subst, inl, inr, arith, count_by}
use Rattle.std.specs.List.{All}
use Rattle.std.specs.List.Sorted.{IsPermutation, IsSortedByKey, IsNonDecreasingBy}
use Rattle.std.specs.Ordering.{nat_cmp}
use Rattle.std.proofs.lemmas.Bool.{cases_eq, eqb-true, eq-eqb}
use Rattle.std.proofs.lemmas.List.{take_more, map-append, length-map}
use Rattle.std.proofs.lemmas.List.Elements.{All-head, All-tail, All-map}
use Rattle.std.proofs.lemmas.List.Sorted.{All-permutation, length_permutation, IsPermutation-map, IsNonDecreasingBy-from_sort, sum_by-IsPermutation}
use Rattle.std.proofs.lemmas.List.Sums.{sum_by-cons}
use Rattle.dd_store.specs.declared.row.Var.{Var}
use Rattle.dd_store.specs.Order.{level_in, IsIn, IsDistinct}
use Rattle.dd_count.specs.Cardinality.{true_count}
use Rattle.dd_count.specs.Levels.{variable_on, variables_on, IsFallingFrom, AreLevelsOf}

-- one or none
abbrev one : Bool → ℕ
one b = if b then 1 else 0

-- the level of a variable
abbrev pub levels_in : List Var → List Var → List ℕ
levels_in order vs = map (λ (v : Var). level_in order v.0) vs

-- how often a number stands in a list
abbrev times : ℕ → List ℕ → ℕ
times k ls = count_by (λ (l : ℕ). l == k) ls

times-cons : (k l : ℕ) (ls : List ℕ) → times k (l ∷ ls) ≡ one (l == k) + times k ls
times-cons k l ls = sum_by-cons (λ (l : ℕ). one (l == k)) l ls

-- on the level of a variable stands the variable
on-level : (order : List Var) (v : Var) → IsIn order v.0 → variable_on order (level_in order v.0) ≡ v
on-level [] v inside = absurd (omega arith)
on-level (w ∷ ws) v inside = by (w.0 == v.0) refl inside (on-level ws v)
  where
    by : (b : Bool) → (w.0 == v.0) ≡ b → (if b then 0 else suc (level_in ws v.0)) < suc (length ws) → (IsIn ws v.0 → variable_on ws (level_in ws v.0) ≡ v)
        → variable_on (w ∷ ws) (if b then 0 else suc (level_in ws v.0)) ≡ v
    by true e inside rest = ap (λ (n : ℕ). let u : Var = record { 0 = n } in u) (eqb-true w.0 v.0 e)
    by false e inside rest = rest (omega arith)

pub on-levels : (order vs : List Var) → All (λ (v : Var). IsIn order v.0) vs → variables_on order (levels_in order vs) ≡ vs
on-levels order [] inside = refl
on-levels order (v ∷ vs) inside =
    let P : Var → Type 0 = λ (v : Var). IsIn order v.0 in
    ap (λ (u : Var). u ∷ variables_on order (levels_in order vs)) (on-level order v (All-head P v vs inside))
    ∙ ap (λ (us : List Var). v ∷ us) (on-levels order vs (All-tail P v vs inside))

-- two variables of one level are the same
one-level : (order : List Var) (v w : Var) → IsIn order v.0 → IsIn order w.0 → level_in order v.0 ≡ level_in order w.0 → v ≡ w
one-level order v w first second same = sym (on-level order v first) ∙ ap (variable_on order) same ∙ on-level order w second

-- the level of a variable that is none of the others is none of theirs
not-there : (order vs : List Var) (w : Var) → All (λ (v : Var). IsIn order v.0) vs → IsIn order w.0 → level_in vs w.0 ≡ length vs
    → times (level_in order w.0) (levels_in order vs) ≡ 0
not-there order [] w inside own none = refl
not-there order (v ∷ vs) w inside own none =
    let P : Var → Type 0 = λ (v : Var). IsIn order v.0 in
    times-cons (level_in order w.0) (level_in order v.0) (levels_in order vs)
    ∙ by (v.0 == w.0) refl (level_in order v.0 == level_in order w.0) refl none (not-there order vs w (All-tail P v vs inside) own)
  where
    by : (b : Bool) → (v.0 == w.0) ≡ b → (d : Bool) → (level_in order v.0 == level_in order w.0) ≡ d → (if b then 0 else suc (level_in vs w.0)) ≡ suc (length vs)
        → (level_in vs w.0 ≡ length vs → times (level_in order w.0) (levels_in order vs) ≡ 0) → one d + times (level_in order w.0) (levels_in order vs) ≡ 0
    by true e d f is rest = absurd (omega arith)
    by false e false f is rest = let none = rest (omega arith) in omega arith
    by false e true f is rest = absurd (
        let P : Var → Type 0 = λ (v : Var). IsIn order v.0 in
        let same : v ≡ w = one-level order v w (All-head P v vs inside) own (eqb-true (level_in order v.0) (level_in order w.0) f) in
        let equal : (v.0 == w.0) ≡ true = eq-eqb v.0 w.0 (ap (λ (u : Var). u.0) same) in
        let both : false ≡ true = sym e ∙ equal in cc
        )

-- each level is that of one variable at most
pub once : (order vs : List Var) → All (λ (v : Var). IsIn order v.0) vs → IsDistinct vs → (k : ℕ) → times k (levels_in order vs) ≤ 1
once order [] inside distinct k = omega arith
once order (v ∷ vs) inside distinct k =
    let P : Var → Type 0 = λ (v : Var). IsIn order v.0 in
    let first = times-cons k (level_in order v.0) (levels_in order vs) in
    let few = by (level_in order v.0 == k) refl (once order vs (All-tail P v vs inside) distinct.1 k) in
    omega arith
  where
    by : (b : Bool) → (level_in order v.0 == k) ≡ b → times k (levels_in order vs) ≤ 1 → one b + times k (levels_in order vs) ≤ 1
    by false e rest = omega arith
    by true e rest =
        let P : Var → Type 0 = λ (v : Var). IsIn order v.0 in
        let none = not-there order vs v (All-tail P v vs inside) (All-head P v vs inside) distinct.0 in
        let same : times (level_in order v.0) (levels_in order vs) ≡ times k (levels_in order vs) = ap (λ (l : ℕ). times l (levels_in order vs)) (eqb-true (level_in order v.0) k e) in
        omega arith

-- sorted levels of which none stands twice fall
falls : (first l : ℕ) (ls : List ℕ) → first ≤ l → IsNonDecreasingBy (λ (n : ℕ). n) (l ∷ ls) → ((k : ℕ) → times k (l ∷ ls) ≤ 1) → IsFallingFrom first (l ∷ ls)
falls first l [] less up few = (less, tt)
falls first l (m ∷ ms) less up few = (less, falls (suc l) m ms (apart (cases_eq l m)) (λ i j d low inside. up (suc i) (suc j) d (omega arith) (omega arith)) rest)
  where
    rest : (k : ℕ) → times k (m ∷ ms) ≤ 1
    rest k = let all = few k in let first' = times-cons k l (m ∷ ms) in omega arith

    next : l ≤ m
    next = up 0 1 0 (omega arith) (omega arith)

    apart : (l ≡ m) ⊎ (l ≡ m → ⊥) → suc l ≤ m
    apart (inr other) = let below = next in omega arith
    apart (inl same) = absurd (
        let all = few l in
        let a = times-cons l l (m ∷ ms) in
        let b = times-cons l m ms in
        let own : one (l == l) ≡ 1 = ap one (eq-eqb l l refl) in
        let other : one (m == l) ≡ 1 = ap one (eq-eqb m l (sym same)) in
        omega arith
        )

pub falling : (ls : List ℕ) → IsNonDecreasingBy (λ (n : ℕ). n) ls → ((k : ℕ) → times k ls ≤ 1) → IsFallingFrom 0 ls
falling [] up few = tt
falling (l ∷ ls) up few = falls 0 l ls (omega arith) up few

-- the level of one more member
pub levels-more : (order vs : List Var) (i : ℕ) (d : Var) → i < length vs → levels_in order (take (i + 1) vs) ≡ levels_in order (take i vs) ++ level_in order (get_or vs i d).0 ∷ []
levels-more order vs i d inside =
    ap (levels_in order) (take_more vs i d inside) ∙ map-append (λ (v : Var). level_in order v.0) (take i vs) (get_or vs i d ∷ [])

pub levels-push : (order vs : List Var) (i : ℕ) (d : Var) (ls all : List ℕ) (l : ℕ) → i < length vs → all ≡ ls ++ l ∷ [] → ls ≡ levels_in order (take i vs)
    → l ≡ level_in order (get_or vs i d).0 → all ≡ levels_in order (take (i + 1) vs)
levels-push order vs i d ls all l inside is so_far level =
    let both : ls ++ l ∷ [] ≡ levels_in order (take i vs) ++ level_in order (get_or vs i d).0 ∷ []
    = ap (λ (ks : List ℕ). ks ++ l ∷ []) so_far ∙ ap (λ (k : ℕ). levels_in order (take i vs) ++ k ∷ []) level in
    is ∙ both ∙ sym (levels-more order vs i d inside)

-- the levels of members, sorted
pub sorted-levels : (order vs : List Var) (ls sorted : List ℕ) → All (λ (v : Var). IsIn order v.0) vs → IsDistinct vs → ls ≡ levels_in order vs
    → IsPermutation ls sorted → IsSortedByKey (λ (n : ℕ). n) nat_cmp sorted → AreLevelsOf order vs sorted
sorted-levels order vs ls sorted inside distinct are moved up =
    let moved' : IsPermutation (levels_in order vs) sorted = subst (λ (ks : List ℕ). IsPermutation ks sorted) are moved in
    record {
      size = length_permutation (levels_in order vs) sorted moved' ∙ length-map vs (λ (v : Var). level_in order v.0);
      falling = falling sorted (IsNonDecreasingBy-from_sort (λ (n : ℕ). n) sorted up)
          (λ k. let same = sum_by-IsPermutation (λ (l : ℕ). one (l == k)) (levels_in order vs) sorted moved' in let few = once order vs inside distinct k in omega arith);
      within = All-permutation (λ (l : ℕ). l < length order) (levels_in order vs) sorted moved' (All-map (λ (l : ℕ). l < length order) (λ (v : Var). level_in order v.0) vs inside);
      count = λ a.
          sum_by-IsPermutation (λ (v : Var). one (a v.0)) (variables_on order (levels_in order vs)) (variables_on order sorted)
          (IsPermutation-map (variable_on order) (levels_in order vs) sorted moved')
          ∙ ap (λ (us : List Var). true_count us a) (on-levels order vs inside);
    }
