-- Two different nodes of reduced rows have different values (Bryant 1986), for every order.
use Rattle.std.proofs.Common.{◌≡◌, ◌≢◌, ℕ, suc, ◌<◌, Bool, true, false, cond, ◌==◌, List, [], ◌∷◌, length, Option, Some, None, refl, ap, sym, ◌∙◌, arith}
use Rattle.std.specs.Prelude.{MatchOption}
use Rattle.std.proofs.lemmas.Bool.{eqb-true, eq-eqb}
use Rattle.std.proofs.lemmas.Bool.Decides.{nat_tests}
use Rattle.dd_store.specs.declared.row.Row.{Row}
use Rattle.dd_store.specs.declared.row.Var.{Var}
use Rattle.dd_store.specs.Order.{level_in, level_of_row, IsIn, IsDistinct}
use Rattle.dd_store.specs.Follow.{end_of, step, value_in, with_value, IsThere}
use Rattle.dd_store.specs.Table.{AreReduced}
use Rattle.dd_store.proofs.FollowLemmas.{level-stays, follow-with_value}

-- a number without a row is a constant, and a node tests a variable of the list
abbrev pub IsAmong : List Var → Option Row → ℕ → Type 0
IsAmong vs o n = MatchOption o (n < 2) (λ r. IsIn vs r.var.0)

-- the part of the nodes that tests a variable of the list: their ends belong to it and stand below
pub record IsOrderedFrom (vs : List Var) (rows : ℕ → Option Row) : Type 0 where
  pub among : (n : ℕ) (r : Row) (b : Bool) → rows n ≡ Some r → IsIn vs r.var.0 → IsAmong vs (rows (end_of r b)) (end_of r b)
  pub below : (n : ℕ) (r : Row) (b : Bool) → rows n ≡ Some r → IsIn vs r.var.0 → level_in vs r.var.0 < level_of_row vs (rows (end_of r b))

-- a node below the first variable tests one of the others
pub among-rest : (v : Var) (vs : List Var) (o : Option Row) (n : ℕ) → 0 < level_of_row (v ∷ vs) o → IsAmong (v ∷ vs) o n → IsAmong vs o n
among-rest v vs None n lower among = among
among-rest v vs (Some r) n lower among =
    let level : level_of_row (v ∷ vs) (Some r) ≡ suc (level_in vs r.var.0) = level-stays v vs (Some r) lower in
    omega arith

-- a variable of the rest isn't the first one
pub not_first : (v : Var) (vs : List Var) (w : ℕ) → level_in vs v.0 ≡ length vs → IsIn vs w → (v.0 == w) ≡ false
not_first v vs w absent inside = by (v.0 == w) refl
  where
    by : (t : Bool) → (v.0 == w) ≡ t → t ≡ false
    by true e = let same : v.0 ≡ w = eqb-true _ _ e in absurd (let there = rw (← same) at inside in omega arith)
    by false e = refl

-- what is ordered from a list on is ordered from its rest on
pub ordered-rest : (v : Var) (vs : List Var) (rows : ℕ → Option Row) → level_in vs v.0 ≡ length vs → IsOrderedFrom (v ∷ vs) rows → IsOrderedFrom vs rows
ordered-rest v vs rows absent ordered = record { among = among'; below = below' }
  where
    inside_all : (w : ℕ) → IsIn vs w → IsIn (v ∷ vs) w
    inside_all w inside = rw (not_first v vs w absent inside) (omega arith)

    lower : (n : ℕ) (r : Row) (b : Bool) → rows n ≡ Some r → IsIn vs r.var.0 → 0 < level_of_row (v ∷ vs) (rows (end_of r b))
    lower n r b is inside = let below = ordered.below n r b is (inside_all r.var.0 inside) in omega arith

    among' : (n : ℕ) (r : Row) (b : Bool) → rows n ≡ Some r → IsIn vs r.var.0 → IsAmong vs (rows (end_of r b)) (end_of r b)
    among' n r b is inside = among-rest v vs _ _ (lower n r b is inside) (ordered.among n r b is (inside_all r.var.0 inside))

    below' : (n : ℕ) (r : Row) (b : Bool) → rows n ≡ Some r → IsIn vs r.var.0 → level_in vs r.var.0 < level_of_row vs (rows (end_of r b))
    below' n r b is inside =
        let below = rw (not_first v vs r.var.0 absent inside) at (ordered.below n r b is (inside_all r.var.0 inside)) in
        let level = level-stays v vs (rows (end_of r b)) (lower n r b is inside) in
        omega arith

-- a step past the first variable leads to a node of the rest
pub among-step : (v : Var) (vs : List Var) (rows : ℕ → Option Row) (n : ℕ) (b : Bool) → IsOrderedFrom (v ∷ vs) rows → IsAmong (v ∷ vs) (rows n) n
    → IsAmong vs (rows (step (rows n) v.0 n b)) (step (rows n) v.0 n b)
among-step v vs rows n b ordered among = by (rows n) refl among
  where
    by : (o : Option Row) → rows n ≡ o → IsAmong (v ∷ vs) o n → IsAmong vs (rows (step o v.0 n b)) (step o v.0 n b)
    by None e among = rw e among
    by (Some r) e among = within (v.0 == r.var.0) refl
      where
        below : level_in (v ∷ vs) r.var.0 < level_of_row (v ∷ vs) (rows (end_of r b))
        below = ordered.below n r b e among

        within : (t : Bool) → (v.0 == r.var.0) ≡ t → IsAmong vs (rows (cond t (end_of r b) n)) (cond t (end_of r b) n)
        within true tests = among-rest v vs _ _ (omega (arith, below)) (ordered.among n r b e among)
        within false tests = rw e (let inside = rw tests at among in omega arith)

-- two constants of one value are the same
same-constant : (m n : ℕ) → m < 2 → n < 2 → (m == 1) ≡ (n == 1) → m ≡ n
same-constant m n small small' same = grind (arith, nat_tests)

-- two numbers that lead to the same numbers past a variable, for both its values, are the same
same-steps : (v : ℕ) (rows : ℕ → Option Row) → ((n : ℕ) (r : Row) → rows n ≡ Some r → r.low.0 ≢ r.high.0)
    → ((m n : ℕ) (r : Row) → rows m ≡ Some r → rows n ≡ Some r → m ≡ n)
    → (m n : ℕ) (o p : Option Row) → rows m ≡ o → rows n ≡ p → ((b : Bool) → step o v m b ≡ step p v n b) → m ≡ n
same-steps v rows differ unique m n None None is_m is_n same = same true
same-steps v rows differ unique m n None (Some s) is_m is_n same = by (v == s.var.0) same
  where
    by : (t : Bool) → ((b : Bool) → m ≡ cond t (end_of s b) n) → m ≡ n
    by true same = absurd (differ n s is_n (sym (same false) ∙ same true))
    by false same = same true
same-steps v rows differ unique m n (Some r) None is_m is_n same = by (v == r.var.0) same
  where
    by : (t : Bool) → ((b : Bool) → cond t (end_of r b) m ≡ n) → m ≡ n
    by true same = absurd (differ m r is_m (same false ∙ sym (same true)))
    by false same = same true
same-steps v rows differ unique m n (Some r) (Some s) is_m is_n same = by (v == r.var.0) (v == s.var.0) refl refl same
  where
    by : (t u : Bool) → (v == r.var.0) ≡ t → (v == s.var.0) ≡ u → ((b : Bool) → cond t (end_of r b) m ≡ cond u (end_of s b) n) → m ≡ n
    by false false tests_r tests_s same = same true
    by true false tests_r tests_s same = absurd (differ m r is_m (same false ∙ sym (same true)))
    by false true tests_r tests_s same = absurd (differ n s is_n (sym (same false) ∙ same true))
    by true true tests_r tests_s same =
        let var : r.var.0 ≡ s.var.0 = sym (eqb-true _ _ tests_r) ∙ eqb-true _ _ tests_s in
        let low : r.low.0 ≡ s.low.0 = same false in
        let high : r.high.0 ≡ s.high.0 = same true in
        let row : r ≡ s = λ j. record { var = record { 0 = var j }; low = record { 0 = low j }; high = record { 0 = high j } } in
        unique m n s (is_m ∙ ap Some row) is_n

-- past a variable a number has the value that it has where the variable is given
pub moved : (v : Var) (vs : List Var) (rows : ℕ → Option Row) → level_in vs v.0 ≡ length vs → (b : Bool) (a : ℕ → Bool) (k : ℕ)
    → value_in vs rows a (step (rows k) v.0 k b) ≡ value_in (v ∷ vs) rows (with_value a v.0 b) k
moved v vs rows absent b a k =
    let here : with_value a v.0 b v.0 ≡ b = rw (eq-eqb v.0 v.0 refl) refl in
    sym (rw here (ap (λ x. x == 1) (follow-with_value vs rows a v.0 b (step (rows k) v.0 k b) absent)))

-- two nodes of the same values are the same
same-among : (vs : List Var) (rows : ℕ → Option Row) → IsDistinct vs → IsOrderedFrom vs rows
    → ((n : ℕ) (r : Row) → rows n ≡ Some r → r.low.0 ≢ r.high.0) → ((m n : ℕ) (r : Row) → rows m ≡ Some r → rows n ≡ Some r → m ≡ n)
    → (m n : ℕ) → IsAmong vs (rows m) m → IsAmong vs (rows n) n → ((a : ℕ → Bool) → value_in vs rows a m ≡ value_in vs rows a n) → m ≡ n
same-among [] rows distinct ordered differ unique m n among_m among_n same =
    same-constant m n (constant (rows m) m among_m) (constant (rows n) n among_n) (same (λ _. true))
  where
    constant : (o : Option Row) (k : ℕ) → IsAmong [] o k → k < 2
    constant None k among = among
    constant (Some r) k among = absurd (omega arith)
same-among (v ∷ vs) rows distinct ordered differ unique m n among_m among_n same =
    same-steps v.0 rows differ unique m n (rows m) (rows n) refl refl (λ b.
    same-among vs rows distinct.1 (ordered-rest v vs rows distinct.0 ordered) differ unique _ _
    (among-step v vs rows m b ordered among_m) (among-step v vs rows n b ordered among_n)
    (λ a. moved v vs rows distinct.0 b a m ∙ same (with_value a v.0 b) ∙ sym (moved v vs rows distinct.0 b a n)))

-- a constant or a node of reduced rows is among those that test a variable of the order, which are ordered
pub reduced-among : (order : List Var) (rows : ℕ → Option Row) → AreReduced order rows → (k : ℕ) → IsThere rows k → IsAmong order (rows k) k
reduced-among order rows reduced k there = by (rows k) refl there
  where
    by : (o : Option Row) → rows k ≡ o → IsThere rows k → IsAmong order o k
    by None e there = let some = rw e at there in grind arith
    by (Some r) e there = reduced.tested k r e

pub reduced-ordered : (order : List Var) (rows : ℕ → Option Row) → AreReduced order rows → IsOrderedFrom order rows
reduced-ordered order rows reduced = record {
  among = λ k r b is _. reduced-among order rows reduced (end_of r b) (reduced.ends_there k r b is);
  below = λ k r b is _. reduced.ends_below k r b is;
}

-- two numbers of constants or nodes that have one value for every assignment are the same, whatever the order
pub canonical : (order : List Var) (rows : ℕ → Option Row) → AreReduced order rows → (m n : ℕ) → IsThere rows m → IsThere rows n
    → ((a : ℕ → Bool) → value_in order rows a m ≡ value_in order rows a n) → m ≡ n
canonical order rows reduced m n there_m there_n same =
    same-among order rows reduced.distinct (reduced-ordered order rows reduced) reduced.ends_differ reduced.unique m n
    (reduced-among order rows reduced m there_m) (reduced-among order rows reduced n there_n) same
