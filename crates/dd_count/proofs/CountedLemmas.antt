-- Counting the true ones of variables that are given by their levels: what is left to count is a cofactor.
use Rattle.std.proofs.Common.{◌≡◌, ◌==◌, ℕ, zero, suc, ◌+◌, ◌<◌, ◌≤◌, Bool, true, false, if◌then◌else◌, List, [], ◌∷◌, length, drop, refl, ap, sym, ◌∙◌, subst, inl, inr, arith, nat_le, nat_lt}
use Rattle.std.specs.List.{All, Contains}
use Rattle.std.proofs.lemmas.Bool.{cases_lt, eqb-true, eq-eqb, ne_eqb, le-leb, lt-leb, ltb-false, and_from, and_right}
use Rattle.std.proofs.lemmas.List.{length-map}
use Rattle.std.proofs.lemmas.List.Elements.{All-head, All-tail}
use Rattle.std.proofs.lemmas.List.Sums.{sum_by-cons, count_by-le-length}
use Rattle.dd_store.specs.declared.row.Var.{Var}
use Rattle.dd_store.specs.Follow.{with_value}
use Rattle.dd_store.specs.Order.{level_in, IsDistinct}
use Rattle.dd_store.specs.Size.{Function, fixed, cofactors}
use Rattle.dd_store.specs.SizeLaws.{IsFreeOf}
use Rattle.dd_store.proofs.CofactorLemmas.{own-cofactor, cofactors-compose, fixed-cofactor}
use Rattle.dd_apply.specs.Split.{fork}
use Rattle.dd_count.specs.Cardinality.{true_count, is_within}
use Rattle.dd_count.specs.Levels.{variable_on, variables_on, IsFallingFrom}
use Rattle.dd_count.specs.States.{counted, last_state}

-- one or none
abbrev one : Bool → ℕ
one b = if b then 1 else 0

-- the first of the variables counts alone
count-cons : (v : Var) (vs : List Var) (a : ℕ → Bool) → true_count (v ∷ vs) a ≡ one (a v.0) + true_count vs a
count-cons v vs a = sum_by-cons (λ (w : Var). one (a w.0)) v vs

-- the variable on a level has the level
pub level-on : (order : List Var) → IsDistinct order → (l : ℕ) → l < length order → level_in order (variable_on order l).0 ≡ l
level-on [] distinct l inside = absurd (omega arith)
level-on (w ∷ ws) distinct zero inside = ap (λ (b : Bool). if b then 0 else suc (level_in ws w.0)) (eq-eqb w.0 w.0 refl)
level-on (w ∷ ws) distinct (suc l) inside = by (w.0 == (variable_on ws l).0) refl (level-on ws distinct.1 l (omega arith))
  where
    by : (b : Bool) → (w.0 == (variable_on ws l).0) ≡ b → level_in ws (variable_on ws l).0 ≡ l
        → (if b then 0 else suc (level_in ws (variable_on ws l).0)) ≡ suc l
    by true e rest = absurd (
        let same : level_in ws w.0 ≡ level_in ws (variable_on ws l).0 = ap (level_in ws) (eqb-true w.0 (variable_on ws l).0 e) in
        let first = distinct.0 in omega arith
        )
    by false e rest = ap suc rest

-- levels that fall from one on fall from each one above it
pub falling-from : (above first : ℕ) (ls : List ℕ) → above ≤ first → IsFallingFrom first ls → IsFallingFrom above ls
falling-from above first [] less falling = tt
falling-from above first (l ∷ ls) less falling = ((let within = falling.0 in omega arith), falling.1)

-- and so do those that are left
pub falling-drop : (first : ℕ) (ls : List ℕ) (n : ℕ) → IsFallingFrom first ls → IsFallingFrom first (drop n ls)
falling-drop first ls zero falling = falling
falling-drop first [] (suc n) falling = tt
falling-drop first (l ∷ ls) (suc n) falling =
    falling-from first (suc l) (drop n ls) (let within = falling.0 in omega arith) (falling-drop (suc l) ls n falling.1)

-- there are no more of them than levels
pub falling-few : (first n : ℕ) (ls : List ℕ) → IsFallingFrom first ls → All (λ (l : ℕ). l < n) ls → first ≤ n → first + length ls ≤ n
falling-few first n [] falling within less = omega arith
falling-few first n (l ∷ ls) falling within less =
    let here : l < n = All-head (λ (l : ℕ). l < n) l ls within in
    let rest = falling-few (suc l) n ls falling.1 (All-tail (λ (l : ℕ). l < n) l ls within) (omega arith) in
    let above = falling.0 in
    omega arith

-- no more of them are true than there are
pub count-few : (order : List Var) (ls : List ℕ) (a : ℕ → Bool) → true_count (variables_on order ls) a ≤ length ls
count-few order ls a =
    let few = count_by-le-length (λ (v : Var). a v.0) (variables_on order ls) in let size = length-map ls (variable_on order) in omega arith

module _ (order : List Var) (distinct : IsDistinct order) where
  -- a variable above a level is none on it
  other-on : (l w : ℕ) → l < length order → level_in order w < l → ((variable_on order l).0 == w) ≡ false
  other-on l w inside above =
      ne_eqb (variable_on order l).0 w (λ same. let level = level-on order distinct l inside in let both = ap (level_in order) same in omega arith)

  -- a variable above them all has no say
  count-above : (first : ℕ) (ls : List ℕ) → IsFallingFrom first ls → All (λ (l : ℕ). l < length order) ls → (w : ℕ) → level_in order w < first
      → (a : ℕ → Bool) (b : Bool) → true_count (variables_on order ls) (with_value a w b) ≡ true_count (variables_on order ls) a
  count-above first [] falling within w above a b = refl
  count-above first (l ∷ ls) falling within w above a b =
      let v = variable_on order l in
      let vs = variables_on order ls in
      let lower = falling.0 in
      let none = other-on l w (All-head (λ (l : ℕ). l < length order) l ls within) (omega arith) in
      count-cons v vs (with_value a w b)
      ∙ ap (λ (p : Bool). one (if p then b else a v.0) + true_count vs (with_value a w b)) none
      ∙ ap (λ (n : ℕ). one (a v.0) + n) (count-above (suc l) ls falling.1 (All-tail (λ (l : ℕ). l < length order) l ls within) w (omega arith) a b)
      ∙ sym (count-cons v vs a)

  -- what is left to count depends on none of those above
  pub counted-free : (first : ℕ) (ls : List ℕ) (low high c : ℕ) → IsFallingFrom first ls → All (λ (l : ℕ). l < length order) ls
      → (w : ℕ) → level_in order w < first → IsFreeOf w (counted (variables_on order ls) low high c)
  counted-free first ls low high c falling within w above a b = ap (λ (n : ℕ). is_within low high (c + n)) (count-above first ls falling within w above a b)

  module _ (l : ℕ) (ls : List ℕ) (low high : ℕ) (falling : IsFallingFrom l (l ∷ ls)) (within : All (λ (l : ℕ). l < length order) (l ∷ ls)) where
    pub here : l < length order
    here = All-head (λ (l : ℕ). l < length order) l ls within

    rest : All (λ (l : ℕ). l < length order) ls
    rest = All-tail (λ (l : ℕ). l < length order) l ls within

    abbrev pub v : ℕ
    v = (variable_on order l).0

    count-fixed : (a : ℕ → Bool) (b : Bool) → true_count (variables_on order (l ∷ ls)) (with_value a v b) ≡ one b + true_count (variables_on order ls) a
    count-fixed a b =
        count-cons (variable_on order l) (variables_on order ls) (with_value a v b)
        ∙ ap (λ (p : Bool). one (if p then b else a v) + true_count (variables_on order ls) (with_value a v b)) (eq-eqb v v refl)
        ∙ ap (λ (n : ℕ). one b + n) (count-above (suc l) ls falling.1 rest v (let level : level_in order (variable_on order l).0 ≡ l = level-on order distinct l here in omega arith) a b)

    -- with the first one false as many are left to count, and with it true one is counted
    pub counted-false : (c : ℕ) → fixed (counted (variables_on order (l ∷ ls)) low high c) v false ≡ counted (variables_on order ls) low high c
    counted-false c = λ j a. (ap (λ (n : ℕ). is_within low high (c + n)) (count-fixed a false) ∙ ap (is_within low high) (none a)) j
      where
        none : (a : ℕ → Bool) → c + (0 + true_count (variables_on order ls) a) ≡ c + true_count (variables_on order ls) a
        none a = omega arith

    pub counted-true : (c : ℕ) → fixed (counted (variables_on order (l ∷ ls)) low high c) v true ≡ counted (variables_on order ls) low high (c + 1)
    counted-true c = λ j a. (ap (λ (n : ℕ). is_within low high (c + n)) (count-fixed a true) ∙ ap (is_within low high) (more a)) j
      where
        more : (a : ℕ → Bool) → c + (1 + true_count (variables_on order ls) a) ≡ c + 1 + true_count (variables_on order ls) a
        more a = omega arith

    pub counted-cofactor : (c : ℕ) (b : Bool) → Contains (cofactors order (counted (variables_on order (l ∷ ls)) low high c)) (fixed (counted (variables_on order (l ∷ ls)) low high c) v b)
    counted-cofactor c b =
        let level = level-on order distinct l here in
        fixed-cofactor order (counted (variables_on order (l ∷ ls)) low high c) v b (let inside = here in omega arith)
        (λ w above. counted-free l (l ∷ ls) low high c falling within w (omega arith))

  -- what is left to count behind some of them, where no more than these are true, is a cofactor
  pub part-left : (first : ℕ) (ls : List ℕ) (low high n c d : ℕ) → IsFallingFrom first ls → All (λ (l : ℕ). l < length order) ls → n ≤ length ls → c ≤ n
      → Contains (cofactors order (counted (variables_on order ls) low high d)) (counted (variables_on order (drop n ls)) low high (d + c))
  part-left first ls low high zero c d falling within few less =
      let same : d + c ≡ d = omega arith in
      subst (λ (e : ℕ). Contains (cofactors order (counted (variables_on order ls) low high d)) (counted (variables_on order ls) low high e)) (sym same)
      (own-cofactor order (counted (variables_on order ls) low high d))
  part-left first [] low high (suc n) c d falling within few less = absurd (omega arith)
  part-left first (l ∷ ls) low high (suc n) c d falling within few less = elim (cases_lt n c) [
    | inr fits ↦
        cofactors-compose order (counted (variables_on order (l ∷ ls)) low high d) (counted (variables_on order ls) low high d) (counted (variables_on order (drop n ls)) low high (d + c))
        (subst (λ (f : Function). Contains (cofactors order (counted (variables_on order (l ∷ ls)) low high d)) f) (counted-false l ls low high own within d)
        (counted-cofactor l ls low high own within d false))
        (part-left (suc l) ls low high n c d falling.1 tail (omega arith) fits)
    | inl all ↦
        let same : d + 1 + n ≡ d + c = omega arith in
        cofactors-compose order (counted (variables_on order (l ∷ ls)) low high d) (counted (variables_on order ls) low high (d + 1)) (counted (variables_on order (drop n ls)) low high (d + c))
        (subst (λ (f : Function). Contains (cofactors order (counted (variables_on order (l ∷ ls)) low high d)) f) (counted-true l ls low high own within d)
        (counted-cofactor l ls low high own within d true))
        (subst (λ (e : ℕ). Contains (cofactors order (counted (variables_on order ls) low high (d + 1))) (counted (variables_on order (drop n ls)) low high e)) same
        (part-left (suc l) ls low high n n (d + 1) falling.1 tail (omega arith) (omega arith)))
  ]
    where
      own : IsFallingFrom l (l ∷ ls)
      own = ((omega arith), falling.1)

      tail : All (λ (l : ℕ). l < length order) ls
      tail = All-tail (λ (l : ℕ). l < length order) l ls within

-- the fork of what is left with as many and with one more is what is left with the member
pub counted-fork : (order : List Var) (l : ℕ) (ls : List ℕ) (low high c : ℕ)
    → fork (variable_on order l).0 (counted (variables_on order ls) low high c) (counted (variables_on order ls) low high (c + 1)) ≡ counted (variables_on order (l ∷ ls)) low high c
counted-fork order l ls low high c = λ j a. (by (a (variable_on order l).0) (true_count (variables_on order ls) a)
    ∙ ap (λ (n : ℕ). is_within low high (c + n)) (sym (count-cons (variable_on order l) (variables_on order ls) a))) j
  where
    by : (b : Bool) (n : ℕ) → (if b then is_within low high (c + 1 + n) else is_within low high (c + n)) ≡ is_within low high (c + (one b + n))
    by true n = ap (is_within low high) (let same : c + 1 + n ≡ c + (1 + n) = omega arith in same)
    by false n = ap (is_within low high) (let same : c + n ≡ c + (0 + n) = omega arith in same)

-- nothing is left to count
pub counted-none : (order : List Var) (low high c : ℕ) (a : ℕ → Bool) → counted (variables_on order []) low high c a ≡ is_within low high c
counted-none order low high c a = ap (is_within low high) (let same : c + 0 ≡ c = omega arith in same)

too-many : (low high n : ℕ) → high < n → is_within low high n ≡ false
too-many low high n above = and_right (nat_le low n) (nat_le n high) (lt-leb n high above)

within-both : (low high n : ℕ) → low ≤ n → n ≤ high → is_within low high n ≡ true
within-both low high n enough few = and_from (nat_le low n) (nat_le n high) (le-leb low n enough) (le-leb n high few)

-- For the last state the first member makes no difference: too many are true above, or enough and never too many.
pub counted-last : (order : List Var) (l : ℕ) (ls : List ℕ) (k low high : ℕ) → last_state k low high + suc (length ls) ≤ k
    → counted (variables_on order (l ∷ ls)) low high (last_state k low high) ≡ counted (variables_on order ls) low high (last_state k low high)
counted-last order l ls k low high few = by (nat_lt high k) refl few
  where
    state : Bool → ℕ
    state b = if b then high + 1 else low

    by : (b : Bool) → nat_lt high k ≡ b → state b + suc (length ls) ≤ k
        → counted (variables_on order (l ∷ ls)) low high (state b) ≡ counted (variables_on order ls) low high (state b)
    by true e less = λ j a. (too-many low high (high + 1 + true_count (variables_on order (l ∷ ls)) a) (omega arith)
        ∙ sym (too-many low high (high + 1 + true_count (variables_on order ls) a) (omega arith))) j
    by false e less = λ j a. (
        (let some = count-few order (l ∷ ls) a in let top = no-bound e in within-both low high (low + true_count (variables_on order (l ∷ ls)) a) (omega arith) (omega arith))
        ∙ sym (let some = count-few order ls a in let top = no-bound e in within-both low high (low + true_count (variables_on order ls) a) (omega arith) (omega arith))
        ) j
      where
        no-bound : nat_lt high k ≡ false → k ≤ high
        no-bound e = ltb-false high k e
