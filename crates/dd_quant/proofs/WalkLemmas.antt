-- One step of a walk: whether a node can be true, by its ends.
use Rattle.std.proofs.Common.{◌≡◌, ◌≢◌, ◌⊎◌, ◌↔◌, ◌==◌, ℕ, ◌-◌, ◌<◌, Bool, true, false, not, if◌then◌else◌, IsTrue, IfOk, OnOk, Result, Ok, Err, List, length, Option, Some, None, refl, ap, sym, ◌∙◌, subst, inl, inr, arith}
use Rattle.std.proofs.lemmas.Bool.{cases_eq, eq-eqb, ne_eqb, true≢false}
use Rattle.dd_store.specs.declared.row.Row.{Row}
use Rattle.dd_store.specs.Follow.{IsThere, with_value}
use Rattle.dd_store.specs.Order.{level_of_row}
use Rattle.dd_store.specs.Exhausted.{value_at}
use Rattle.dd_store.specs.Table.{Table, row_of, value_of, top_of, level_of, IsSound, IsAbove, HasEnds}
use Rattle.dd_store.proofs.ReadLemmas.{none-constant, value_of-none}
use Rattle.dd_store.proofs.TopLemmas.{follow-above}
use Rattle.dd_quant.specs.declared.literal.Literal.{Literal}
use Rattle.dd_quant.specs.Possible.{IsPossible}
use Rattle.dd_quant.specs.steps.Given.{given_for, Allows, Meets, AreGiven}
use Rattle.dd_quant.specs.steps.Marked.{found_of}
use Rattle.dd_quant.specs.steps.Walk.{CanBe, HasOpenEnds, AreFound}
use Rattle.dd_quant.proofs.GivenLemmas.{meets-with, some-meets}

-- a variable above a node has no say
pub value-above : (t : Table) → IsSound t → (n v : ℕ) (a : ℕ → Bool) (b : Bool) → IsAbove t v n → value_of t n (with_value a v b) ≡ value_of t n a
value-above t sound n v a b above = ap (λ (m : ℕ). m == 1) (follow-above t.order (row_of t) a v b n sound.reduced.rows.distinct above)

-- the value of a constant
pub constant-value : (t : Table) → IsSound t → (n : ℕ) → n < 2 → (a : ℕ → Bool) → value_of t n a ≡ (n == 1)
constant-value t sound n small a = value_of-none t a n (none-constant t n sound small)

pub no-value : (t : Table) → IsSound t → (a : ℕ → Bool) → value_of t 0 a ≡ false
no-value t sound a = constant-value t sound 0 (omega arith) a

pub constant-can-be : (t : Table) → IsSound t → (values : List (Option Bool)) (n : ℕ) (r : Bool) → n < 2 → r ≡ (n == 1) → IsTrue r ↔ CanBe t values n
constant-can-be t sound values n r small is = (forth, back)
  where
    forth : IsTrue r → CanBe t values n
    forth so = let some = some-meets values in (some.0, some.1, constant-value t sound n small some.0 ∙ sym is ∙ so)

    back : CanBe t values n → IsTrue r
    back (a, meets, so) = is ∙ sym (constant-value t sound n small a) ∙ so

-- an assignment with a value for one variable
pub with-itself : (a : ℕ → Bool) (v : ℕ) (b : Bool) → with_value a v b v ≡ b
with-itself a v b = ap (λ (t : Bool). if t then b else a v) (eq-eqb v v refl)

pub with-other : (a : ℕ → Bool) (v : ℕ) (b : Bool) (w : ℕ) → w ≢ v → with_value a v b w ≡ a w
with-other a v b w other = ap (λ (t : Bool). if t then b else a w) (ne_eqb w v other)

-- the end for a value
abbrev pub end_for : (low high : ℕ) → Bool → ℕ
end_for low high b = if b then high else low

-- what is open of a node's ends
module _ (t : Table) (sound : IsSound t) (values : List (Option Bool)) (n v low high : ℕ) (ends : HasOpenEnds t values n v low high) where
  pub end-above : (b : Bool) → IsAbove t v (end_for low high b)
  end-above true = ends.above_high
  end-above false = ends.above_low

  pub end-there : (b : Bool) → IsThere (row_of t) (end_for low high b)
  end-there true = ends.high_there
  end-there false = ends.low_there

  end-allowed : (b : Bool) → end_for low high b ≢ 0 → Allows values v b
  end-allowed true = ends.high_allowed
  end-allowed false = ends.low_allowed

  -- an end that some assignment makes true is allowed
  pub true-allowed : (b : Bool) (a : ℕ → Bool) → value_of t (end_for low high b) a ≡ true → Allows values v b
  true-allowed b a so = end-allowed b (λ none. true≢false (sym so ∙ ap (λ (m : ℕ). value_of t m a) none ∙ no-value t sound a))

  -- the value is that of the end that the assignment takes
  pub taken : (a : ℕ → Bool) → Meets values a → value_of t n a ≡ value_of t (end_for low high (a v)) a
  taken a meets = ends.value a meets ∙ by (a v)
    where
      by : (b : Bool) → (if b then value_of t high a else value_of t low a) ≡ value_of t (end_for low high b) a
      by true = refl
      by false = refl

  -- what makes an end true makes the node true with the end's value
  pub lifted : (b : Bool) (a : ℕ → Bool) → Meets values a → value_of t (end_for low high b) a ≡ true
      → Meets values (with_value a v b) × (value_of t n (with_value a v b) ≡ true)
  lifted b a meets so =
      let meets' = meets-with values a v b meets (true-allowed b a so) in (
        meets',
        taken (with_value a v b) meets'
            ∙ ap (λ (c : Bool). value_of t (end_for low high c) (with_value a v b)) (with-itself a v b)
            ∙ value-above t sound (end_for low high b) v a b (end-above b) ∙ so,
      )

  pub can-be-by : (b : Bool) → CanBe t values (end_for low high b) → CanBe t values n
  can-be-by b (a, meets, so) = let up = lifted b a meets so in (with_value a v b, up.0, up.1)

  pub can-be-from : CanBe t values n → CanBe t values low ⊎ CanBe t values high
  can-be-from (a, meets, so) = by (a v) (sym (taken a meets) ∙ so)
    where
      by : (b : Bool) → value_of t (end_for low high b) a ≡ true → CanBe t values low ⊎ CanBe t values high
      by true is = inr (a, meets, is)
      by false is = inl (a, meets, is)

  -- the first end decides, or else the second one
  pub decided-low : (r : Bool) → r ≡ true → IsTrue r ↔ CanBe t values low → IsTrue true ↔ CanBe t values n
  decided-low r is low' = ((λ so. can-be-by false (low'.0 is)), (λ can. refl))

  pub decided-high : (r s : Bool) → r ≡ false → IsTrue r ↔ CanBe t values low → IsTrue s ↔ CanBe t values high → IsTrue s ↔ CanBe t values n
  decided-high r s is low' high' = (
    (λ so. can-be-by true (high'.0 so)),
    (λ can. elim (can-be-from can) [
      | inl by_low ↦ absurd (true≢false (sym (low'.1 by_low) ∙ is))
      | inr by_high ↦ high'.1 by_high
    ]),
  )

  -- the ends have fewer levels below them
  pub fewer-below : (b : Bool) → length t.order - top_of t (end_for low high b) < length t.order - top_of t n
  fewer-below b = let above = end-above b in let top = ends.top in let inside = ends.variable in omega arith

-- a node is marked
pub found-kept : (t : Table) (values marks marks' : List (Option Bool)) (n : ℕ) (p : Bool) → AreFound t values marks → IsTrue p ↔ CanBe t values n
    → found_of marks' n ≡ Some p → ((m : ℕ) → m ≢ n → found_of marks' m ≡ found_of marks m) → AreFound t values marks'
found-kept t values marks marks' n p found is kept others m b at = elim (cases_eq m n) [
  | inl same ↦
      let one : Some p ≡ Some b = sym kept ∙ subst (λ (k : ℕ). found_of marks' k ≡ Some b) same at in
      let equal : p ≡ b = cc one in
      subst (λ (k : ℕ). IsTrue b ↔ CanBe t values k) (sym same) (subst (λ (c : Bool). IsTrue c ↔ CanBe t values n) equal is)
  | inr other ↦ found m b (sym (others m other) ∙ at)
]

-- at the start nothing is found
pub found-none : (t : Table) (values marks : List (Option Bool)) → ((n : ℕ) → found_of marks n ≡ None) → AreFound t values marks
found-none t values marks none n b at = absurd (let no = none n in let both : None ≡ Some b = sym no ∙ at in cc)

-- The ends of a node, of which one may be shut as the other value is given.
module _ (t : Table) (sound : IsSound t) (values : List (Option Bool)) (n v low high : ℕ) (ends : HasEnds t n v low high) where
  -- an end for a value, open or shut
  abbrev pub IsOpenEnd : Bool → ℕ → ℕ → Type 0
  IsOpenEnd b end end' = ((given_for values v ≡ Some (not b)) × (end' ≡ 0)) ⊎ ((given_for values v ≢ Some (not b)) × (end' ≡ end))

  allowed-unless : (b : Bool) → given_for values v ≢ Some (not b) → Allows values v b
  allowed-unless true none true is = refl
  allowed-unless true none false is = absurd (none is)
  allowed-unless false none true is = absurd (none is)
  allowed-unless false none false is = refl

  shut-not : (b : Bool) (a : ℕ → Bool) → Meets values a → given_for values v ≡ Some (not b) → a v ≡ b → ⊥
  shut-not b a meets shut is = apart b (sym is ∙ meets v (not b) shut)
    where
      apart : (c : Bool) → c ≡ not c → ⊥
      apart true e = true≢false e
      apart false e = true≢false (sym e)

  zero-there : IsThere (row_of t) 0
  zero-there large = absurd (omega arith)

  zero-above : IsAbove t v 0
  zero-above = subst (λ (o : Option Row). level_of t v < level_of_row t.order o) (sym sound.reduced.rows.no_is_constant) ends.variable

  pub open-ends : (low' high' : ℕ) → IsOpenEnd false low low' → IsOpenEnd true high high' → HasOpenEnds t values n v low' high'
  open-ends low' high' by_low by_high = record {
    variable = ends.variable;
    top = ap (λ (o : Option Row). level_of_row t.order o) ends.row;
    value = value';
    low_there = there low low' false by_low ends.low_there;
    high_there = there high high' true by_high ends.high_there;
    above_low = above low low' false by_low ends.above_low;
    above_high = above high high' true by_high ends.above_high;
    low_allowed = allowed low low' false by_low;
    high_allowed = allowed high high' true by_high;
  }
    where
      there : (end end' : ℕ) (b : Bool) → IsOpenEnd b end end' → IsThere (row_of t) end → IsThere (row_of t) end'
      there end end' b (inl shut) is = subst (λ (m : ℕ). IsThere (row_of t) m) (sym shut.1) zero-there
      there end end' b (inr open') is = subst (λ (m : ℕ). IsThere (row_of t) m) (sym open'.1) is

      above : (end end' : ℕ) (b : Bool) → IsOpenEnd b end end' → IsAbove t v end → IsAbove t v end'
      above end end' b (inl shut) is = subst (λ (m : ℕ). IsAbove t v m) (sym shut.1) zero-above
      above end end' b (inr open') is = subst (λ (m : ℕ). IsAbove t v m) (sym open'.1) is

      allowed : (end end' : ℕ) (b : Bool) → IsOpenEnd b end end' → end' ≢ 0 → Allows values v b
      allowed end end' b (inl shut) some = absurd (some shut.1)
      allowed end end' b (inr open') some = allowed-unless b open'.0

      value' : (a : ℕ → Bool) → Meets values a → value_of t n a ≡ (if a v then value_of t high' a else value_of t low' a)
      value' a meets = ends.value a ∙ by (a v) refl
        where
          by : (b : Bool) → a v ≡ b → (if b then value_of t high a else value_of t low a) ≡ (if b then value_of t high' a else value_of t low' a)
          by true is = (elim by_high [
            | inl shut ↦ absurd (shut-not true a meets shut.0 is)
            | inr open' ↦ ap (λ (m : ℕ). value_of t m a) (sym open'.1)
          ])
          by false is = (elim by_low [
            | inl shut ↦ absurd (shut-not false a meets shut.0 is)
            | inr open' ↦ ap (λ (m : ℕ). value_of t m a) (sym open'.1)
          ])

-- what a call of a mark tells of its node
pub told-value : {E : Type 0} (P : Type 0) (result : Result Bool E) (p : Bool) → IfOk result (λ b. b ≡ p) → IsTrue p ↔ P → IfOk result (λ b. IsTrue b ↔ P)
told-value P (Ok b) p same is = subst (λ (c : Bool). IsTrue c ↔ P) (sym same) is
told-value P (Err e) p same is = tt

pub told-found : {E : Type 0} (t : Table) (values marks marks' : List (Option Bool)) (n : ℕ) (p : Bool) (result : Result Bool E) → AreFound t values marks → IsTrue p ↔ CanBe t values n
    → OnOk result (found_of marks' n ≡ Some p) → ((m : ℕ) → m ≢ n → found_of marks' m ≡ found_of marks m) → OnOk result (AreFound t values marks')
told-found t values marks marks' n p (Ok b) found is kept others = found-kept t values marks marks' n p found is kept others
told-found t values marks marks' n p (Err e) found is kept others = tt

-- what can be with the values of literals is possible with these
pub can-be-possible : (t : Table) (given : List Literal) (values : List (Option Bool)) (variables n : ℕ) → AreGiven variables given values → CanBe t values n ↔ IsPossible (value_at t n) given
can-be-possible t given values variables n are = (
  (λ (a, meets, so). (a, (are.agree a).1 meets, so)),
  (λ (a, agrees, so). (a, (are.agree a).0 agrees, so)),
)

pub possible-told : {E : Type 0} (t : Table) (given : List Literal) (values values' : List (Option Bool)) (variables n f : ℕ) (result : Result Bool E) → AreGiven variables given values → values' ≡ values → n ≡ f
    → IfOk result (λ b. IsTrue b ↔ CanBe t values' n) → IfOk result (λ b. IsTrue b ↔ IsPossible (value_at t f) given)
possible-told t given values values' variables n f (Ok b) are same place is =
    let both = can-be-possible t given values variables f are in
    let is' : IsTrue b ↔ CanBe t values f = subst (λ (m : ℕ). IsTrue b ↔ CanBe t values m) place (subst (λ (vs : List (Option Bool)). IsTrue b ↔ CanBe t vs n) same is) in
    ((λ so. both.0 (is'.0 so)), (λ can. is'.1 (both.1 can)))
possible-told t given values values' variables n f (Err e) are same place is = tt
