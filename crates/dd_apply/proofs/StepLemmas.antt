-- One level of a recursion: nodes split past a variable, and the halves' results joined.
use Rattle.std.proofs.Common.{◌≡◌, ◌==◌, ℕ, suc, ◌+◌, ◌<◌, ◌≤◌, Bool, true, false, cond, if◌then◌else◌, List, [], ◌∷◌, length, Option, Some, None, IsSome, Result, Ok, Err, IfOk, IfErr, OnErr, refl, ap, sym, ◌∙◌, subst, inl, inr, arith}
use Rattle.std.specs.List.{Contains}
use Rattle.std.proofs.lemmas.Bool.{cases_lt, eqb-true, eq-eqb, true≢false}
use Rattle.dd_store.specs.declared.row.Row.{Row}
use Rattle.dd_store.specs.declared.row.Var.{Var}
use Rattle.dd_store.specs.declared.refusal.Refusal.{Refusal}
use Rattle.dd_store.specs.Changes.{Keeps, Grows}
use Rattle.dd_store.specs.Exhausted.{value_at}
use Rattle.dd_store.specs.Follow.{IsThere, end_of, step, with_value}
use Rattle.dd_store.specs.Handles.{GainsHandle, KeepsHandles, one_on}
use Rattle.dd_store.specs.Order.{level_in, level_of_row, IsIn}
use Rattle.dd_store.specs.Size.{Function, fixed, cofactors}
use Rattle.dd_store.specs.SizeLaws.{IsFreeOf}
use Rattle.dd_store.specs.Table.{Table, row_of, level_of, top_of, handles_on, IsLive, IsSound, IsVariable, IsAbove}
use Rattle.dd_store.proofs.ChangeLemmas.{keeps_then}
use Rattle.dd_store.proofs.CofactorLemmas.{fixed-cofactor, fixed-follows, own-cofactor}
use Rattle.dd_store.proofs.CountLemmas.{live_gained, one_on-itself}
use Rattle.dd_store.proofs.FreeLemmas.{free-itself, free-fixed}
use Rattle.dd_store.proofs.StayLemmas.{value-kept}
use Rattle.dd_store.proofs.TopLemmas.{tell-levels}
use Rattle.dd_apply.specs.Held.{IsHeld, IsCauseWithin, HasBoth, Trades, LosesBoth}
use Rattle.dd_apply.specs.Split.{fork}
use Rattle.dd_apply.proofs.HeldLemmas.{held-there, held-step}
use Rattle.dd_apply.specs.Made.{StaysUnlessFull}
use Rattle.dd_apply.proofs.MadeLemmas.{stays-part, stays-then, stays-handles}
use Rattle.dd_apply.proofs.RoomLemmas.{cause-behind, cause-stay}

-- two variables of one level are the same
one-level : (vs : List Var) (v w : ℕ) → IsIn vs v → level_in vs v ≡ level_in vs w → v ≡ w
one-level [] v w inside same = absurd (omega arith)
one-level (u ∷ us) v w inside same = by (u.0 == v) (u.0 == w) refl refl inside same (one-level us v w)
  where
    by : (s t : Bool) → (u.0 == v) ≡ s → (u.0 == w) ≡ t → cond s 0 (suc (level_in us v)) < suc (length us)
        → cond s 0 (suc (level_in us v)) ≡ cond t 0 (suc (level_in us w)) → (IsIn us v → level_in us v ≡ level_in us w → v ≡ w) → v ≡ w
    by true true e f inside same rest = sym (eqb-true u.0 v e) ∙ eqb-true u.0 w f
    by true false e f inside same rest = absurd (omega arith)
    by false true e f inside same rest = absurd (omega arith)
    by false false e f inside same rest = rest (omega arith) (omega arith)

-- what a number leads to past a variable
pub record IsHalf (t : Table) (v n m : ℕ) (b : Bool) : Type 0 where
  pub held : IsHeld t m
  pub below : level_of t v < top_of t m
  pub value : fixed (value_at t n) v b ≡ value_at t m

module _ (t : Table) (sound : IsSound t) (v : ℕ) (inside : IsVariable t v) where
  step-below : (n : ℕ) (b : Bool) → level_of t v ≤ top_of t n → level_of t v < top_of t (step (row_of t n) v n b)
  step-below n b above = by (row_of t n) refl above
    where
      by : (o : Option Row) → row_of t n ≡ o → level_of t v ≤ level_of_row t.order o → level_of t v < top_of t (step o v n b)
      by None is above = subst (λ (o : Option Row). level_of t v < level_of_row t.order o) (sym is) inside
      by (Some r) is above = within (v == r.var.0) refl
        where
          within : (c : Bool) → (v == r.var.0) ≡ c → level_of t v < top_of t (cond c (end_of r b) n)
          within true e = subst (λ (w : ℕ). level_of t w < top_of t (end_of r b)) (sym (eqb-true v r.var.0 e)) (sound.reduced.rows.ends_below n r b is)
          within false e = elim (cases_lt (level_of t v) (level_of t r.var.0)) [
            | inl lower ↦ subst (λ (o : Option Row). level_of t v < level_of_row t.order o) (sym is) lower
            | inr past ↦ absurd (true≢false (sym (eq-eqb v r.var.0 (one-level t.order v r.var.0 inside (omega arith))) ∙ e))
          ]

  pub half : (n m : ℕ) (b : Bool) → IsHeld t n → level_of t v ≤ top_of t n → m ≡ step (row_of t n) v n b → IsHalf t v n m b
  half n m b held above is = subst (λ (k : ℕ). IsHalf t v n k b) (sym is) (record {
    held = held-step t sound n v b held;
    below = step-below n b above;
    value = fixed-follows t.order (row_of t) sound.reduced.rows n v b above;
  })

  -- a number's value doesn't depend on the variables above it
  pub value-free : (n : ℕ) → IsHeld t n → level_of t v ≤ top_of t n → (w : ℕ) → level_of t w < level_of t v → IsFreeOf w (value_at t n)
  value-free n held above w higher a b =
      (tell-levels t.order (row_of t) sound.reduced.rows n (level_of t v) (held-there t sound n held) (omega arith)).0 above w higher a b

-- a node has a level
pub node-top : (t : Table) → IsSound t → (n : ℕ) → 2 ≤ n → IsThere (row_of t) n → top_of t n < length t.order
node-top t sound n large there = by (row_of t n) refl (there large)
  where
    by : (o : Option Row) → row_of t n ≡ o → IsSome o → level_of_row t.order o < length t.order
    by None is some = absurd (true≢false (sym some))
    by (Some r) is some = sound.reduced.rows.tested n r is

-- a function is what its two values of a variable make of it
pub forked : (f : Function) (v : ℕ) → fork v (fixed f v false) (fixed f v true) ≡ f
forked f v = λ j a. by (a v) a refl j
  where
    given : (a : ℕ → Bool) (b : Bool) → a v ≡ b → with_value a v b ≡ a
    given a b is = λ j w. at w (w == v) refl j
      where
        at : (w : ℕ) (c : Bool) → (w == v) ≡ c → (if c then b else a w) ≡ a w
        at w true e = sym is ∙ ap a (sym (eqb-true w v e))
        at w false e = refl

    by : (b : Bool) (a : ℕ → Bool) → a v ≡ b → (if b then fixed f v true a else fixed f v false a) ≡ f a
    by true a is = ap f (given a true is)
    by false a is = ap f (given a false is)

-- a handle whose value has a variable fixed stands below the variable
pub fixed-below : (t : Table) (v n : ℕ) (f : Function) (b : Bool) → IsSound t → IsVariable t v → IsThere (row_of t) n
    → ((w : ℕ) → level_of t w < level_of t v → IsFreeOf w f) → value_at t n ≡ fixed f v b → IsAbove t v n
fixed-below t v n f b sound inside there free is =
    let none = (tell-levels t.order (row_of t) sound.reduced.rows n (suc (level_of t v)) there (omega arith)).1
    (λ w higher a c. subst (λ (g : Function). IsFreeOf w g) (sym is) (free' w higher) a c) in
    omega arith
  where
    free' : (w : ℕ) → level_of t w < suc (level_of t v) → IsFreeOf w (fixed f v b)
    free' w higher = elim (cases_lt (level_of t w) (level_of t v)) [
      | inl lower ↦ free-fixed f v b w (free w lower)
      | inr same ↦ subst (λ (u : ℕ). IsFreeOf u (fixed f v b)) (one-level t.order v w inside (omega arith)) (free-itself f v b)
    ]

-- A function f is asked for in t; the handle low of its value without the variable v is made from t to m, and high of
-- that with it from m to u.
module _ (t m u : Table) (f : Function) (v low high : ℕ) (sound : IsSound t) (inside : IsVariable t v) (free : (w : ℕ) → level_of t w < level_of t v → IsFreeOf w f)
    (keeps : Keeps t m) (gain : GainsHandle t m low) (is_low : value_at m low ≡ fixed f v false) where
  pub part : (b : Bool) → Contains (cofactors t.order f) (fixed f v b)
  part b = fixed-cofactor t.order f v b inside free

  low-part : Contains (cofactors t.order f) (value_at m low)
  low-part = subst (λ (g : Function). Contains (cofactors t.order f) g) (sym is_low) (part false)

  -- what is made for the halves is made for the whole
  halves-stay : Keeps m u → StaysUnlessFull t m (fixed f v false) → StaysUnlessFull m u (fixed f v true) → StaysUnlessFull t u f
  halves-stay keeps' one two =
      stays-then t m u f keeps keeps' (stays-part t m f (fixed f v false) keeps (part false) one)
      (stays-part m u f (fixed f v true) keeps' (subst (λ (vs : List Var). Contains (cofactors vs f) (fixed f v true)) (sym keeps.order) (part true)) two)

  pub given-up-stays : (w : Table) → Keeps m u → Grows u w 0 → StaysUnlessFull t m (fixed f v false) → StaysUnlessFull m u (fixed f v true) → StaysUnlessFull t w f
  given-up-stays w keeps' grows one two = stays-handles t u w f grows keeps'.sound (halves-stay keeps' one two)

  -- the second half is refused, and the first one's handle is given back
  pub cause-second : (w : Table) (g : Function) (inner more : ℕ) (r : Refusal) → g ≡ fixed f v true → inner + 1 ≤ more → Grows u w 0
      → IsCauseWithin m u g inner r → IsCauseWithin t w f more r
  cause-second w g inner more r is few grows cause =
      cause-stay t u w f more r grows
      (cause-behind t m u f (fixed f v true) low inner more r (part true) keeps gain low-part few (subst (λ (h : Function). IsCauseWithin m u h inner r) is cause))

  module _ (keeps' : Keeps m u) (gain' : GainsHandle m u high) (is_high : value_at u high ≡ fixed f v true) where
    order' : u.order ≡ t.order
    order' = keeps'.order ∙ keeps.order

    is_low' : value_at u low ≡ fixed f v false
    is_low' = let own = one_on-itself low in let each = gain.each low in
        value-kept m u keeps' low (omega arith) (live_gained gain' low (omega arith)) ∙ is_low

    pub both : HasBoth u low high
    both n = let one = gain.each n in let two = gain'.each n in omega arith

    live-low : IsLive u low
    live-low = let own = one_on-itself low in let has = both low in omega arith

    live-high : IsLive u high
    live-high = let own = one_on-itself high in let has = both high in omega arith

    inside' : IsVariable u v
    inside' = subst (λ (vs : List Var). IsIn vs v) (sym order') inside

    free' : (w : ℕ) → level_of u w < level_of u v → IsFreeOf w f
    free' w = subst (λ (vs : List Var). level_in vs w < level_in vs v → IsFreeOf w f) (sym order') (free w)

    pub variable : IsVariable u v
    variable = inside'

    pub above-low : IsAbove u v low
    above-low = fixed-below u v low f false keeps'.sound inside' (keeps'.sound.reduced.live low live-low) free' is_low'

    pub above-high : IsAbove u v high
    above-high = fixed-below u v high f true keeps'.sound inside' (keeps'.sound.reduced.live high live-high) free' is_high

    pub fork-is : fork v (value_at u low) (value_at u high) ≡ f
    fork-is = ap (λ (g : Function). fork v g (value_at u high)) is_low' ∙ ap (λ (g : Function). fork v (fixed f v false) g) is_high ∙ forked f v

    pub joined-value : (w : Table) (result : Result ℕ Refusal) → IfOk result (λ h. value_at w h ≡ fork v (value_at u low) (value_at u high)) → IfOk result (λ h. value_at w h ≡ f)
    joined-value w (Ok h) is = is ∙ fork-is
    joined-value w (Err r) is = tt

    pub joined-gain : (w : Table) (result : Result ℕ Refusal) → IfOk result (Trades u w low high) → IfOk result (GainsHandle t w)
    joined-gain w (Ok h) trade =
        let each : (n : ℕ) → handles_on w n ≡ handles_on t n + one_on h n = (λ n. let one = gain.each n in let two = gain'.each n in let now = trade.each n in omega arith) in
        record {
          gained = (let here = each h in let own = one_on-itself h in omega arith);
          each = each;
          total = (let one = gain.total in let two = gain'.total in let now = trade.total in omega arith);
        }
    joined-gain w (Err r) trade = tt

    pub joined-keeps-handles : (w : Table) (result : Result ℕ Refusal) → OnErr result (LosesBoth u w low high) → OnErr result (KeepsHandles t w)
    joined-keeps-handles w (Ok h) lost = tt
    joined-keeps-handles w (Err r) lost = record {
      each = λ n. let one = gain.each n in let two = gain'.each n in let now = lost.each n in omega arith;
      total = let one = gain.total in let two = gain'.total in let now = lost.total in omega arith;
    }

    pub joined-keeps : (w : Table) → Keeps u w → Keeps t w
    joined-keeps w last =
        keeps_then (keeps_then keeps keeps' (λ n first end. live_gained gain n first)) last (λ n first end. live_gained gain' n (live_gained gain n first))

    pub joined-stays : (w : Table) → Keeps u w → StaysUnlessFull t m (fixed f v false) → StaysUnlessFull m u (fixed f v true)
        → StaysUnlessFull u w (fork v (value_at u low) (value_at u high)) → StaysUnlessFull t w f
    joined-stays w last one two three =
        stays-then t u w f (keeps_then keeps keeps' (λ n first end. live_gained gain n first)) last (halves-stay keeps' one two)
        (subst (λ (g : Function). StaysUnlessFull u w g) fork-is three)

    pub joined-cause : (w : Table) (more : ℕ) (result : Result ℕ Refusal) → 2 ≤ more
        → IfErr result (IsCauseWithin u w (fork v (value_at u low) (value_at u high)) 0) → IfErr result (IsCauseWithin t w f more)
    joined-cause w more (Ok h) few cause = tt
    joined-cause w more (Err r) few cause =
        let high-part : Contains (cofactors m.order f) (value_at u high) = subst (λ (g : Function). Contains (cofactors m.order f) g) (sym is_high)
        (subst (λ (vs : List Var). Contains (cofactors vs f) (fixed f v true)) (sym keeps.order) (part true)) in
        cause-behind t m w f f low 1 more r (own-cofactor t.order f) keeps gain low-part (omega arith)
        (cause-behind m u w f f high 0 1 r (own-cofactor m.order f) keeps' gain' high-part (omega arith) (subst (λ (g : Function). IsCauseWithin u w g 0 r) fork-is cause))

-- where the second half is refused and the first one's handle is given back
pub given-up-keeps : (t m u w : Table) (low : ℕ) → Keeps t m → GainsHandle t m low → Keeps m u → KeepsHandles m u → Keeps u w → Keeps t w
given-up-keeps t m u w low one gain two same last =
    keeps_then (keeps_then one two (λ n first end. live_gained gain n first)) last
    (λ n first end. let each = gain.each n in let now = same.each n in omega arith)
