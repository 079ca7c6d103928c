-- The thirds of a choice: what it leads to past a variable.
use Rattle.std.proofs.Common.{◌≡◌, ℕ, ◌-◌, ◌<◌, ◌≤◌, Bool, if◌then◌else◌, length, min, List, Option, ap, sym, ◌∙◌, subst, arith}
use Rattle.std.proofs.Math.Nat.{min-le_left, min-le_right, le-min}
use Rattle.dd_store.specs.declared.row.Row.{Row}
use Rattle.dd_store.specs.declared.row.Var.{Var}
use Rattle.dd_store.specs.Changes.{Keeps}
use Rattle.dd_store.specs.Exhausted.{value_at}
use Rattle.dd_store.specs.Follow.{step, with_value}
use Rattle.dd_store.specs.Order.{level_of_row}
use Rattle.dd_store.specs.Size.{Function, fixed}
use Rattle.dd_store.specs.SizeLaws.{IsFreeOf}
use Rattle.dd_store.specs.Table.{Table, row_of, level_of, top_of, IsLive, IsSound, IsVariable}
use Rattle.dd_apply.specs.Held.{IsHeld, Stays}
use Rattle.dd_apply.specs.Truth.{chosen}
use Rattle.dd_apply.proofs.HeldLemmas.{held-stays, held-there}
use Rattle.dd_apply.proofs.StepLemmas.{IsHalf, half, value-free, node-top}
use Rattle.dd_apply.proofs.CombineLemmas.{left}

-- how many levels stand at the highest one of three nodes and below it
abbrev pub levels3 : Table → ℕ → ℕ → ℕ → ℕ
levels3 t c a b = length t.order - min (top_of t c) (min (top_of t a) (top_of t b))

-- a condition that is no constant has a level
pub some-node : (t : Table) → IsSound t → (c a b : ℕ) → IsHeld t c → 2 ≤ c → min (top_of t c) (min (top_of t a) (top_of t b)) < length t.order
some-node t sound c a b held large =
    let one = node-top t sound c large (held-there t sound c held) in let less = min-le_left (top_of t c) (min (top_of t a) (top_of t b)) in omega arith

module _ (t : Table) (sound : IsSound t) (c a b v : ℕ) (held_c : IsHeld t c) (held_a : IsHeld t a) (held_b : IsHeld t b) (inside : IsVariable t v)
    (top : level_of t v ≡ min (top_of t c) (min (top_of t a) (top_of t b))) where
  above_c : level_of t v ≤ top_of t c
  above_c = let less = min-le_left (top_of t c) (min (top_of t a) (top_of t b)) in omega (arith, less, top)

  above_a : level_of t v ≤ top_of t a
  above_a = let one = min-le_right (top_of t c) (min (top_of t a) (top_of t b)) in let less = min-le_left (top_of t a) (top_of t b) in omega (arith, one, less, top)

  above_b : level_of t v ≤ top_of t b
  above_b = let one = min-le_right (top_of t c) (min (top_of t a) (top_of t b)) in let less = min-le_right (top_of t a) (top_of t b) in omega (arith, one, less, top)

  -- what is asked doesn't depend on the variables above
  pub free3 : (w : ℕ) → level_of t w < level_of t v → IsFreeOf w (chosen (value_at t c) (value_at t a) (value_at t b))
  free3 w higher x d =
      ap (λ (p : Bool). if p then value_at t a (with_value x w d) else value_at t b (with_value x w d)) (value-free t sound v inside c held_c above_c w higher x d)
      ∙ ap (λ (p : Bool). if value_at t c x then p else value_at t b (with_value x w d)) (value-free t sound v inside a held_a above_a w higher x d)
      ∙ ap (λ (p : Bool). if value_at t c x then value_at t a x else p) (value-free t sound v inside b held_b above_b w higher x d)

  module _ (d : Bool) (l m k : ℕ) (is_l : l ≡ step (row_of t c) v c d) (is_m : m ≡ step (row_of t a) v a d) (is_k : k ≡ step (row_of t b) v b d) where
    half_c : IsHalf t v c l d
    half_c = half t sound v inside c l d held_c above_c is_l

    half_a : IsHalf t v a m d
    half_a = half t sound v inside a m d held_a above_a is_m

    half_b : IsHalf t v b k d
    half_b = half t sound v inside b k d held_b above_b is_k

    pub held-halves3 : IsHeld t l × IsHeld t m × IsHeld t k
    held-halves3 = (half_c.held, half_a.held, half_b.held)

    pub fewer3 : levels3 t l m k < levels3 t c a b
    fewer3 = left (length t.order) (level_of t v) (min (top_of t l) (min (top_of t m) (top_of t k))) (min (top_of t c) (min (top_of t a) (top_of t b)))
        inside (sym top) (le-min half_c.below (le-min half_a.below half_b.below))

    pub half-value3 : chosen (value_at t l) (value_at t m) (value_at t k) ≡ fixed (chosen (value_at t c) (value_at t a) (value_at t b)) v d
    half-value3 =
        sym (ap (λ (f : Function). chosen f (fixed (value_at t a) v d) (fixed (value_at t b) v d)) half_c.value
        ∙ ap (λ (f : Function). chosen (value_at t l) f (fixed (value_at t b) v d)) half_a.value
        ∙ ap (λ (f : Function). chosen (value_at t l) (value_at t m) f) half_b.value)

    -- also behind the call for the other half
    module _ (u : Table) (keeps : Keeps t u) (live : (n : ℕ) → IsLive t n → IsLive u n) where
      stays_c : Stays t u l
      stays_c = held-stays t u sound keeps live l half_c.held

      stays_a : Stays t u m
      stays_a = held-stays t u sound keeps live m half_a.held

      stays_b : Stays t u k
      stays_b = held-stays t u sound keeps live k half_b.held

      pub held-after3 : IsHeld u l × IsHeld u m × IsHeld u k
      held-after3 = (stays_c.held, stays_a.held, stays_b.held)

      same-levels3 : levels3 u l m k ≡ levels3 t l m k
      same-levels3 =
          ap (λ (vs : List Var). length vs - min (level_of_row vs (row_of u l)) (min (level_of_row vs (row_of u m)) (level_of_row vs (row_of u k)))) keeps.order
          ∙ ap (λ (o : Option Row). length t.order - min (level_of_row t.order o) (min (level_of_row t.order (row_of u m)) (level_of_row t.order (row_of u k)))) stays_c.row
          ∙ ap (λ (o : Option Row). length t.order - min (level_of_row t.order (row_of t l)) (min (level_of_row t.order o) (level_of_row t.order (row_of u k)))) stays_a.row
          ∙ ap (λ (o : Option Row). length t.order - min (level_of_row t.order (row_of t l)) (min (level_of_row t.order (row_of t m)) (level_of_row t.order o))) stays_b.row

      pub fewer-after3 : levels3 u l m k < levels3 t c a b
      fewer-after3 = subst (λ (n : ℕ). n < levels3 t c a b) (sym same-levels3) fewer3

      pub value-after3 : chosen (value_at u l) (value_at u m) (value_at u k) ≡ fixed (chosen (value_at t c) (value_at t a) (value_at t b)) v d
      value-after3 =
          ap (λ (f : Function). chosen f (value_at u m) (value_at u k)) stays_c.value ∙ ap (λ (f : Function). chosen (value_at t l) f (value_at u k)) stays_a.value
          ∙ ap (λ (f : Function). chosen (value_at t l) (value_at t m) f) stays_b.value ∙ half-value3

-- what is asked of nodes is asked of them after a call
pub asked-after3 : (t u : Table) (c a b : ℕ) (g : Function) → IsSound t → Keeps t u → ((n : ℕ) → IsLive t n → IsLive u n) → IsHeld t c → IsHeld t a → IsHeld t b
    → g ≡ chosen (value_at t c) (value_at t a) (value_at t b)
    → IsHeld u c × IsHeld u a × IsHeld u b × (g ≡ chosen (value_at u c) (value_at u a) (value_at u b))
asked-after3 t u c a b g sound keeps live held_c held_a held_b is =
    let on = held-stays t u sound keeps live c held_c in
    let one = held-stays t u sound keeps live a held_a in
    let two = held-stays t u sound keeps live b held_b in (
      on.held,
      one.held,
      two.held,
      is ∙ sym (ap (λ (f : Function). chosen f (value_at u a) (value_at u b)) on.value ∙ ap (λ (f : Function). chosen (value_at t c) f (value_at u b)) one.value
          ∙ ap (λ (f : Function). chosen (value_at t c) (value_at t a) f) two.value),
    )
