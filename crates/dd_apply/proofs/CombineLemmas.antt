-- The halves of a binary operation.
use Rattle.std.proofs.Common.{◌≡◌, ◌⊎◌, ℕ, ◌-◌, ◌<◌, ◌≤◌, Bool, length, min, List, Option, ap, sym, ◌∙◌, subst, inl, inr, arith}
use Rattle.std.proofs.Math.Nat.{min-le_left, min-le_right, le-min}
use Rattle.dd_store.specs.declared.row.Row.{Row}
use Rattle.dd_store.specs.declared.row.Var.{Var}
use Rattle.dd_store.specs.Changes.{Keeps}
use Rattle.dd_store.specs.Exhausted.{value_at}
use Rattle.dd_store.specs.Follow.{step, with_value}
use Rattle.dd_store.specs.Order.{level_of_row}
use Rattle.dd_store.specs.Size.{Function, fixed}
use Rattle.dd_store.specs.SizeLaws.{IsFreeOf}
use Rattle.dd_store.specs.Table.{Table, row_of, level_of, top_of, IsLive, IsSound, IsVariable}
use Rattle.dd_apply.specs.declared.operation.Operation.{Operation}
use Rattle.dd_apply.specs.Held.{IsHeld, Stays}
use Rattle.dd_apply.specs.Truth.{table, applied}
use Rattle.dd_apply.proofs.HeldLemmas.{held-stays, held-there}
use Rattle.dd_apply.proofs.StepLemmas.{IsHalf, half, value-free, node-top}

-- how many levels stand at the higher one of two nodes and below it
abbrev pub levels : Table → ℕ → ℕ → ℕ
levels t a b = length t.order - min (top_of t a) (top_of t b)

-- one of two numbers
pub one-held : (t : Table) (a b n : ℕ) → IsHeld t a → IsHeld t b → (n ≡ a) ⊎ (n ≡ b) → IsHeld t n
one-held t a b n held_a held_b (inl same) = subst (λ (m : ℕ). IsHeld t m) (sym same) held_a
one-held t a b n held_a held_b (inr same) = subst (λ (m : ℕ). IsHeld t m) (sym same) held_b

-- one of two nodes, of which one is no constant, has a level
pub one-node : (t : Table) → IsSound t → (a b : ℕ) → IsHeld t a → IsHeld t b → (2 ≤ a) ⊎ (2 ≤ b) → min (top_of t a) (top_of t b) < length t.order
one-node t sound a b held_a held_b (inl large) =
    let one = node-top t sound a large (held-there t sound a held_a) in let less = min-le_left (top_of t a) (top_of t b) in omega arith
one-node t sound a b held_a held_b (inr large) =
    let one = node-top t sound b large (held-there t sound b held_b) in let less = min-le_right (top_of t a) (top_of t b) in omega arith

-- fewer levels are left
pub left : (n l m k : ℕ) → l < n → k ≡ l → l < m → n - m < n - k
left n l m k inside same below = omega arith

module _ (t : Table) (sound : IsSound t) (op : Operation) (a b v : ℕ) (held_a : IsHeld t a) (held_b : IsHeld t b) (inside : IsVariable t v)
    (top : level_of t v ≡ min (top_of t a) (top_of t b)) where
  above_a : level_of t v ≤ top_of t a
  above_a = let less = min-le_left (top_of t a) (top_of t b) in omega arith

  above_b : level_of t v ≤ top_of t b
  above_b = let less = min-le_right (top_of t a) (top_of t b) in omega arith

  -- what is asked doesn't depend on the variables above
  pub free : (w : ℕ) → level_of t w < level_of t v → IsFreeOf w (applied op (value_at t a) (value_at t b))
  free w higher x c =
      ap (λ (p : Bool). table op p (value_at t b (with_value x w c))) (value-free t sound v inside a held_a above_a w higher x c)
      ∙ ap (λ (p : Bool). table op (value_at t a x) p) (value-free t sound v inside b held_b above_b w higher x c)

  module _ (c : Bool) (m k : ℕ) (is_m : m ≡ step (row_of t a) v a c) (is_k : k ≡ step (row_of t b) v b c) where
    half_a : IsHalf t v a m c
    half_a = half t sound v inside a m c held_a above_a is_m

    half_b : IsHalf t v b k c
    half_b = half t sound v inside b k c held_b above_b is_k

    pub held-halves : IsHeld t m × IsHeld t k
    held-halves = (half_a.held, half_b.held)

    pub fewer : levels t m k < levels t a b
    fewer = left (length t.order) (level_of t v) (min (top_of t m) (top_of t k)) (min (top_of t a) (top_of t b)) inside (sym top) (le-min half_a.below half_b.below)

    pub half-value : applied op (value_at t m) (value_at t k) ≡ fixed (applied op (value_at t a) (value_at t b)) v c
    half-value = sym (ap (λ (f : Function). applied op f (fixed (value_at t b) v c)) half_a.value ∙ ap (λ (f : Function). applied op (value_at t m) f) half_b.value)

    -- also behind the call for the other half
    module _ (u : Table) (keeps : Keeps t u) (live : (n : ℕ) → IsLive t n → IsLive u n) where
      stays_a : Stays t u m
      stays_a = held-stays t u sound keeps live m half_a.held

      stays_b : Stays t u k
      stays_b = held-stays t u sound keeps live k half_b.held

      pub held-after : IsHeld u m × IsHeld u k
      held-after = (stays_a.held, stays_b.held)

      same-levels : levels u m k ≡ levels t m k
      same-levels =
          ap (λ (vs : List Var). length vs - min (level_of_row vs (row_of u m)) (level_of_row vs (row_of u k))) keeps.order
          ∙ ap (λ (o : Option Row). length t.order - min (level_of_row t.order o) (level_of_row t.order (row_of u k))) stays_a.row
          ∙ ap (λ (o : Option Row). length t.order - min (level_of_row t.order (row_of t m)) (level_of_row t.order o)) stays_b.row

      pub fewer-after : levels u m k < levels t a b
      fewer-after = let same = same-levels in let one = fewer in omega arith

      pub value-after : applied op (value_at u m) (value_at u k) ≡ fixed (applied op (value_at t a) (value_at t b)) v c
      value-after =
          ap (λ (f : Function). applied op f (value_at u k)) stays_a.value ∙ ap (λ (f : Function). applied op (value_at t m) f) stays_b.value ∙ half-value

-- what is asked of nodes is asked of them after a call
pub asked-after : (t u : Table) (op : Operation) (a b : ℕ) (g : Function) → IsSound t → Keeps t u → ((n : ℕ) → IsLive t n → IsLive u n) → IsHeld t a → IsHeld t b
    → g ≡ applied op (value_at t a) (value_at t b) → IsHeld u a × IsHeld u b × (g ≡ applied op (value_at u a) (value_at u b))
asked-after t u op a b g sound keeps live held_a held_b is =
    let one = held-stays t u sound keeps live a held_a in
    let two = held-stays t u sound keeps live b held_b in (
      one.held,
      two.held,
      is ∙ sym (ap (λ (f : Function). applied op f (value_at u b)) one.value ∙ ap (λ (f : Function). applied op (value_at t a) f) two.value),
    )
