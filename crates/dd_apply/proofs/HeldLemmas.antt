-- What live handles reach keeps its rows and its value over a call, and so do the ends of it.
use Rattle.std.proofs.Common.{◌≡◌, ◌==◌, ℕ, zero, suc, ◌<◌, Bool, true, false, cond, List, Option, Some, None, refl, ap, sym, ◌∙◌, subst, inl, inr, arith}
use Rattle.std.specs.List.{Contains}
use Rattle.std.proofs.lemmas.List.Elements.{All-contains, All-contains_itself, All-weaker}
use Rattle.dd_store.specs.declared.row.Row.{Row}
use Rattle.dd_store.specs.declared.row.Var.{Var}
use Rattle.dd_store.specs.Changes.{Keeps}
use Rattle.dd_store.specs.Follow.{IsThere, end_of, step, value_in}
use Rattle.dd_store.specs.Reached.{reached, KeepsReached}
use Rattle.dd_store.specs.Table.{Table, row_of, IsLive, IsSound}
use Rattle.dd_store.proofs.ChangeLemmas.{reached-same, reached-there}
use Rattle.dd_store.proofs.CollectLemmas.{follow-kept, reached-all}
use Rattle.dd_store.proofs.MarkLemmas.{reached-end, reached-itself}
use Rattle.dd_store.proofs.SizeLemmas.{in_from, contains_from}
use Rattle.dd_apply.specs.Held.{IsHeld, Stays}

-- a constant has no row
pub constant-row : (t : Table) → IsSound t → (n : ℕ) → n < 2 → row_of t n ≡ None
constant-row t sound zero small = sound.reduced.rows.no_is_constant
constant-row t sound (suc zero) small = sound.reduced.rows.yes_is_constant
constant-row t sound (suc (suc n)) small = absurd (omega arith)

-- a number reaches itself
reaches-itself : (t : Table) (n : ℕ) → Contains (reached t.order (row_of t) n) n
reaches-itself t n = contains_from n (reached t.order (row_of t) n) (reached-itself t.order (row_of t) n)

-- a live handle is held
pub live-held : (t : Table) (n : ℕ) → IsLive t n → IsHeld t n
live-held t n live = inr (n, live, λ m has. has)

-- what is held is there
pub held-there : (t : Table) → IsSound t → (n : ℕ) → IsHeld t n → IsThere (row_of t) n
held-there t sound n (inl small) = λ large. absurd (omega arith)
held-there t sound n (inr (h, live, within)) =
    All-contains (IsThere (row_of t)) (reached t.order (row_of t) h) n
    (reached-there t.order (row_of t) (λ m r b is. sound.reduced.rows.ends_there m r b is) h (sound.reduced.live h live)) (within n (reaches-itself t n))

-- a number's end is held
held-end : (t : Table) → IsSound t → (n : ℕ) (r : Row) (b : Bool) → row_of t n ≡ Some r → IsHeld t n → IsHeld t (end_of r b)
held-end t sound n r b is (inl small) = absurd (let none = constant-row t sound n small in let both : None ≡ Some r = sym none ∙ is in cc)
held-end t sound n r b is (inr (h, live, within)) = inr (
  h,
  live,
  λ m has.
      within m (contains_from m (reached t.order (row_of t) n)
      (reached-end t.order (row_of t) n m r b is (sound.reduced.rows.tested n r is) (sound.reduced.rows.ends_below n r b is) (in_from m (reached t.order (row_of t) (end_of r b)) has))),
)

-- what it leads to past a variable is held
pub held-step : (t : Table) → IsSound t → (n v : ℕ) (b : Bool) → IsHeld t n → IsHeld t (step (row_of t n) v n b)
held-step t sound n v b held = by (row_of t n) refl
  where
    by : (o : Option Row) → row_of t n ≡ o → IsHeld t (step o v n b)
    by None is = held
    by (Some r) is = within (v == r.var.0)
      where
        within : (c : Bool) → IsHeld t (cond c (end_of r b) n)
        within true = held-end t sound n r b is held
        within false = held

-- where a constant keeps its missing row, all that it reaches does
constant-keeps : (t u : Table) → IsSound t → IsSound u → (n : ℕ) → n < 2 → KeepsReached t.order (row_of t) (row_of u) n
constant-keeps t u sound sound' n small =
    All-weaker (λ m. m < 2) (λ m. row_of u m ≡ row_of t m) (λ m is. constant-row u sound' m is ∙ sym (constant-row t sound m is)) (reached t.order (row_of t) n)
    (reached-all (λ m. m < 2) t.order (row_of t) (λ m r b is at. absurd (let none = constant-row t sound m at in let both : None ≡ Some r = sym none ∙ is in cc)) n small)

-- what is held keeps all that it reaches
held-keeps : (t u : Table) → IsSound t → Keeps t u → ((h : ℕ) → IsLive t h → IsLive u h) → (n : ℕ) → IsHeld t n → KeepsReached t.order (row_of t) (row_of u) n
held-keeps t u sound keeps live n (inl small) = constant-keeps t u sound keeps.sound n small
held-keeps t u sound keeps live n (inr (h, is, within)) =
    All-weaker (Contains (reached t.order (row_of t) n)) (λ m. row_of u m ≡ row_of t m)
    (λ m has. All-contains (λ m. row_of u m ≡ row_of t m) (reached t.order (row_of t) h) m (keeps.kept_alive h is (live h is)) (within m has))
    (reached t.order (row_of t) n) (All-contains_itself (reached t.order (row_of t) n))

-- what is held stays
pub held-stays : (t u : Table) → IsSound t → Keeps t u → ((h : ℕ) → IsLive t h → IsLive u h) → (n : ℕ) → IsHeld t n → Stays t u n
held-stays t u sound keeps live n held =
    let kept = held-keeps t u sound keeps live n held in
    record {
      held = again held;
      row = All-contains (λ m. row_of u m ≡ row_of t m) (reached t.order (row_of t) n) n kept (reaches-itself t n);
      value = ap (λ (vs : List Var). let f : (ℕ → Bool) → Bool = λ a. value_in vs (row_of u) a n in f) keeps.order
          ∙ (λ j a. ap (λ (m : ℕ). m == 1) (follow-kept t.order (row_of t) (row_of u) a n kept) j);
    }
  where
    same : (m : ℕ) → KeepsReached t.order (row_of t) (row_of u) m → reached u.order (row_of u) m ≡ reached t.order (row_of t) m
    same m kept = ap (λ (vs : List Var). reached vs (row_of u) m) keeps.order ∙ reached-same t.order (row_of t) (row_of u) m kept

    again : IsHeld t n → IsHeld u n
    again (inl small) = inl small
    again (inr (h, is, within)) = inr (
      h,
      live h is,
      λ m has.
          subst (λ (ms : List ℕ). Contains ms m) (sym (same h (keeps.kept_alive h is (live h is))))
          (within m (subst (λ (ms : List ℕ). Contains ms m) (same n (held-keeps t u sound keeps live n (inr (h, is, within)))) has)),
    )
