-- Levels and values: a node doesn't depend on the variables above it, and depends on its own.
use Rattle.std.proofs.Common.{◌≡◌, ℕ, suc, ◌<◌, ◌≤◌, Bool, true, false, cond, ◌==◌, List, [], ◌∷◌, length, Option, Some, None, refl, ap, sym, ◌∙◌, subst, inl, inr, arith}
use Rattle.std.proofs.lemmas.Bool.{cases_lt, eqb-true, eq-eqb}
use Rattle.dd_store.specs.declared.row.Row.{Row}
use Rattle.dd_store.specs.declared.row.Var.{Var}
use Rattle.dd_store.specs.Order.{level_in, level_of_row, IsDistinct}
use Rattle.dd_store.specs.Follow.{end_of, follow, value_in, with_value}
use Rattle.dd_store.specs.Table.{AreReduced}
use Rattle.dd_store.specs.Law.{DependsOnNoneAbove, ValuesTellLevels}
use Rattle.dd_store.proofs.FollowLemmas.{step-stays, level-stays, follow-node, follow-with_value}
use Rattle.dd_store.proofs.Canonical.{canonical}

-- a variable above a node has no say
pub follow-above : (vs : List Var) (rows : ℕ → Option Row) (a : ℕ → Bool) (v : ℕ) (b : Bool) (n : ℕ) → IsDistinct vs
    → level_in vs v < level_of_row vs (rows n) → follow vs rows (with_value a v b) n ≡ follow vs rows a n
follow-above [] rows a v b n distinct above = refl
follow-above (w ∷ ws) rows a v b n distinct above =
    let lower : 0 < level_of_row (w ∷ ws) (rows n) = omega arith in
    let level : level_of_row (w ∷ ws) (rows n) ≡ suc (level_of_row ws (rows n)) = level-stays w ws (rows n) lower in
    ap (follow ws rows (with_value a v b)) (step-stays w ws (rows n) n (with_value a v b w.0) lower)
    ∙ by (w.0 == v) refl (omega arith) (follow-above ws rows a v b n distinct.1)
    ∙ sym (ap (follow ws rows a) (step-stays w ws (rows n) n (a w.0) lower))
  where
    by : (t : Bool) → (w.0 == v) ≡ t → cond t 0 (suc (level_in ws v)) < suc (level_of_row ws (rows n))
        → (level_in ws v < level_of_row ws (rows n) → follow ws rows (with_value a v b) n ≡ follow ws rows a n)
        → follow ws rows (with_value a v b) n ≡ follow ws rows a n
    by true e above' rest =
        let absent : level_in ws v ≡ length ws = subst (λ (k : ℕ). level_in ws k ≡ length ws) (eqb-true w.0 v e) distinct.0 in
        follow-with_value ws rows a v b n absent
    by false e above' rest = rest (omega arith)

module _ (order : List Var) (rows : ℕ → Option Row) (reduced : AreReduced order rows) where
  -- past its own variable a node has the value of an end, whatever the variable was
  pub past : (n : ℕ) (r : Row) (a : ℕ → Bool) (b : Bool) → rows n ≡ Some r
      → value_in order rows (with_value a r.var.0 b) n ≡ value_in order rows a (end_of r b)
  past n r a b is =
      let given = with_value a r.var.0 b in
      let same : given r.var.0 ≡ b = rw (eq-eqb r.var.0 r.var.0 refl) refl in
      let below = reduced.ends_below n r b is in
      let lower = subst (λ (x : Bool). level_in order r.var.0 < level_of_row order (rows (end_of r x))) (sym same) below in
      ap (λ (m : ℕ). m == 1)
      (follow-node order rows given n r is (reduced.tested n r is) lower
      ∙ ap (λ (x : Bool). follow order rows given (end_of r x)) same
      ∙ follow-above order rows a r.var.0 b (end_of r b) reduced.distinct below)

  -- so one that depends on no variable above a level doesn't stand above it
  stands : (n l : ℕ) → l ≤ length order → DependsOnNoneAbove order rows l n → (o : Option Row) → rows n ≡ o → l ≤ level_of_row order o
  stands n l within none None is = within
  stands n l within none (Some r) is = elim (cases_lt (level_in order r.var.0) l) [
    | inr past ↦ past
    | inl higher ↦ absurd (reduced.ends_differ n r is
        (canonical order rows reduced r.low.0 r.high.0 (reduced.ends_there n r false is) (reduced.ends_there n r true is)
        (λ a. sym (past n r a false is) ∙ none r.var.0 higher a false ∙ sym (none r.var.0 higher a true) ∙ past n r a true is)))
  ]

-- the law
pub tell-levels : ValuesTellLevels
tell-levels order rows reduced n l there within = (
  (λ low v above a b. ap (λ (m : ℕ). m == 1) (follow-above order rows a v b n reduced.distinct (omega arith))),
  (λ none. stands order rows reduced n l within none (rows n) refl),
)
