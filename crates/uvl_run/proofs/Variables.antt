-- Assignments of variables as marks of features.
use Rattle.std.proofs.Common.{◌≡◌, ◌<◌, ℕ, zero, suc, Bool, true, false, ◌==◌, cond, List, [], ◌∷◌, length, set, slice_get, Some, refl, sym, ap, ◌∙◌, arith}
use Rattle.std.proofs.lemmas.Bool.{eqb-false}
use Rattle.std.proofs.lemmas.List.{get_or-set_same, get_or-set_other}
use Rattle.std.proofs.lemmas.Option.{same_Some, none-some}
use Rattle.dd_store.specs.declared.row.Var.{Var}
use Rattle.dd_store.specs.Follow.{assignment_of}
use Rattle.dd_store.specs.Order.{level_in, IsDistinct}
use Rattle.uvl_functions.specs.Variables.{marks_under}

-- a variable that isn't among some is none of them
absent-tail : (w : Var) (ws : List Var) (v : ℕ) → level_in (w ∷ ws) v ≡ length (w ∷ ws) → (w.0 ≡ v → ⊥) × (level_in ws v ≡ length ws)
absent-tail w ws v absent = by (w.0 == v) refl absent
  where
    by : (t : Bool) → (w.0 == v) ≡ t → cond t 0 (suc (level_in ws v)) ≡ suc (length ws) → (w.0 ≡ v → ⊥) × (level_in ws v ≡ length ws)
    by true e absent' = absurd (omega arith)
    by false e absent' = (eqb-false w.0 v e, omega arith)

-- so two assignments that differ there alone give them the same marks
map-other : (f g : ℕ → Bool) (v : ℕ) → ((w : ℕ) → (w ≡ v → ⊥) → f w ≡ g w) → (ws : List Var) → level_in ws v ≡ length ws → marks_under ws f ≡ marks_under ws g
map-other f g v alike [] absent = refl
map-other f g v alike (w ∷ ws) absent =
    let parts = absent-tail w ws v absent in
    ap (λ (b : Bool). b ∷ marks_under ws f) (alike w.0 parts.0) ∙ ap (λ (bs : List Bool). g w.0 ∷ bs) (map-other f g v alike ws parts.1)

-- a variable of a list is in it
present : (ws : List Var) (k : ℕ) (w : Var) → slice_get ws k ≡ Some w → level_in ws w.0 ≡ length ws → ⊥
present [] k w at absent = absurd (none-some w at)
present (x ∷ xs) zero w at absent = (absent-tail x xs w.0 absent).0 (ap (λ (v : Var). v.0) (same_Some x w at))
present (x ∷ xs) (suc k) w at absent = present xs k w at (absent-tail x xs w.0 absent).1

-- where the variable of one feature is set, its mark is
pub marks_under-set : (vars : List Var) (marks : List Bool) (k : ℕ) (w : Var) → IsDistinct vars → slice_get vars k ≡ Some w → w.0 < length marks
    → marks_under vars (assignment_of (set marks w.0 true)) ≡ set (marks_under vars (assignment_of marks)) k true
marks_under-set [] marks k w distinct at within = absurd (none-some w at)
marks_under-set (v ∷ vs) marks zero w distinct at within =
    let same : v.0 ≡ w.0 = ap (λ (x : Var). x.0) (same_Some v w at) in
    let f = assignment_of (set marks w.0 true) in
    let here : f v.0 ≡ true = ap f same ∙ get_or-set_same marks w.0 true false within in
    let elsewhere : (x : ℕ) → (x ≡ v.0 → ⊥) → f x ≡ assignment_of marks x = λ x other. get_or-set_other marks w.0 x true false (λ e. other (e ∙ sym same)) in
    ap (λ (b : Bool). b ∷ marks_under vs f) here ∙ ap (λ (bs : List Bool). true ∷ bs) (map-other f (assignment_of marks) v.0 elsewhere vs distinct.0)
marks_under-set (v ∷ vs) marks (suc k) w distinct at within =
    let f = assignment_of (set marks w.0 true) in
    let other : v.0 ≡ w.0 → ⊥ = λ same. present vs k w at (ap (level_in vs) (sym same) ∙ distinct.0) in
    let here : f v.0 ≡ assignment_of marks v.0 = get_or-set_other marks w.0 v.0 true false other in
    ap (λ (b : Bool). b ∷ marks_under vs f) here ∙ ap (λ (bs : List Bool). assignment_of marks v.0 ∷ bs) (marks_under-set vs marks k w distinct.1 at within)
