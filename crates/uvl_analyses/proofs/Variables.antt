-- Marks of features as an assignment of their variables.
use Rattle.std.proofs.Common.{◌≡◌, ◌<◌, ℕ, zero, suc, Bool, true, false, ◌==◌, cond, List, [], ◌∷◌, length, refl, sym, ap, ◌∙◌, arith}
use Rattle.std.specs.Prelude.{if◌then◌else◌}
use Rattle.std.proofs.lemmas.Bool.{eq-eqb, eqb-false, ne_eqb}
use Rattle.dd_store.specs.declared.row.Var.{Var}
use Rattle.dd_store.specs.Order.{level_in, IsDistinct}
use Rattle.uvl_functions.specs.Variables.{marks_under}
use Rattle.uvl_model.specs.Check.{is_marked}
use Rattle.uvl_model.specs.Spelling.{numbered}
use Rattle.uvl_semantics.specs.Family.{marked}
use Rattle.uvl_analyses.specs.Listed.{var_of}

-- the assignment that gives each of the variables its mark, and no to each other one
pub assignment_by : List Var → List Bool → ℕ → Bool
assignment_by [] marks v = false
assignment_by (w ∷ ws) [] v = false
assignment_by (w ∷ ws) (mark ∷ marks) v = cond (w.0 == v) mark (assignment_by ws marks v)

-- a variable that isn't among some is none of them
absent-tail : (w : Var) (ws : List Var) (v : ℕ) → level_in (w ∷ ws) v ≡ length (w ∷ ws) → (w.0 ≡ v → ⊥) × (level_in ws v ≡ length ws)
absent-tail w ws v absent = by (w.0 == v) refl absent
  where
    by : (t : Bool) → (w.0 == v) ≡ t → cond t 0 (suc (level_in ws v)) ≡ suc (length ws) → (w.0 ≡ v → ⊥) × (level_in ws v ≡ length ws)
    by true e absent' = absurd (omega arith)
    by false e absent' = (eqb-false w.0 v e, omega arith)

-- so two assignments that differ there alone give them the same marks
map-other : (f g : ℕ → Bool) (v : ℕ) → ((w : ℕ) → (w ≡ v → ⊥) → f w ≡ g w) → (ws : List Var) → level_in ws v ≡ length ws → marks_under ws f ≡ marks_under ws g
map-other f g v alike [] absent = refl
map-other f g v alike (w ∷ ws) absent =
    let parts = absent-tail w ws v absent in
    ap (λ (b : Bool). b ∷ marks_under ws f) (alike w.0 parts.0) ∙ ap (λ (bs : List Bool). g w.0 ∷ bs) (map-other f g v alike ws parts.1)

-- no marks mark nothing
marked-none : (names : List (List ℕ)) (vars : List Var) → marked names (marks_under vars (λ v. false)) ≡ []
marked-none [] vars = refl
marked-none (name ∷ names) [] = refl
marked-none (name ∷ names) (v ∷ vars) = marked-none names vars

marked-blank : (names : List (List ℕ)) (vars : List Var) (f : ℕ → Bool) → ((v : ℕ) → f v ≡ false) → marked names (marks_under vars f) ≡ []
marked-blank [] vars f none = refl
marked-blank (name ∷ names) [] f none = refl
marked-blank (name ∷ names) (v ∷ vars) f none = rw (none v.0) (marked-blank names vars f none)

-- the assignment of marks marks what they mark
pub marked-assignment_by : (names : List (List ℕ)) (vars : List Var) (marks : List Bool) → length vars ≡ length names → IsDistinct vars
    → marked names (marks_under vars (assignment_by vars marks)) ≡ marked names marks
unfolding assignment_by
marked-assignment_by [] vars marks even distinct = refl
marked-assignment_by (name ∷ names) [] marks even distinct = absurd (omega arith)
marked-assignment_by (name ∷ names) (w ∷ ws) [] even distinct = marked-blank (name ∷ names) (w ∷ ws) (assignment_by (w ∷ ws) []) (λ v. refl)
marked-assignment_by (name ∷ names) (w ∷ ws) (mark ∷ marks) even distinct =
    let a = assignment_by (w ∷ ws) (mark ∷ marks) in
    let here : a w.0 ≡ mark = ap (λ (b : Bool). cond b mark (assignment_by ws marks w.0)) (eq-eqb w.0 w.0 refl) in
    let elsewhere : (v : ℕ) → (v ≡ w.0 → ⊥) → a v ≡ assignment_by ws marks v = λ v other. ap (λ (b : Bool). cond b mark (assignment_by ws marks v)) (ne_eqb w.0 v (λ same. other (sym same))) in
    let rest = map-other a (assignment_by ws marks) w.0 elsewhere ws distinct.0 in
    ap (λ (b : Bool). marked (name ∷ names) (b ∷ marks_under ws a)) here
    ∙ ap (λ (bs : List Bool). marked (name ∷ names) (mark ∷ bs)) rest
    ∙ ap (λ (found : List (List ℕ)). if mark then name ∷ found else found) (marked-assignment_by names ws marks (omega arith) distinct.1)

-- the mark of a feature is the value of its variable
pub mark_at : (vars : List Var) (a : ℕ → Bool) (k : ℕ) → k < length vars → is_marked (marks_under vars a) (numbered k) ≡ a (var_of vars (numbered k))
mark_at [] a k within = absurd (omega arith)
mark_at (v ∷ vs) a zero within = refl
mark_at (v ∷ vs) a (suc k) within = mark_at vs a k (omega arith)
