-- Cofactors of functions, and of cofactors.
use Rattle.std.proofs.Common.{◌≡◌, ◌≤◌, ℕ, suc, ◌<◌, Bool, true, false, cond, ◌==◌, List, [], ◌∷◌, ◌++◌, length, refl, ap, sym, ◌∙◌, subst, inl, inr, arith, ◌≢◌, Option, Some, None}
use Rattle.std.proofs.lemmas.Bool.{eqb-true, eqb-false, eq-eqb}
use Rattle.dd_store.specs.declared.row.Row.{Row}
use Rattle.dd_store.specs.declared.row.Var.{Var}
use Rattle.dd_store.specs.Follow.{end_of, step, value_in, with_value}
use Rattle.dd_store.specs.Order.{level_in, level_of_row, IsIn}
use Rattle.dd_store.specs.Size.{Function, fixed, cofactors, size}
use Rattle.dd_store.specs.SizeLaws.{IsFreeOf, IsOwnCofactor, CofactorsCompose, FixedIsCofactor, FixedFollows}
use Rattle.dd_store.proofs.SizeLemmas.{In, in_from, contains_from, in_left, in_right}
use Rattle.dd_store.proofs.FollowLemmas.{follow-none}
use Rattle.dd_store.proofs.TopLemmas.{past, follow-above}
use Rattle.dd_store.proofs.FreeLemmas.{cofactors-again, free-same, cofactors-add-nothing}

own : (order : List Var) (f : Function) → In f (cofactors order f)
own [] f = inl refl
own (v ∷ vs) f = inl refl

pub own-cofactor : IsOwnCofactor
own-cofactor order f = contains_from f (cofactors order f) (own order f)

pub cofactors-compose : CofactorsCompose
cofactors-compose order f g h one two =
    contains_from h (cofactors order f)
    (cofactors-again [] order f g h (λ w none. absurd none) (in_from g (cofactors order f) one) (in_from h (cofactors order g) two))

-- a cofactor by the first variable
first : (v : Var) (vs : List Var) (f x : Function) (b : Bool) → In x (cofactors vs (fixed f v.0 b)) → In x (cofactors (v ∷ vs) f)
first v vs f x true is = inr (in_right x (cofactors vs (fixed f v.0 false)) (cofactors vs (fixed f v.0 true)) is)
first v vs f x false is = inr (in_left x (cofactors vs (fixed f v.0 false)) (cofactors vs (fixed f v.0 true)) is)

fixed-in : (order : List Var) (f : Function) (v : ℕ) (b : Bool) → IsIn order v → ((w : ℕ) → level_in order w < level_in order v → IsFreeOf w f)
    → In (fixed f v b) (cofactors order f)
fixed-in [] f v b inside free = absurd (omega arith)
fixed-in (u ∷ us) f v b inside free = by (u.0 == v) refl inside free (fixed-in us f v b)
  where
    by : (t : Bool) → (u.0 == v) ≡ t → cond t 0 (suc (level_in us v)) < suc (length us)
        → ((w : ℕ) → level_in (u ∷ us) w < cond t 0 (suc (level_in us v)) → IsFreeOf w f)
        → (IsIn us v → ((w : ℕ) → level_in us w < level_in us v → IsFreeOf w f) → In (fixed f v b) (cofactors us f))
        → In (fixed f v b) (cofactors (u ∷ us) f)
    by true same inside free rest =
        let one : u.0 ≡ v = eqb-true u.0 v same in
        first u us f (fixed f v b) b (subst (λ (w : ℕ). In (fixed f v b) (cofactors us (fixed f w b))) (sym one) (own us (fixed f v b)))
    by false other inside free rest =
        let none : level_in (u ∷ us) u.0 ≡ 0 = ap (λ (t : Bool). cond t 0 (suc (level_in us u.0))) (eq-eqb u.0 u.0 refl) in
        let same : fixed f u.0 false ≡ f = free-same f u.0 false (free u.0 (omega arith)) in
        first u us f (fixed f v b) false
        (subst (λ (g : Function). In (fixed f v b) (cofactors us g)) (sym same) (rest (omega arith) (λ w above. free w (lower (u.0 == w) w above))))
      where
        lower : (t : Bool) (w : ℕ) → level_in us w < level_in us v → cond t 0 (suc (level_in us w)) < suc (level_in us v)
        lower true w above = omega arith
        lower false w above = omega arith

pub fixed-cofactor : FixedIsCofactor
fixed-cofactor order f v b inside free = contains_from (fixed f v b) (cofactors order f) (fixed-in order f v b inside free)

-- all cofactors together add nothing
pub cofactors-all : (order : List Var) (f : Function) (fs cs : List Function) → In f fs → ((c : Function) → In c cs → In c (cofactors order f))
    → size order (cs ++ fs) ≡ size order fs
cofactors-all order f fs [] there of = refl
cofactors-all order f fs (c ∷ cs) there of =
    cofactors-add-nothing order (cs ++ fs) f c (contains_from f (cs ++ fs) (in_right f cs fs there)) (contains_from c (cofactors order f) (of c (inl refl)))
    ∙ cofactors-all order f fs cs there (λ x is. of x (inr is))

-- two variables of one level are the same
same-level : (vs : List Var) (v w : ℕ) → IsIn vs v → level_in vs v ≡ level_in vs w → v ≡ w
same-level [] v w inside same = absurd (omega arith)
same-level (u ∷ us) v w inside same = by (u.0 == v) (u.0 == w) refl refl inside same (same-level us v w)
  where
    by : (s t : Bool) → (u.0 == v) ≡ s → (u.0 == w) ≡ t → cond s 0 (suc (level_in us v)) < suc (length us)
        → cond s 0 (suc (level_in us v)) ≡ cond t 0 (suc (level_in us w)) → (IsIn us v → level_in us v ≡ level_in us w → v ≡ w) → v ≡ w
    by true true e f inside same rest = sym (eqb-true u.0 v e) ∙ eqb-true u.0 w f
    by true false e f inside same rest = absurd (omega arith)
    by false true e f inside same rest = absurd (omega arith)
    by false false e f inside same rest = rest (omega arith) (omega arith)

pub fixed-follows : FixedFollows
fixed-follows order rows reduced n v b above = λ j a. by (rows n) refl above a j
  where
    none : rows n ≡ None → (a : ℕ → Bool) → value_in order rows (with_value a v b) n ≡ value_in order rows a n
    none is a = ap (λ (k : ℕ). k == 1) (follow-none order rows (with_value a v b) n is ∙ sym (follow-none order rows a n is))

    by : (o : Option Row) → rows n ≡ o → level_in order v ≤ level_of_row order o → (a : ℕ → Bool)
        → value_in order rows (with_value a v b) n ≡ value_in order rows a (step o v n b)
    by None is high a = none is a
    by (Some r) is high a = within (v == r.var.0) refl
      where
        within : (t : Bool) → (v == r.var.0) ≡ t → value_in order rows (with_value a v b) n ≡ value_in order rows a (cond t (end_of r b) n)
        within true own =
            let one : r.var.0 ≡ v = sym (eqb-true v r.var.0 own) in
            subst (λ (w : ℕ). value_in order rows (with_value a w b) n ≡ value_in order rows a (end_of r b)) one (past order rows reduced n r a b is)
        within false other =
            let tested = reduced.tested n r is in
            let apart : level_in order r.var.0 ≢ level_in order v = λ same. eqb-false v r.var.0 other (sym (same-level order r.var.0 v tested same)) in
            let lower : level_in order v < level_of_row order (rows n) = subst (λ (o : Option Row). level_in order v < level_of_row order o) (sym is) (strictly (level_in order v) (level_in order r.var.0) high apart) in
            ap (λ (k : ℕ). k == 1) (follow-above order rows a v b n reduced.distinct lower)
          where
            strictly : (l k : ℕ) → l ≤ k → k ≢ l → l < k
            strictly l k at_most other' = omega arith
