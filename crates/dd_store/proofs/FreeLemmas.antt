-- Functions that don't depend on some variables: what they give, and how many different functions that are.
use Rattle.std.proofs.Common.{◌≡◌, ◌⊎◌, ℕ, suc, ◌+◌, ◌*◌, ◌^◌, ◌≤◌, Bool, true, false, not, cond, ◌||◌, ◌&&◌, ◌==◌, List, [], ◌∷◌, ◌++◌, length, filter, refl, ap, sym, ◌∙◌, subst, inl, inr, arith, length-append, suc-mul}
use native.Mathlib.Nat.{pow-suc}
use Rattle.std.specs.List.{flat_map}
use Rattle.std.specs.Bool.{beq}
use Rattle.std.proofs.lemmas.Bool.{eqb-true, eqb-false}
use Rattle.std.proofs.lemmas.Map.Made.{distinct_count-le}
use Rattle.std.proofs.lemmas.List.Elements.{filter-append}
use Rattle.dd_store.specs.declared.row.Var.{Var}
use Rattle.dd_store.specs.Follow.{with_value}
use Rattle.dd_store.specs.Size.{Function, fixed, cofactors, alike, is_constant, parts}
use Rattle.dd_store.specs.SizeLaws.{IsFreeOf, SizeIsBounded, CofactorsAddNothing}
use Rattle.dd_store.proofs.AlikeLemmas.{alike-same, alike-equivalence}
use Rattle.dd_store.proofs.SizeLemmas.{In, in_from, in_parts, in_left, in_right, in_each, filter_more, count_more, filter_same}

-- a variable that is given twice has the later value, and two variables may be given in either order
given-twice : (a : ℕ → Bool) (v : ℕ) (b x : Bool) (u : ℕ) → with_value (with_value a v x) v b u ≡ with_value a v b u
given-twice a v b x u = by (u == v)
  where
    by : (t : Bool) → cond t b (cond t x (a u)) ≡ cond t b (a u)
    by true = refl
    by false = refl

given-both : (a : ℕ → Bool) (v w : ℕ) (b x : Bool) → (v == w) ≡ false → (u : ℕ) → with_value (with_value a w x) v b u ≡ with_value (with_value a v b) w x u
given-both a v w b x other u = by (u == v) (u == w) refl refl
  where
    by : (s t : Bool) → (u == v) ≡ s → (u == w) ≡ t → cond s b (cond t x (a u)) ≡ cond t x (cond s b (a u))
    by true true e f = absurd (eqb-false v w other (sym (eqb-true u v e) ∙ eqb-true u w f))
    by true false e f = refl
    by false true e f = refl
    by false false e f = refl

-- a function with a variable fixed doesn't depend on it
pub free-itself : (f : Function) (v : ℕ) (b : Bool) → IsFreeOf v (fixed f v b)
free-itself f v b a x = ap f (λ j u. given-twice a v b x u j)

-- nor on one on which it didn't depend before
pub free-fixed : (f : Function) (v : ℕ) (b : Bool) (w : ℕ) → IsFreeOf w f → IsFreeOf w (fixed f v b)
free-fixed f v b w free a x = by (v == w) refl
  where
    by : (t : Bool) → (v == w) ≡ t → f (with_value (with_value a w x) v b) ≡ f (with_value a v b)
    by true e =
        let one : v ≡ w = eqb-true v w e in
        ap (λ k. f (with_value (with_value a k x) v b)) (sym one) ∙ free-itself f v b a x
    by false e = ap f (λ j u. given-both a v w b x e u j) ∙ free (with_value a v b) x

-- fixing it changes nothing
pub free-same : (f : Function) (v : ℕ) (b : Bool) → IsFreeOf v f → fixed f v b ≡ f
free-same f v b free = λ j a. free a b j

-- the variable is one of the list
abbrev Has : List Var → ℕ → Type 0
Has [] w = ⊥
Has (v ∷ vs) w = (v.0 ≡ w) ⊎ Has vs w

-- a function that depends on no variable of the order is constant
no-choice : (vs : List Var) (f : Function) → ((w : ℕ) → Has vs w → IsFreeOf w f) → (c : Bool) → f (λ _. false) ≡ c → alike vs f (λ _. c) ≡ true
no-choice [] f free c is = ap (λ b. beq b c) is ∙ alike-same [] (λ _. c) (λ _. c) (λ a. refl)
no-choice (v ∷ vs) f free c is =
    let rest = no-choice vs f (λ w has. free w (inr has)) c is in
    let here : (b : Bool) → alike vs (fixed f v.0 b) (λ _. c) ≡ true
    = λ b. ap (λ g. alike vs g (λ _. c)) (free-same f v.0 b (free v.0 (inl refl))) ∙ rest in
    ap (λ b. b && alike vs (fixed f v.0 true) (λ _. c)) (here false) ∙ here true

either : (b : Bool) → (b || true) ≡ true
either true = refl
either false = refl

constant-free : (order : List Var) (f : Function) → ((w : ℕ) → Has order w → IsFreeOf w f) → is_constant order f ≡ true
constant-free order f free = by (f (λ _. false)) refl
  where
    by : (c : Bool) → f (λ _. false) ≡ c → (alike order f (λ _. false) || alike order f (λ _. true)) ≡ true
    by false is = ap (λ b. b || alike order f (λ _. true)) (no-choice order f free false is)
    by true is = ap (λ b. alike order f (λ _. false) || b) (no-choice order f free true is) ∙ either (alike order f (λ _. false))

-- what passes of two lists, behind one more
abbrev passing : List Var → List Function → List Function
passing order = filter (λ f. not (is_constant order f))

passing-cons : (order : List Var) (f : Function) (fs : List Function) → length (passing order (f ∷ fs)) ≤ 1 + length (passing order fs)
passing-cons order f fs = by (not (is_constant order f))
  where
    by : (b : Bool) → length (cond b (f ∷ passing order fs) (passing order fs)) ≤ 1 + length (passing order fs)
    by true = omega arith
    by false = omega arith

passing-both : (order : List Var) (fs gs : List Function) → length (passing order (fs ++ gs)) ≡ length (passing order fs) + length (passing order gs)
passing-both order fs gs =
    ap length (filter-append (λ f. not (is_constant order f)) fs gs) ∙ length-append (passing order fs) (passing order gs)

power-more : (n : ℕ) → 2 ^ suc n ≡ 2 ^ n + 2 ^ n
power-more n = let twice = pow-suc 2 n in omega arith

-- a function that depends on no variable of the order but those of the rest has fewer parts than the rest has choices
few-parts : (order vs : List Var) (f : Function) → ((w : ℕ) → Has order w → IsFreeOf w f ⊎ Has vs w) → length (passing order (cofactors vs f)) + 1 ≤ 2 ^ length vs
few-parts order [] f free =
    let constant = constant-free order f (λ w has. elim (free w has) [ inl is ↦ is | inr none ↦ absurd none ]) in
    rw constant (omega arith)
few-parts order (v ∷ vs) f free =
    let low = few-parts order vs (fixed f v.0 false) (given false) in
    let high = few-parts order vs (fixed f v.0 true) (given true) in
    let both = passing-both order (cofactors vs (fixed f v.0 false)) (cofactors vs (fixed f v.0 true)) in
    let first = passing-cons order f (cofactors vs (fixed f v.0 false) ++ cofactors vs (fixed f v.0 true)) in
    let power = power-more (length vs) in
    omega arith
  where
    given : (b : Bool) (w : ℕ) → Has order w → IsFreeOf w (fixed f v.0 b) ⊎ Has vs w
    given b w has = elim (free w has) [
      | inl is ↦ inl (free-fixed f v.0 b w is)
      | inr (inl one) ↦ inl (subst (λ k. IsFreeOf k (fixed f v.0 b)) one (free-itself f v.0 b))
      | inr (inr rest) ↦ inr rest
    ]

few-all : (order : List Var) (fs : List Function) → length (parts order fs) ≤ length fs * 2 ^ length order
few-all order [] = omega arith
few-all order (f ∷ fs) =
    let one = few-parts order order f (λ w has. inr has) in
    let rest = few-all order fs in
    let both = passing-both order (cofactors order f) (flat_map (cofactors order) fs) in
    let more = suc-mul (length fs) (2 ^ length order) in
    omega arith

-- the first law
pub size-bounded : SizeIsBounded
size-bounded order fs =
    let few = few-all order fs in
    let different = distinct_count-le (alike order) (parts order fs) in
    omega arith

-- what a function gives by fixing variables on which it doesn't depend is itself
cofactors-free : (pre vs : List Var) (c x : Function) → ((w : ℕ) → Has pre w → IsFreeOf w c) → In x (cofactors (pre ++ vs) c) → In x (cofactors vs c)
cofactors-free [] vs c x free is = is
cofactors-free (w ∷ pre) vs c x free (inl is) = head vs (inl is)
  where
    head : (vs : List Var) → (c ≡ x) ⊎ ⊥ → In x (cofactors vs c)
    head [] i = i
    head (u ∷ us) (inl i) = inl i
    head (u ∷ us) (inr i) = absurd i
cofactors-free (w ∷ pre) vs c x free (inr rest) =
    let later : (b : Bool) → In x (cofactors (pre ++ vs) (fixed c w.0 b)) → In x (cofactors vs c)
    = λ b i. cofactors-free pre vs c x (λ u has. free u (inr has))
    (subst (λ g. In x (cofactors (pre ++ vs) g)) (free-same c w.0 b (free w.0 (inl refl))) i) in
    elim (in_parts x (cofactors (pre ++ vs) (fixed c w.0 false)) (cofactors (pre ++ vs) (fixed c w.0 true)) rest) [
      | inl low ↦ later false low
      | inr high ↦ later true high
    ]

-- a cofactor gives nothing but cofactors; `pre` are the variables fixed so far
pub cofactors-again : (pre vs : List Var) (f c x : Function) → ((w : ℕ) → Has pre w → IsFreeOf w f) → In c (cofactors vs f) → In x (cofactors (pre ++ vs) c)
    → In x (cofactors vs f)
cofactors-again pre [] f c x free (inl is) i =
    subst (λ g. In x (cofactors [] g)) (sym is)
    (cofactors-free pre [] c x (λ w has. subst (IsFreeOf w) is (free w has)) i)
cofactors-again pre [] f c x free (inr none) i = absurd none
cofactors-again pre (v ∷ vs) f c x free (inl is) i =
    subst (λ g. In x (cofactors (v ∷ vs) g)) (sym is)
    (cofactors-free pre (v ∷ vs) c x (λ w has. subst (IsFreeOf w) is (free w has)) i)
cofactors-again pre (v ∷ vs) f c x free (inr rest) i =
    elim (in_parts c (cofactors vs (fixed f v.0 false)) (cofactors vs (fixed f v.0 true)) rest) [
      | inl low ↦ inr (in_left x (cofactors vs (fixed f v.0 false)) (cofactors vs (fixed f v.0 true))
          (cofactors-again (pre ++ v ∷ []) vs (fixed f v.0 false) c x (given false) low (moved i)))
      | inr high ↦ inr (in_right x (cofactors vs (fixed f v.0 false)) (cofactors vs (fixed f v.0 true))
          (cofactors-again (pre ++ v ∷ []) vs (fixed f v.0 true) c x (given true) high (moved i)))
    ]
  where
    has_last : (us : List Var) (w : ℕ) → Has (us ++ v ∷ []) w → Has us w ⊎ (v.0 ≡ w)
    has_last [] w (inl one) = inr one
    has_last [] w (inr none) = absurd none
    has_last (u ∷ us) w (inl one) = inl (inl one)
    has_last (u ∷ us) w (inr h) = elim (has_last us w h) [ inl before ↦ inl (inr before) | inr one ↦ inr one ]

    given : (b : Bool) (w : ℕ) → Has (pre ++ v ∷ []) w → IsFreeOf w (fixed f v.0 b)
    given b w has = elim (has_last pre w has) [
      | inl before ↦ free-fixed f v.0 b w (free w before)
      | inr one ↦ subst (λ k. IsFreeOf k (fixed f v.0 b)) one (free-itself f v.0 b)
    ]

    regroup : (us : List Var) → us ++ v ∷ vs ≡ (us ++ v ∷ []) ++ vs
    regroup [] = refl
    regroup (u ∷ us) = ap (λ ws. u ∷ ws) (regroup us)

    moved : In x (cofactors (pre ++ v ∷ vs) c) → In x (cofactors ((pre ++ v ∷ []) ++ vs) c)
    moved h = subst (λ ws. In x (cofactors ws c)) (regroup pre) h

-- the second law
pub cofactors-add-nothing : CofactorsAddNothing
cofactors-add-nothing order fs f c is of =
    let laws = alike-equivalence order in
    let varies : Function → Bool = λ g. not (is_constant order g) in
    let up = count_more laws (parts order (c ∷ fs)) (parts order fs)
    (filter_same varies (flat_map (cofactors order) (c ∷ fs)) (flat_map (cofactors order) fs) (λ x i. elim (in_parts x (cofactors order c) (flat_map (cofactors order) fs) i) [
      | inl new ↦ in_each (cofactors order) f fs x (in_from f fs is) (cofactors-again [] order f c x (λ w none. absurd none) (in_from c (cofactors order f) of) new)
      | inr old ↦ old
    ])) in
    let down = count_more laws (parts order fs) (parts order (c ∷ fs))
    (filter_more varies (cofactors order) fs (c ∷ fs) (λ x i. inr i)) in
    omega arith
