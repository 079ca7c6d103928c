-- What cofactors and a last variable add at a level: nothing.
use Rattle.std.proofs.Common.{◌≡◌, ℕ, suc, zero, Bool, true, false, not, List, [], ◌∷◌, ◌++◌, filter, slice_get, Option, Some, None, is_some, refl, ap, sym, ◌∙◌, subst, inl, inr, arith}
use Rattle.std.specs.List.{AllByRecursion, flat_map}
use Rattle.std.specs.Set.{distinct_count}
use Rattle.std.proofs.lemmas.Bool.{true≢false}
use Rattle.std.proofs.lemmas.List.Elements.{recursion_from_All}
use Rattle.dd_store.specs.declared.row.Var.{Var}
use Rattle.dd_store.specs.Size.{Function, fixed, cofactors, cofactors_at, alike, depends_on, dependent}
use Rattle.dd_store.specs.SizeLaws.{IsFreeOf, CofactorsAddNothingAtLevels, LastVariableAddsNothingAtLevels}
use Rattle.dd_store.proofs.AlikeLemmas.{alike-same, alike-equivalence}
use Rattle.dd_store.proofs.FreeLemmas.{free-fixed, free-itself, free-same}
use Rattle.dd_store.proofs.LastLemmas.{alike-last, cofactors-free-of, all-both, map-itself}
use Rattle.dd_store.proofs.SizeLemmas.{In, in_from, in_parts, in_left, in_right, in_each, in_filter, from_filter, count_more, count_stands}

-- a function that doesn't depend on a variable is told so
free-told : (order : List Var) (u : ℕ) (f : Function) → IsFreeOf u f → depends_on order u f ≡ false
free-told order u f free =
    ap not (ap (λ (g : Function). alike order g (fixed f u true)) (free-same f u false free) ∙ ap (alike order f) (free-same f u true free) ∙ alike-same order f f (λ a. refl))

one-of : (P : Function → Type 0) (fs : List Function) (x : Function) → AllByRecursion P fs → In x fs → P x
one-of P [] x all none = absurd none
one-of P (f ∷ fs) x all (inl is) = subst P is all.0
one-of P (f ∷ fs) x all (inr rest) = one-of P fs x all.1 rest

-- what a cofactor gives at a level and depends on its variable, the function gives there
at-again : (order vs : List Var) (k : ℕ) (u : Var) → slice_get vs k ≡ Some u → (f c x : Function) → In c (cofactors vs f) → In x (cofactors_at k vs c)
    → depends_on order u.0 x ≡ true → In x (cofactors_at k vs f)
at-again order [] k u is f c x has at asks = absurd (true≢false (sym (ap is_some is)))
at-again order (v ∷ vs) k u is f c x (inl same) at asks = subst (λ g. In x (cofactors_at k (v ∷ vs) g)) (sym same) at
at-again order (v ∷ vs) zero u is f c x (inr rest) (inr none) asks = absurd none
at-again order (v ∷ vs) zero u is f c x (inr rest) (inl one) asks =
    let same : v ≡ u = cc in
    let free : (b : Bool) → In c (cofactors vs (fixed f v.0 b)) → IsFreeOf v.0 c
    = λ b i. one-of (IsFreeOf v.0) (cofactors vs (fixed f v.0 b)) c (cofactors-free-of v vs (fixed f v.0 b) (free-itself f v.0 b)) i in
    let is_free : IsFreeOf v.0 c = elim (in_parts c (cofactors vs (fixed f v.0 false)) (cofactors vs (fixed f v.0 true)) rest) [ inl low ↦ free false low | inr high ↦ free true high ] in
    let told = free-told order u.0 x (subst (λ (w : Var). IsFreeOf w.0 x) same (subst (IsFreeOf v.0) one is_free)) in
    absurd (true≢false (sym asks ∙ told))
at-again order (v ∷ vs) (suc k) u is f c x (inr rest) at asks =
    elim (in_parts c (cofactors vs (fixed f v.0 false)) (cofactors vs (fixed f v.0 true)) rest) [
      | inl low ↦ in_left x front back (at-again order vs k u is (fixed f v.0 false) c x low (later false low) asks)
      | inr high ↦ in_right x front back (at-again order vs k u is (fixed f v.0 true) c x high (later true high) asks)
    ]
  where
    front : List Function
    front = cofactors_at k vs (fixed f v.0 false)

    back : List Function
    back = cofactors_at k vs (fixed f v.0 true)

    later : (b : Bool) → In c (cofactors vs (fixed f v.0 b)) → In x (cofactors_at k vs c)
    later b i =
        let free = one-of (IsFreeOf v.0) (cofactors vs (fixed f v.0 b)) c (cofactors-free-of v vs (fixed f v.0 b) (free-itself f v.0 b)) i in
        elim (in_parts x (cofactors_at k vs (fixed c v.0 false)) (cofactors_at k vs (fixed c v.0 true)) at) [
          | inl low ↦ subst (λ g. In x (cofactors_at k vs g)) (free-same c v.0 false free) low
          | inr high ↦ subst (λ g. In x (cofactors_at k vs g)) (free-same c v.0 true free) high
        ]

-- the law on cofactors
pub cofactors-at-levels : CofactorsAddNothingAtLevels
cofactors-at-levels order fs f c i is of = by (slice_get order i) refl
  where
    count : Option Var → List Function → ℕ
    count o gs = distinct_count (alike order) (dependent order o (flat_map (cofactors_at i order) gs))

    by : (o : Option Var) → slice_get order i ≡ o → count o (c ∷ fs) ≡ count o fs
    by None e = refl
    by (Some u) e =
        let p = depends_on order u.0 in
        let more = flat_map (cofactors_at i order) (c ∷ fs) in
        let few = flat_map (cofactors_at i order) fs in
        let up = count_more (alike-equivalence order) (filter p more) (filter p few) (λ x has.
        let before = from_filter p x more has in
        in_filter p x few (elim (in_parts x (cofactors_at i order c) few before.0) [
          | inl new ↦ in_each (cofactors_at i order) f fs x (in_from f fs is) (at-again order order i u e f c x (in_from c (cofactors order f) of) new before.1)
          | inr old ↦ old
        ]) before.1) in
        let down = count_more (alike-equivalence order) (filter p few) (filter p more) (λ x has.
        let before = from_filter p x few has in
        in_filter p x more (in_right x (cofactors_at i order c) few before.0) before.1) in
        omega arith

-- a place of the order has the same variable in the longer one, and its end has the last
same-place : (vs : List Var) (v : Var) (i : ℕ) (u : Var) → slice_get vs i ≡ Some u → slice_get (vs ++ v ∷ []) i ≡ Some u
same-place [] v i u is = absurd (true≢false (sym (ap is_some is)))
same-place (w ∷ ws) v zero u is = is
same-place (w ∷ ws) v (suc i) u is = same-place ws v i u is

last-place : (vs : List Var) (v : Var) (i : ℕ) (u : Var) → slice_get vs i ≡ None → slice_get (vs ++ v ∷ []) i ≡ Some u → v ≡ u
last-place [] v zero u none is = cc
last-place [] v (suc i) u none is = absurd (true≢false (sym (ap is_some is)))
last-place (w ∷ ws) v zero u none is = absurd (true≢false (ap is_some none))
last-place (w ∷ ws) v (suc i) u none is = last-place ws v i u none is

-- before the end functions give the same
same-at : (vs : List Var) (v : Var) (i : ℕ) (u : Var) → slice_get vs i ≡ Some u → (f : Function) → cofactors_at i (vs ++ v ∷ []) f ≡ cofactors_at i vs f
same-at [] v i u is f = absurd (true≢false (sym (ap is_some is)))
same-at (w ∷ ws) v zero u is f = refl
same-at (w ∷ ws) v (suc i) u is f =
    ap (λ gs. gs ++ cofactors_at i (ws ++ v ∷ []) (fixed f w.0 true)) (same-at ws v i u is (fixed f w.0 false))
    ∙ ap (λ gs. cofactors_at i ws (fixed f w.0 false) ++ gs) (same-at ws v i u is (fixed f w.0 true))

same-all : (vs : List Var) (v : Var) (i : ℕ) (u : Var) → slice_get vs i ≡ Some u → (fs : List Function)
    → flat_map (cofactors_at i (vs ++ v ∷ [])) fs ≡ flat_map (cofactors_at i vs) fs
same-all vs v i u is [] = refl
same-all vs v i u is (f ∷ fs) =
    ap (λ gs. gs ++ flat_map (cofactors_at i (vs ++ v ∷ [])) fs) (same-at vs v i u is f)
    ∙ ap (λ gs. cofactors_at i vs f ++ gs) (same-all vs v i u is fs)

-- none of what is given depends on the variable
at-free : (v : ℕ) (i : ℕ) (vs : List Var) (f : Function) → IsFreeOf v f → AllByRecursion (IsFreeOf v) (cofactors_at i vs f)
at-free v zero vs f free = (free, tt)
at-free v (suc i) [] f free = tt
at-free v (suc i) (u ∷ us) f free =
    all-both (IsFreeOf v) (cofactors_at i us (fixed f u.0 false)) (cofactors_at i us (fixed f u.0 true))
    (at-free v i us (fixed f u.0 false) (free-fixed f u.0 false v free)) (at-free v i us (fixed f u.0 true) (free-fixed f u.0 true v free))

all-at-free : (v : ℕ) (i : ℕ) (vs : List Var) (fs : List Function) → AllByRecursion (IsFreeOf v) fs → AllByRecursion (IsFreeOf v) (flat_map (cofactors_at i vs) fs)
all-at-free v i vs [] free = tt
all-at-free v i vs (f ∷ fs) free = all-both (IsFreeOf v) (cofactors_at i vs f) (flat_map (cofactors_at i vs) fs) (at-free v i vs f free.0) (all-at-free v i vs fs free.1)

none-pass : (order : List Var) (v : ℕ) (fs : List Function) → AllByRecursion (IsFreeOf v) fs → filter (depends_on order v) fs ≡ []
none-pass order v [] free = refl
none-pass order v (f ∷ fs) free = rw (free-told order v f free.0) (none-pass order v fs free.1)

-- the law on a last variable
pub last-at-levels : LastVariableAddsNothingAtLevels
last-at-levels order v fs i all = by (slice_get order i) refl (slice_get order' i) refl
  where
    order' : List Var
    order' = order ++ v ∷ []

    free : AllByRecursion (IsFreeOf v.0) fs
    free = recursion_from_All (IsFreeOf v.0) fs all

    xs : List Function
    xs = flat_map (cofactors_at i order) fs

    xs' : List Function
    xs' = flat_map (cofactors_at i order') fs

    counted : (u : Var) → slice_get order i ≡ Some u
        → distinct_count (alike order') (filter (depends_on order' u.0) xs') ≡ distinct_count (alike order) (filter (depends_on order u.0) xs)
    counted u e =
        ap (λ (gs : List Function). distinct_count (alike order') (filter (depends_on order' u.0) gs)) (same-all order v i u e fs ∙ sym (map-itself xs))
        ∙ count_stands (IsFreeOf v.0) (λ (f : Function). f) (alike order) (alike order') (λ f g. alike-last v order f g) (depends_on order u.0) (depends_on order' u.0)
        (λ f free_f. ap not (alike-last v order (fixed f u.0 false) (fixed f u.0 true) (free-fixed f u.0 false v.0 free_f) (free-fixed f u.0 true v.0 free_f)))
        xs (all-at-free v.0 i order fs free)

    by : (o : Option Var) → slice_get order i ≡ o → (o' : Option Var) → slice_get order' i ≡ o'
        → distinct_count (alike order') (dependent order' o' xs') ≡ distinct_count (alike order) (dependent order o xs)
    by None e None e' = refl
    by None e (Some u) e' =
        let last : v ≡ u = last-place order v i u e e' in
        ap (λ (w : Var). distinct_count (alike order') (filter (depends_on order' w.0) xs')) (sym last)
        ∙ ap (distinct_count (alike order')) (none-pass order' v.0 xs' (all-at-free v.0 i order' fs free))
    by (Some u) e None e' = absurd (true≢false (ap is_some (sym (same-place order v i u e) ∙ e')))
    by (Some u) e (Some w) e' =
        let same : Some w ≡ Some u = sym e' ∙ same-place order v i u e in
        let var : w ≡ u = cc in
        ap (λ (x : Var). distinct_count (alike order') (filter (depends_on order' x.0) xs')) var ∙ counted u e
