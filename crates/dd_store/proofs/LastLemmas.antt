-- A last variable on which no function depends: functions give the same, and are alike as before.
use Rattle.std.proofs.Common.{◌≡◌, Bool, true, false, not, ◌||◌, ◌&&◌, List, [], ◌∷◌, ◌++◌, map, filter, refl, ap, sym, ◌∙◌, inl, inr, arith}
use Rattle.std.specs.List.{AllByRecursion, flat_map}
use Rattle.std.specs.Set.{distinct_count}
use Rattle.std.proofs.lemmas.List.Elements.{recursion_from_All}
use Rattle.dd_store.specs.declared.row.Var.{Var}
use Rattle.dd_store.specs.Size.{Function, fixed, cofactors, alike, is_constant}
use Rattle.dd_store.specs.SizeLaws.{IsFreeOf, LastVariableAddsNothing}
use Rattle.dd_store.proofs.AlikeLemmas.{alike-equivalence}
use Rattle.dd_store.proofs.FreeLemmas.{free-fixed, free-same}
use Rattle.dd_store.proofs.SizeLemmas.{In, in_parts, in_left, in_right, filter_same, count_more, count_stands}

pub all-both : {X : Type 0} (P : X → Type 0) (xs ys : List X) → AllByRecursion P xs → AllByRecursion P ys → AllByRecursion P (xs ++ ys)
all-both P [] ys front back = back
all-both P (x ∷ xs) ys front back = (front.0, all-both P xs ys front.1 back)

pub map-itself : {X : Type 0} (xs : List X) → map (λ x. x) xs ≡ xs
map-itself [] = refl
map-itself (x ∷ xs) = ap (λ ys. x ∷ ys) (map-itself xs)

module _ (v : Var) where
  pub alike-last : (vs : List Var) (f g : Function) → IsFreeOf v.0 f → IsFreeOf v.0 g → alike (vs ++ v ∷ []) f g ≡ alike vs f g
  alike-last [] f g free_f free_g =
      ap (λ (p : Function). alike [] p (fixed g v.0 false) && alike [] (fixed f v.0 true) (fixed g v.0 true)) (free-same f v.0 false free_f)
      ∙ ap (λ (p : Function). alike [] f p && alike [] (fixed f v.0 true) (fixed g v.0 true)) (free-same g v.0 false free_g)
      ∙ ap (λ (p : Function). alike [] f g && alike [] p (fixed g v.0 true)) (free-same f v.0 true free_f)
      ∙ ap (λ (p : Function). alike [] f g && alike [] f p) (free-same g v.0 true free_g)
      ∙ twice (alike [] f g)
    where
      twice : (b : Bool) → (b && b) ≡ b
      twice true = refl
      twice false = refl
  alike-last (u ∷ us) f g free_f free_g =
      let rest : (b : Bool) → alike (us ++ v ∷ []) (fixed f u.0 b) (fixed g u.0 b) ≡ alike us (fixed f u.0 b) (fixed g u.0 b)
      = λ b. alike-last us (fixed f u.0 b) (fixed g u.0 b) (free-fixed f u.0 b v.0 free_f) (free-fixed g u.0 b v.0 free_g) in
      ap (λ b. b && alike (us ++ v ∷ []) (fixed f u.0 true) (fixed g u.0 true)) (rest false)
      ∙ ap (λ b. alike us (fixed f u.0 false) (fixed g u.0 false) && b) (rest true)

  constant-last : (vs : List Var) (f : Function) → IsFreeOf v.0 f → not (is_constant (vs ++ v ∷ []) f) ≡ not (is_constant vs f)
  constant-last vs f free =
      ap (λ b. not (b || alike (vs ++ v ∷ []) f (λ _. true))) (alike-last vs f (λ _. false) free (λ a b. refl))
      ∙ ap (λ b. not (alike vs f (λ _. false) || b)) (alike-last vs f (λ _. true) free (λ a b. refl))

  -- what is given by fixing the variables before
  cofactors-before : (vs : List Var) (f x : Function) → IsFreeOf v.0 f → In x (cofactors (vs ++ v ∷ []) f) → In x (cofactors vs f)
  cofactors-before [] f x free (inl is) = inl is
  cofactors-before [] f x free (inr (inl is)) = inl (sym (free-same f v.0 false free) ∙ is)
  cofactors-before [] f x free (inr (inr (inl is))) = inl (sym (free-same f v.0 true free) ∙ is)
  cofactors-before [] f x free (inr (inr (inr none))) = absurd none
  cofactors-before (u ∷ us) f x free (inl is) = inl is
  cofactors-before (u ∷ us) f x free (inr rest) =
      let low = cofactors us (fixed f u.0 false) in
      let high = cofactors us (fixed f u.0 true) in
      elim (in_parts x (cofactors (us ++ v ∷ []) (fixed f u.0 false)) (cofactors (us ++ v ∷ []) (fixed f u.0 true)) rest) [
        | inl i ↦ inr (in_left x low high (cofactors-before us (fixed f u.0 false) x (free-fixed f u.0 false v.0 free) i))
        | inr i ↦ inr (in_right x low high (cofactors-before us (fixed f u.0 true) x (free-fixed f u.0 true v.0 free) i))
      ]

  cofactors-after : (vs : List Var) (f x : Function) → In x (cofactors vs f) → In x (cofactors (vs ++ v ∷ []) f)
  cofactors-after [] f x (inl is) = inl is
  cofactors-after [] f x (inr none) = absurd none
  cofactors-after (u ∷ us) f x (inl is) = inl is
  cofactors-after (u ∷ us) f x (inr rest) =
      let low = cofactors (us ++ v ∷ []) (fixed f u.0 false) in
      let high = cofactors (us ++ v ∷ []) (fixed f u.0 true) in
      elim (in_parts x (cofactors us (fixed f u.0 false)) (cofactors us (fixed f u.0 true)) rest) [
        | inl i ↦ inr (in_left x low high (cofactors-after us (fixed f u.0 false) x i))
        | inr i ↦ inr (in_right x low high (cofactors-after us (fixed f u.0 true) x i))
      ]

  all-before : (vs : List Var) (fs : List Function) → AllByRecursion (IsFreeOf v.0) fs → (x : Function)
      → In x (flat_map (cofactors (vs ++ v ∷ [])) fs) → In x (flat_map (cofactors vs) fs)
  all-before vs [] free x none = absurd none
  all-before vs (f ∷ fs) free x i = elim (in_parts x (cofactors (vs ++ v ∷ []) f) (flat_map (cofactors (vs ++ v ∷ [])) fs) i) [
    | inl here ↦ in_left x (cofactors vs f) (flat_map (cofactors vs) fs) (cofactors-before vs f x free.0 here)
    | inr rest ↦ in_right x (cofactors vs f) (flat_map (cofactors vs) fs) (all-before vs fs free.1 x rest)
  ]

  all-after : (vs : List Var) (fs : List Function) (x : Function) → In x (flat_map (cofactors vs) fs) → In x (flat_map (cofactors (vs ++ v ∷ [])) fs)
  all-after vs [] x none = absurd none
  all-after vs (f ∷ fs) x i = elim (in_parts x (cofactors vs f) (flat_map (cofactors vs) fs) i) [
    | inl here ↦ in_left x (cofactors (vs ++ v ∷ []) f) (flat_map (cofactors (vs ++ v ∷ [])) fs) (cofactors-after vs f x here)
    | inr rest ↦ in_right x (cofactors (vs ++ v ∷ []) f) (flat_map (cofactors (vs ++ v ∷ [])) fs) (all-after vs fs x rest)
  ]

  -- none of what is given depends on the variable
  pub cofactors-free-of : (vs : List Var) (f : Function) → IsFreeOf v.0 f → AllByRecursion (IsFreeOf v.0) (cofactors vs f)
  cofactors-free-of [] f free = (free, tt)
  cofactors-free-of (u ∷ us) f free = (
    free,
    all-both (IsFreeOf v.0) (cofactors us (fixed f u.0 false)) (cofactors us (fixed f u.0 true))
        (cofactors-free-of us (fixed f u.0 false) (free-fixed f u.0 false v.0 free))
        (cofactors-free-of us (fixed f u.0 true) (free-fixed f u.0 true v.0 free)),
  )

  all-free : (vs : List Var) (fs : List Function) → AllByRecursion (IsFreeOf v.0) fs → AllByRecursion (IsFreeOf v.0) (flat_map (cofactors vs) fs)
  all-free vs [] free = tt
  all-free vs (f ∷ fs) free =
      all-both (IsFreeOf v.0) (cofactors vs f) (flat_map (cofactors vs) fs) (cofactors-free-of vs f free.0) (all-free vs fs free.1)

-- the law
pub last-adds-nothing : LastVariableAddsNothing
last-adds-nothing order v fs all =
    let free = recursion_from_All (IsFreeOf v.0) fs all in
    let order' = order ++ v ∷ [] in
    let laws = alike-equivalence order in
    let varies : Function → Bool = λ f. not (is_constant order f) in
    let varies' : Function → Bool = λ f. not (is_constant order' f) in
    let xs = flat_map (cofactors order) fs in
    let xs' = flat_map (cofactors order') fs in
    let same = count_stands (IsFreeOf v.0) (λ (f : Function). f) (alike order) (alike order') (λ f g. alike-last v order f g) varies varies'
    (λ f. constant-last v order f) xs' (all-free v order' fs free) in
    let down = count_more laws (filter varies xs') (filter varies xs) (filter_same varies xs' xs (all-before v order fs free)) in
    let up = count_more laws (filter varies xs) (filter varies xs') (filter_same varies xs xs' (all-after v order fs)) in
    sym (ap (λ (ys : List Function). distinct_count (alike order') (filter varies' ys)) (map-itself xs')) ∙ same ∙ omega arith
