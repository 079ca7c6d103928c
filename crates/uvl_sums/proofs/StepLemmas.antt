-- The terms of a sum by the levels of their variables, sorted, and the steps made of them.
use Rattle.std.proofs.Common.{◌≡◌, ◌==◌, ℕ, zero, suc, ◌+◌, ◌^◌, ◌<◌, ◌≤◌, ℤ, pos, Vec, Global, negsuc, ◌+ℤ◌, Bool, true, false, if◌then◌else◌, List, [], ◌∷◌, ◌++◌, length, map, reverse, take, drop, get_or, refl, ap, sym, ◌∙◌, subst, arith}
use Rattle.std.specs.Int.{int_min, int_max}
use Rattle.std.specs.List.{All, sum_by}
use Rattle.std.specs.List.Sorted.{IsPermutation, IsNonDecreasingBy}
use Rattle.std.specs.Prelude.{unsigned_abs}
use Rattle.std.proofs.lemmas.Int.{ints}
use Rattle.std.proofs.lemmas.List.{take_more, drop_more, drop_all, map-append, length-map, get_or-map, reverse-append}
use Rattle.std.proofs.lemmas.List.Elements.{All-head, All-tail, All-cons, All-nil}
use Rattle.std.proofs.lemmas.List.Sorted.{All-permutation, IsPermutation-map, sum_by-IsPermutation}
use Rattle.std.proofs.lemmas.List.Sums.{sum_by-cons}
use Rattle.dd_store.specs.declared.row.Var.{Var}
use Rattle.dd_store.specs.Order.{level_in, IsIn, IsDistinct}
use Rattle.dd_count.specs.Levels.{variable_on, IsFallingFrom}
use Rattle.dd_count.proofs.CountedLemmas.{level-on}
use Rattle.dd_count.proofs.LevelsLemmas.{levels_in, on-levels, once, falling}
use Rattle.uvl_sums.specs.declared.linear.Cmp3.{Cmp3}
use Rattle.uvl_sums.specs.declared.steps.Step.{Step}
use Rattle.uvl_sums.specs.Steps.{term_of, terms_of, levels_of, terms_on, least_total, greatest_total, HaveBounds, ArePlaced, ArePlanned, IsPlanOf, meets}
use Rattle.uvl_sums.specs.Sums.{Term, total, size_of, variables_of, compares}
use Rattle.uvl_sums.proofs.TotalLemmas.{AreBounds, bounds-are, size-cons}

-- the level of a term's variable, with its weight
abbrev pub placed_of : List Var → List Term → List (ℕ × ℤ)
placed_of order terms = map (λ (t : Term). (level_in order t.0.0, t.1)) terms

-- one more is placed
pub placed-more : (order : List Var) (terms : List Term) (i : ℕ) (d : Term) (old new : List (ℕ × ℤ)) (l : ℕ) (w : ℤ) → i < length terms
    → new ≡ old ++ (l, w) ∷ [] → old ≡ placed_of order (take i terms) → l ≡ level_in order (get_or terms i d).0.0 → w ≡ (get_or terms i d).1
    → new ≡ placed_of order (take (i + 1) terms)
placed-more order terms i d old new l w inside is before level weight =
    is ∙ ap (λ (ps : List (ℕ × ℤ)). ps ++ (l, w) ∷ []) before
    ∙ ap (λ (k : ℕ). placed_of order (take i terms) ++ (k, w) ∷ []) level
    ∙ ap (λ (z : ℤ). placed_of order (take i terms) ++ (level_in order (get_or terms i d).0.0, z) ∷ []) weight
    ∙ sym (map-append (λ (t : Term). (level_in order t.0.0, t.1)) (take i terms) (get_or terms i d ∷ []))
    ∙ ap (placed_of order) (sym (take_more terms i d inside))

-- on the level of a variable stands the variable
on-places : (order : List Var) (terms : List Term) → All (λ (v : Var). IsIn order v.0) (variables_of terms) → terms_on order (placed_of order terms) ≡ terms
on-places order [] inside = refl
on-places order (t ∷ ts) inside =
    let P : Var → Type 0 = λ (v : Var). IsIn order v.0 in
    let one : variable_on order (level_in order t.0.0) ≡ t.0 = first (on-levels order (t.0 ∷ []) (All-cons P t.0 [] (All-head P t.0 (variables_of ts) inside) (All-nil P))) in
    ap (λ (v : Var). let u : Term = (v, t.1) in u ∷ terms_on order (placed_of order ts)) one
    ∙ ap (λ (us : List Term). t ∷ us) (on-places order ts (All-tail P t.0 (variables_of ts) inside))
  where
    first : (variable_on order (level_in order t.0.0) ∷ []) ≡ (t.0 ∷ []) → variable_on order (level_in order t.0.0) ≡ t.0
    first is = ap (λ (vs : List Var). get_or vs 0 t.0) is

-- what a term adds above 0, and below
abbrev above : ℤ → ℕ
above (pos n) = n
above (negsuc n) = 0

abbrev beneath : ℤ → ℕ
beneath (pos n) = 0
beneath (negsuc n) = suc n

abbrev gain : (ℕ → Bool) → Term → ℕ
gain a t = if a t.0.0 then above t.1 else 0

abbrev loss : (ℕ → Bool) → Term → ℕ
loss a t = if a t.0.0 then beneath t.1 else 0

one-more : (b : Bool) (w z : ℤ) (l g : ℕ) → (z +ℤ pos l) ≡ pos g
    → (((if b then w else pos 0) +ℤ z) +ℤ pos ((if b then beneath w else 0) + l)) ≡ pos ((if b then above w else 0) + g)
one-more true (pos n) z l g is = omega (arith, ints)
one-more true (negsuc n) z l g is = omega (arith, ints)
one-more false w z l g is = omega (arith, ints)

-- so a total is a difference of two sums
in-two : (terms : List Term) (a : ℕ → Bool) → (total terms a +ℤ pos (sum_by (loss a) terms)) ≡ pos (sum_by (gain a) terms)
in-two [] a = refl
in-two (t ∷ ts) a =
    ap (λ (n : ℕ). total (t ∷ ts) a +ℤ pos n) (sum_by-cons (loss a) t ts)
    ∙ one-more (a t.0.0) t.1 (total ts a) (sum_by (loss a) ts) (sum_by (gain a) ts) (in-two ts a)
    ∙ ap pos (sym (sum_by-cons (gain a) t ts))

from-two : (y z : ℤ) (l g m h : ℕ) → (y +ℤ pos l) ≡ pos g → (z +ℤ pos m) ≡ pos h → m ≡ l → h ≡ g → z ≡ y
from-two y z l g m h one two less more = omega (arith, ints)

-- the order of the terms makes no difference
pub total-permutation : (xs ys : List Term) (a : ℕ → Bool) → IsPermutation xs ys → total ys a ≡ total xs a
total-permutation xs ys a moved =
    from-two (total xs a) (total ys a) (sum_by (loss a) xs) (sum_by (gain a) xs) (sum_by (loss a) ys) (sum_by (gain a) ys) (in-two xs a) (in-two ys a)
    (sum_by-IsPermutation (loss a) xs ys moved) (sum_by-IsPermutation (gain a) xs ys moved)

-- levels of what stands on levels
levels-on : (order : List Var) → IsDistinct order → (ps : List (ℕ × ℤ)) → All (λ (p : ℕ × ℤ). p.0 < length order) ps
    → levels_of order (terms_on order ps) ≡ map (λ (p : ℕ × ℤ). p.0) ps
levels-on order distinct [] inside = refl
levels-on order distinct (p ∷ ps) inside =
    let P : ℕ × ℤ → Type 0 = λ (p : ℕ × ℤ). p.0 < length order in
    ap (λ (l : ℕ). l ∷ levels_of order (terms_on order ps)) (level-on order distinct p.0 (All-head P p ps inside))
    ∙ ap (λ (ls : List ℕ). p.0 ∷ ls) (levels-on order distinct ps (All-tail P p ps inside))

there-on : (order : List Var) → IsDistinct order → (ps : List (ℕ × ℤ)) → All (λ (p : ℕ × ℤ). p.0 < length order) ps
    → All (λ (t : Term). IsIn order t.0.0) (terms_on order ps)
there-on order distinct [] inside = All-nil (λ (t : Term). IsIn order t.0.0)
there-on order distinct (p ∷ ps) inside =
    let P : ℕ × ℤ → Type 0 = λ (p : ℕ × ℤ). p.0 < length order in
    let here : p.0 < length order = All-head P p ps inside in
    let level = level-on order distinct p.0 here in
    All-cons (λ (t : Term). IsIn order t.0.0) (variable_on order p.0, p.1) (terms_on order ps) (omega arith) (there-on order distinct ps (All-tail P p ps inside))

-- the levels of terms are those of their variables
levels-placed : (order : List Var) (terms : List Term) → map (λ (p : ℕ × ℤ). p.0) (placed_of order terms) ≡ levels_in order (variables_of terms)
levels-placed order [] = refl
levels-placed order (t ∷ ts) = ap (λ (ls : List ℕ). level_in order t.0.0 ∷ ls) (levels-placed order ts)

inside-placed : (order : List Var) (terms : List Term) → All (λ (v : Var). IsIn order v.0) (variables_of terms) → All (λ (p : ℕ × ℤ). p.0 < length order) (placed_of order terms)
inside-placed order [] all = All-nil (λ (p : ℕ × ℤ). p.0 < length order)
inside-placed order (t ∷ ts) all =
    let P : Var → Type 0 = λ (v : Var). IsIn order v.0 in
    All-cons (λ (p : ℕ × ℤ). p.0 < length order) (level_in order t.0.0, t.1) (placed_of order ts) (All-head P t.0 (variables_of ts) all)
    (inside-placed order ts (All-tail P t.0 (variables_of ts) all))

-- sorted by their levels
up-levels : (ps : List (ℕ × ℤ)) → IsNonDecreasingBy (λ (p : ℕ × ℤ). p.0) ps → IsNonDecreasingBy (λ (n : ℕ). n) (map (λ (p : ℕ × ℤ). p.0) ps)
up-levels ps up i j d less inside =
    let key : ℕ × ℤ → ℕ = λ (p : ℕ × ℤ). p.0 in
    let none : ℕ × ℤ = (d, pos 0) in
    let size = length-map ps key in
    let one = get_or-map key ps i none d (omega arith) in
    let two = get_or-map key ps j none d (omega arith) in
    let both = up i j none less (omega arith) in
    omega arith

-- the levels of distinct variables, sorted with their weights
pub sorted-terms : (order : List Var) (terms : List Term) (ps sorted : List (ℕ × ℤ)) → IsDistinct order → All (λ (v : Var). IsIn order v.0) (variables_of terms)
    → IsDistinct (variables_of terms) → size_of terms < 2 ^ 126 → ps ≡ placed_of order terms → IsPermutation ps sorted
    → IsNonDecreasingBy (λ (p : ℕ × ℤ). p.0) sorted → ArePlaced order terms sorted
sorted-terms order terms ps sorted own inside distinct small are moved up =
    let key : ℕ × ℤ → ℕ = λ (p : ℕ × ℤ). p.0 in
    let on : ℕ × ℤ → Term = λ (p : ℕ × ℤ). (variable_on order p.0, p.1) in
    let moved' : IsPermutation (placed_of order terms) sorted = subst (λ (qs : List (ℕ × ℤ)). IsPermutation qs sorted) are moved in
    let terms-moved : IsPermutation terms (terms_on order sorted) = subst (λ (ts : List Term). IsPermutation ts (terms_on order sorted)) (on-places order terms inside) (IsPermutation-map on (placed_of order terms) sorted moved') in
    let levels-moved : IsPermutation (levels_in order (variables_of terms)) (map key sorted) = subst (λ (ls : List ℕ). IsPermutation ls (map key sorted)) (levels-placed order terms) (IsPermutation-map key (placed_of order terms) sorted moved') in
    let within : All (λ (p : ℕ × ℤ). p.0 < length order) sorted = All-permutation (λ (p : ℕ × ℤ). p.0 < length order) (placed_of order terms) sorted moved' (inside-placed order terms inside) in
    let size : size_of (terms_on order sorted) ≡ size_of terms = sum_by-IsPermutation (λ (t : Term). unsigned_abs t.1) terms (terms_on order sorted) terms-moved in
    record {
      within = within;
      sorted = record {
        falling = subst (λ (ls : List ℕ). IsFallingFrom 0 ls) (sym (levels-on order own sorted within))
            (falling (map key sorted) (up-levels sorted up)
            (λ k. let same = sum_by-IsPermutation (λ (l : ℕ). if l == k then 1 else 0) (levels_in order (variables_of terms)) (map key sorted) levels-moved in
            let few = once order (variables_of terms) inside distinct k in omega arith));
        there = there-on order own sorted within;
        size = omega arith;
      };
      size = size;
      total_is = λ a. total-permutation terms (terms_on order sorted) a terms-moved;
    }

-- The steps that are made so far, the last one in front.
pub record AreMade (order : List Var) (placed : List (ℕ × ℤ)) (steps : List Step) (least greatest : ℤ) (left : ℕ) : Type 0 where
  pub terms : terms_of (reverse steps) ≡ terms_on order (drop left placed)
  pub bounds : HaveBounds (reverse steps)
  pub least_is : least ≡ least_total (terms_on order (drop left placed))
  pub greatest_is : greatest ≡ greatest_total (terms_on order (drop left placed))
  pub inside : left ≤ length placed

-- one more step
pub made-more : (order : List Var) (placed : List (ℕ × ℤ)) (old new : List Step) (least greatest : ℤ) (left left' : ℕ) (d : ℕ × ℤ) (step : Step)
    → left' < length placed → left' + 1 ≡ left → AreMade order placed old least greatest left → new ≡ old ++ step ∷ []
    → step.var ≡ variable_on order (get_or placed left' d).0 → step.weight ≡ (get_or placed left' d).1
    → step.least ≡ least +ℤ int_min step.weight (pos 0) → step.greatest ≡ greatest +ℤ int_max step.weight (pos 0)
    → AreMade order placed new step.least step.greatest left'
made-more order placed old new least greatest left left' d step inside one made is var weight low high =
    record {
      terms = terms;
      bounds = subst (λ (ss : List Step). HaveBounds ss) (sym turned) (
        low ∙ ap (λ (z : ℤ). z +ℤ int_min step.weight (pos 0)) below-low,
        high ∙ ap (λ (z : ℤ). z +ℤ int_max step.weight (pos 0)) below-high,
        made.bounds,
      );
      least_is = low ∙ ap (λ (z : ℤ). z +ℤ int_min step.weight (pos 0)) below-low ∙ ap least_total with-step;
      greatest_is = high ∙ ap (λ (z : ℤ). z +ℤ int_max step.weight (pos 0)) below-high ∙ ap greatest_total with-step;
      inside = omega arith;
    }
  where
    turned : reverse new ≡ step ∷ reverse old
    turned = ap reverse is ∙ reverse-append old (step ∷ [])

    below-low : least ≡ least_total (terms_of (reverse old))
    below-low = made.least_is ∙ ap least_total (sym made.terms)

    below-high : greatest ≡ greatest_total (terms_of (reverse old))
    below-high = made.greatest_is ∙ ap greatest_total (sym made.terms)

    same : term_of step ≡ (variable_on order (get_or placed left' d).0, (get_or placed left' d).1)
    same = ap (λ (v : Var). let t : Term = (v, step.weight) in t) var ∙ ap (λ (w : ℤ). let t : Term = (variable_on order (get_or placed left' d).0, w) in t) weight

    split : terms_on order (drop left' placed) ≡ (variable_on order (get_or placed left' d).0, (get_or placed left' d).1) ∷ terms_on order (drop left placed)
    split = ap (terms_on order) (drop_more placed left' d inside)
        ∙ ap (λ (n : ℕ). let t : Term = (variable_on order (get_or placed left' d).0, (get_or placed left' d).1) in t ∷ terms_on order (drop n placed)) one

    with-step : (term_of step ∷ terms_of (reverse old)) ≡ terms_on order (drop left' placed)
    with-step = ap (λ (t : Term). t ∷ terms_of (reverse old)) same
        ∙ ap (λ (ts : List Term). let t : Term = (variable_on order (get_or placed left' d).0, (get_or placed left' d).1) in t ∷ ts) made.terms
        ∙ sym split

    terms : terms_of (reverse new) ≡ terms_on order (drop left' placed)
    terms = ap terms_of turned ∙ with-step

-- no step is made yet
pub made-none : (order : List Var) (placed : List (ℕ × ℤ)) (steps : List Step) → steps ≡ [] → AreMade order placed steps (pos 0) (pos 0) (length placed)
made-none order placed steps none = record {
  terms = ap (λ (ss : List Step). terms_of (reverse ss)) none ∙ sym (ap (terms_on order) (drop_all (length placed) placed (omega arith)));
  bounds = subst (λ (ss : List Step). HaveBounds (reverse ss)) (sym none) tt;
  least_is = sym (ap (λ (ps : List (ℕ × ℤ)). least_total (terms_on order ps)) (drop_all (length placed) placed (omega arith)));
  greatest_is = sym (ap (λ (ps : List (ℕ × ℤ)). greatest_total (terms_on order ps)) (drop_all (length placed) placed (omega arith)));
  inside = omega arith;
}

-- all steps are made
pub made-all : (order : List Var) (placed : List (ℕ × ℤ)) (steps turned : List Step) (least greatest : ℤ) (left : ℕ) → left ≤ 0 → turned ≡ reverse steps
    → AreMade order placed steps least greatest left → (terms_of turned ≡ terms_on order placed) × HaveBounds turned
made-all order placed steps turned least greatest left none is made =
    let zero' : left ≡ 0 = omega arith in (
      ap terms_of is ∙ made.terms ∙ ap (λ (n : ℕ). terms_on order (drop n placed)) zero',
      subst (λ (ss : List Step). HaveBounds ss) (sym is) made.bounds,
    )

-- the terms so far are small
pub sizes-on : (order : List Var) (placed : List (ℕ × ℤ)) (n : ℕ) → size_of (terms_on order (drop n placed)) ≤ size_of (terms_on order placed)
sizes-on order placed zero = omega arith
sizes-on order [] (suc n) = omega arith
sizes-on order (p ∷ ps) (suc n) = let rest = sizes-on order ps n in let one = size-cons (variable_on order p.0, p.1) (terms_on order ps) in omega arith

-- a term's variable is there
pub term-there : (order : List Var) (terms : List Term) (i : ℕ) (d : Term) → i < length terms → All (λ (v : Var). IsIn order v.0) (variables_of terms) → IsIn order (get_or terms i d).0.0
term-there order [] i d inside all = absurd (omega arith)
term-there order (t ∷ ts) zero d inside all = All-head (λ (v : Var). IsIn order v.0) t.0 (variables_of ts) all
term-there order (t ∷ ts) (suc i) d inside all = term-there order ts i d (omega arith) (All-tail (λ (v : Var). IsIn order v.0) t.0 (variables_of ts) all)

wider : (l g : ℤ) (n m : ℕ) → n ≤ m → AreBounds l g n → AreBounds l g m
wider l g n m few bounds = record {
  from = let bottom = bounds.from in omega (arith, ints);
  least_is = bounds.least_is;
  greatest_is = bounds.greatest_is;
  upto = let top = bounds.upto in omega (arith, ints);
}

-- with one more step the bounds are small too
pub made-small : (order : List Var) (placed : List (ℕ × ℤ)) (steps : List Step) (least greatest : ℤ) (left left' : ℕ) (d : ℕ × ℤ)
    → left' < length placed → left' + 1 ≡ left → AreMade order placed steps least greatest left → size_of (terms_on order placed) < 2 ^ 126
    → AreBounds (least +ℤ int_min (get_or placed left' d).1 (pos 0)) (greatest +ℤ int_max (get_or placed left' d).1 (pos 0)) (2 ^ 126)
made-small order placed steps least greatest left left' d inside one made small =
    let t : Term = (variable_on order (get_or placed left' d).0, (get_or placed left' d).1) in
    let split : terms_on order (drop left' placed) ≡ t ∷ terms_on order (drop left placed) = ap (terms_on order) (drop_more placed left' d inside) ∙ ap (λ (n : ℕ). t ∷ terms_on order (drop n placed)) one in
    let bounds : AreBounds (least_total (t ∷ terms_on order (drop left placed))) (greatest_total (t ∷ terms_on order (drop left placed))) (size_of (terms_on order (drop left' placed)))
    = subst (λ (ts : List Term). AreBounds (least_total ts) (greatest_total ts) (size_of (terms_on order (drop left' placed)))) split (bounds-are (terms_on order (drop left' placed))) in
    let fewer = sizes-on order placed left' in
    subst (λ (z : ℤ). AreBounds (least +ℤ int_min (get_or placed left' d).1 (pos 0)) (z +ℤ int_max (get_or placed left' d).1 (pos 0)) (2 ^ 126)) (sym made.greatest_is)
    (subst (λ (z : ℤ). AreBounds (z +ℤ int_min (get_or placed left' d).1 (pos 0)) (greatest_total (terms_on order (drop left placed)) +ℤ int_max (get_or placed left' d).1 (pos 0)) (2 ^ 126)) (sym made.least_is)
    (wider _ _ (size_of (terms_on order (drop left' placed))) (2 ^ 126) (omega arith) bounds))

-- one more step, by its fields
pub made-step : (order : List Var) (placed : List (ℕ × ℤ)) (old new : List Step) (least greatest : ℤ) (left left' : ℕ) (d : ℕ × ℤ) (v : Var) (w l g least' greatest' : ℤ)
    → left' < length placed → left' + 1 ≡ left → AreMade order placed old least greatest left
    → new ≡ old ++ (record { var = v; weight = w; least = l; greatest = g }) ∷ []
    → v ≡ variable_on order (get_or placed left' d).0 → w ≡ (get_or placed left' d).1
    → l ≡ least +ℤ int_min (get_or placed left' d).1 (pos 0) → g ≡ greatest +ℤ int_max (get_or placed left' d).1 (pos 0) → least' ≡ l → greatest' ≡ g
    → AreMade order placed new least' greatest' left'
made-step order placed old new least greatest left left' d v w l g least' greatest' inside one made is var weight low high same_low same_high =
    subst (λ (z : ℤ). AreMade order placed new z greatest' left') (sym same_low)
    (subst (λ (z : ℤ). AreMade order placed new l z left') (sym same_high)
    (made-more order placed old new least greatest left left' d (record { var = v; weight = w; least = l; greatest = g }) inside one made is var weight
    (low ∙ ap (λ (z : ℤ). least +ℤ int_min z (pos 0)) (sym weight)) (high ∙ ap (λ (z : ℤ). greatest +ℤ int_max z (pos 0)) (sym weight))))

-- the plan of a sum
pub plan-is : (order : List Var) (how : Cmp3) (terms terms' : List Term) (constant : ℤ) (placed placed' : List (ℕ × ℤ)) (exact : Bool) (start start' : ℤ) (steps : Vec Step Global)
    → terms' ≡ terms → placed' ≡ placed → ArePlaced order terms' placed → terms_of steps.items ≡ terms_on order placed' → ArePlanned order steps.items
    → start' ≡ start → unsigned_abs start ≤ unsigned_abs constant + 1 → unsigned_abs constant + size_of terms < 2 ^ 126
    → ((t : ℤ) → meets exact (start +ℤ t) ≡ compares how (constant +ℤ t))
    → IsPlanOf order how terms constant (record { exact = exact; start = start'; steps = steps })
plan-is order how terms terms' constant placed placed' exact start start' steps same_terms same_placed are is planned same few small start_is =
    let are' : ArePlaced order terms placed = subst (λ (ts : List Term). ArePlaced order ts placed) same_terms are in
    let is' : terms_of steps.items ≡ terms_on order placed = is ∙ ap (terms_on order) same_placed in
    let size : size_of (terms_of steps.items) ≡ size_of terms = ap size_of is' ∙ are'.size in
    let first : unsigned_abs start' ≡ unsigned_abs start = ap unsigned_abs same in
    record {
      planned = planned;
      small = omega arith;
      total_is = λ a. ap (λ (ts : List Term). total ts a) is' ∙ are'.total_is a;
      start_is = λ t. ap (λ (z : ℤ). meets exact (z +ℤ t)) same ∙ start_is t;
    }
