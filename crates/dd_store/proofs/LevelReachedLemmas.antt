-- In reduced rows as many reached nodes test the variable of a level as the functions need there.
use Rattle.std.proofs.Common.{◌≡◌, ◌≢◌, ℕ, suc, zero, ◌<◌, ◌≤◌, nat_eq, Bool, true, false, not, cond, ◌==◌, List, [], ◌∷◌, ◌++◌, length, map, filter, slice_get, Option, Some, None, is_some, refl, ap, sym, ◌∙◌, subst, inl, inr, arith}
use Rattle.std.specs.List.{All, AllByRecursion, flat_map}
use Rattle.std.specs.Set.{distinct_count}
use Rattle.std.proofs.lemmas.Bool.{eqb-true, eq-eqb, ne_eqb, true≢false}
use Rattle.std.proofs.lemmas.List.Elements.{All-contains, All-head, All-tail}
use Rattle.dd_store.proofs.ChangeLemmas.{reached-there}
use Rattle.dd_store.specs.declared.row.Row.{Row}
use Rattle.dd_store.specs.declared.row.Var.{Var}
use Rattle.dd_store.specs.Order.{level_in, level_of_row, IsIn, IsDistinct}
use Rattle.dd_store.specs.Follow.{end_of, step, value_in, with_value, IsThere}
use Rattle.dd_store.specs.Reached.{reached}
use Rattle.dd_store.specs.Size.{Function, fixed, cofactors_at, alike, depends_on, dependent, level_size}
use Rattle.dd_store.specs.SizeLaws.{function_of, tests, has_variable, ReachedIsLevelSize}
use Rattle.dd_store.specs.Table.{AreReduced}
use Rattle.dd_store.proofs.TopLemmas.{follow-above, past}
use Rattle.dd_store.proofs.Canonical.{IsAmong, IsOrderedFrom, among-step, ordered-rest, moved, reduced-among, reduced-ordered, not_first}
use Rattle.dd_store.proofs.AlikeLemmas.{alike-same}
use Rattle.dd_store.proofs.ReachedLemmas.{map-both, among-all, stays, tell}
use Rattle.dd_store.proofs.SizeLemmas.{In, contains_from, in_parts, in_left, in_right, filter_same, from_filter, in_filter, count_more, count_stands}
use Rattle.std.specs.Cmp.{nat_eq_equiv}

-- what is reached past exactly the first i variables
abbrev reached_at : ℕ → List Var → (ℕ → Option Row) → ℕ → List ℕ
reached_at zero vs rows n = n ∷ []
reached_at (suc i) [] rows n = []
reached_at (suc i) (v ∷ vs) rows n = reached_at i vs rows (step (rows n) v.0 n false) ++ reached_at i vs rows (step (rows n) v.0 n true)

-- its values are what the value gives
values-at : (i : ℕ) (vs : List Var) (rows : ℕ → Option Row) (h : ℕ → Function) → IsDistinct vs → IsOrderedFrom vs rows
    → ((m : ℕ) → IsAmong vs (rows m) m → (a : ℕ → Bool) → h m a ≡ value_in vs rows a m)
    → (n : ℕ) → IsAmong vs (rows n) n → map h (reached_at i vs rows n) ≡ cofactors_at i vs (h n)
values-at zero vs rows h distinct ordered means n among = refl
values-at (suc i) [] rows h distinct ordered means n among = refl
values-at (suc i) (v ∷ vs) rows h distinct ordered means n among =
    map-both h (reached_at i vs rows (step (rows n) v.0 n false)) (reached_at i vs rows (step (rows n) v.0 n true))
    ∙ ap (λ fs. fs ++ map h (reached_at i vs rows (step (rows n) v.0 n true))) (end false (values-at i vs rows h distinct.1 later means'))
    ∙ ap (λ fs. cofactors_at i vs (fixed (h n) v.0 false) ++ fs) (end true (values-at i vs rows h distinct.1 later means'))
  where
    later : IsOrderedFrom vs rows
    later = ordered-rest v vs rows distinct.0 ordered

    means' : (m : ℕ) → IsAmong vs (rows m) m → (a : ℕ → Bool) → h m a ≡ value_in vs rows a m
    means' m there a =
        means m (among-all v vs (rows m) m distinct.0 there) a
        ∙ ap (λ k. value_in vs rows a k) (stays v vs (rows m) m (a v.0) distinct.0 there)

    end : (b : Bool) → ((m : ℕ) → IsAmong vs (rows m) m → map h (reached_at i vs rows m) ≡ cofactors_at i vs (h m))
        → map h (reached_at i vs rows (step (rows n) v.0 n b)) ≡ cofactors_at i vs (fixed (h n) v.0 b)
    end b rest =
        let m = step (rows n) v.0 n b in
        let there = among-step v vs rows n b ordered among in
        let same : (a : ℕ → Bool) → h m a ≡ fixed (h n) v.0 b a
        = λ a. means' m there a ∙ moved v vs rows distinct.0 b a n ∙ sym (means n among (with_value a v.0 b)) in
        rest m there ∙ ap (cofactors_at i vs) (λ j a. same a j)

-- what is reached is among the nodes of the order
reached-among : (vs : List Var) (rows : ℕ → Option Row) → IsDistinct vs → IsOrderedFrom vs rows → (n x : ℕ) → IsAmong vs (rows n) n → In x (reached vs rows n) → IsAmong vs (rows x) x
reached-among [] rows distinct ordered n x among (inl is) = subst (λ m. IsAmong [] (rows m) m) is among
reached-among [] rows distinct ordered n x among (inr none) = absurd none
reached-among (v ∷ vs) rows distinct ordered n x among (inl is) = subst (λ m. IsAmong (v ∷ vs) (rows m) m) is among
reached-among (v ∷ vs) rows distinct ordered n x among (inr rest) =
    let later = ordered-rest v vs rows distinct.0 ordered in
    let end : (b : Bool) → In x (reached vs rows (step (rows n) v.0 n b)) → IsAmong (v ∷ vs) (rows x) x
    = λ b i. among-all v vs (rows x) x distinct.0 (reached-among vs rows distinct.1 later (step (rows n) v.0 n b) x (among-step v vs rows n b ordered among) i) in
    elim (in_parts x (reached vs rows (step (rows n) v.0 n false)) (reached vs rows (step (rows n) v.0 n true)) rest) [
      | inl low ↦ end false low
      | inr high ↦ end true high
    ]

-- a node that tests the first variable isn't among those of the rest, and one that tests a later one isn't the first one's
tests-rest : (v : Var) (vs : List Var) (o : Option Row) (x : ℕ) → level_in vs v.0 ≡ length vs → IsAmong vs o x → has_variable v.0 o ≡ true → ⊥
tests-rest v vs None x absent among is = true≢false (sym is)
tests-rest v vs (Some r) x absent among is =
    let same : r.var.0 ≡ v.0 = eqb-true r.var.0 v.0 is in
    let level = ap (level_in vs) same in
    absurd (omega arith)

-- the variable at a place has that level, and no other has it
place-in : (vs : List Var) (i : ℕ) (v : Var) → slice_get vs i ≡ Some v → IsIn vs v.0
place-in [] i v is = absurd (true≢false (sym (ap is_some is)))
place-in (w ∷ ws) zero v is =
    let same : w ≡ v = cc in
    let here : (w.0 == v.0) ≡ true = eq-eqb w.0 v.0 (ap (λ (u : Var). u.0) same) in
    rw here (omega arith)
place-in (w ∷ ws) (suc i) v is = by (w.0 == v.0) (place-in ws i v is)
  where
    by : (t : Bool) → IsIn ws v.0 → cond t 0 (suc (level_in ws v.0)) < suc (length ws)
    by true rest = omega arith
    by false rest = omega arith

place-level : (vs : List Var) (i : ℕ) (v : Var) → IsDistinct vs → slice_get vs i ≡ Some v → level_in vs v.0 ≡ i
place-level [] i v distinct is = absurd (true≢false (sym (ap is_some is)))
place-level (w ∷ ws) zero v distinct is =
    let same : w ≡ v = cc in
    let here : (w.0 == v.0) ≡ true = eq-eqb w.0 v.0 (ap (λ (u : Var). u.0) same) in
    rw here refl
place-level (w ∷ ws) (suc i) v distinct is =
    rw (not_first w ws v.0 distinct.0 (place-in ws i v is)) (ap suc (place-level ws i v distinct.1 is))

level-place : (vs : List Var) (i : ℕ) (v : Var) (w : ℕ) → slice_get vs i ≡ Some v → level_in vs w ≡ i → w ≡ v.0
level-place [] i v w is at = absurd (true≢false (sym (ap is_some is)))
level-place (u ∷ us) zero v w is at = by (u.0 == w) refl at
  where
    by : (t : Bool) → (u.0 == w) ≡ t → cond t 0 (suc (level_in us w)) ≡ 0 → w ≡ v.0
    by true e level = let same : u ≡ v = cc in sym (eqb-true u.0 w e) ∙ ap (λ (x : Var). x.0) same
    by false e level = absurd (omega arith)
level-place (u ∷ us) (suc i) v w is at = by (u.0 == w) at (level-place us i v w is)
  where
    by : (t : Bool) → cond t 0 (suc (level_in us w)) ≡ suc i → (level_in us w ≡ i → w ≡ v.0) → w ≡ v.0
    by true level rest = absurd (omega arith)
    by false level rest = rest (omega arith)

-- a reached node that tests the variable at place i is reached past exactly the first i variables
tests-at : (i : ℕ) (vs : List Var) (rows : ℕ → Option Row) → IsDistinct vs → IsOrderedFrom vs rows → (v : Var) → slice_get vs i ≡ Some v
    → (n x : ℕ) → IsAmong vs (rows n) n → In x (reached vs rows n) → has_variable v.0 (rows x) ≡ true → In x (reached_at i vs rows n)
tests-at i [] rows distinct ordered v is n x among has asks = absurd (true≢false (sym (ap is_some is)))
tests-at zero (w ∷ ws) rows distinct ordered v is n x among (inl one) asks = inl one
tests-at zero (w ∷ ws) rows distinct ordered v is n x among (inr rest) asks =
    let same : w ≡ v = cc in
    let absent : level_in ws v.0 ≡ length ws = subst (λ (u : Var). level_in ws u.0 ≡ length ws) same distinct.0 in
    let later = ordered-rest w ws rows distinct.0 ordered in
    let end : (b : Bool) → In x (reached ws rows (step (rows n) w.0 n b)) → ⊥
    = λ b i. tests-rest v ws (rows x) x absent (reached-among ws rows distinct.1 later (step (rows n) w.0 n b) x (among-step w ws rows n b ordered among) i) asks in
    absurd (elim (in_parts x (reached ws rows (step (rows n) w.0 n false)) (reached ws rows (step (rows n) w.0 n true)) rest) [
      | inl low ↦ end false low
      | inr high ↦ end true high
    ])
tests-at (suc i) (w ∷ ws) rows distinct ordered v is n x among (inl one) asks =
    let later = ordered-rest w ws rows distinct.0 ordered in
    let m = step (rows n) w.0 n false in
    let asked : has_variable v.0 (rows n) ≡ true = subst (λ k. has_variable v.0 (rows k) ≡ true) (sym one) asks in
    let same : m ≡ n = unmoved (rows n) asked in
    in_left x (reached_at i ws rows m) (reached_at i ws rows (step (rows n) w.0 n true))
    (tests-at i ws rows distinct.1 later v is m x (among-step w ws rows n false ordered among) (first ws m (same ∙ one)) asks)
  where
    other : (w.0 == v.0) ≡ false
    other = not_first w ws v.0 distinct.0 (place-in ws i v is)

    unmoved : (o : Option Row) → has_variable v.0 o ≡ true → step o w.0 n false ≡ n
    unmoved None e = refl
    unmoved (Some r) e =
        let same : r.var.0 ≡ v.0 = eqb-true r.var.0 v.0 e in
        let apart : (w.0 == r.var.0) ≡ false = ap (λ k. w.0 == k) same ∙ other in
        rw apart refl

    first : (us : List Var) (m : ℕ) → m ≡ x → In x (reached us rows m)
    first [] m e = inl e
    first (u ∷ us) m e = inl e
tests-at (suc i) (w ∷ ws) rows distinct ordered v is n x among (inr rest) asks =
    let later = ordered-rest w ws rows distinct.0 ordered in
    let low = reached_at i ws rows (step (rows n) w.0 n false) in
    let high = reached_at i ws rows (step (rows n) w.0 n true) in
    elim (in_parts x (reached ws rows (step (rows n) w.0 n false)) (reached ws rows (step (rows n) w.0 n true)) rest) [
      | inl has ↦ in_left x low high (tests-at i ws rows distinct.1 later v is (step (rows n) w.0 n false) x (among-step w ws rows n false ordered among) has asks)
      | inr has ↦ in_right x low high (tests-at i ws rows distinct.1 later v is (step (rows n) w.0 n true) x (among-step w ws rows n true ordered among) has asks)
    ]

-- what is reached so is reached
at-reached : (i : ℕ) (vs : List Var) (rows : ℕ → Option Row) (n x : ℕ) → In x (reached_at i vs rows n) → In x (reached vs rows n)
at-reached zero [] rows n x has = has
at-reached zero (v ∷ vs) rows n x (inl is) = inl is
at-reached zero (v ∷ vs) rows n x (inr none) = absurd none
at-reached (suc i) [] rows n x none = absurd none
at-reached (suc i) (v ∷ vs) rows n x has =
    let low = reached vs rows (step (rows n) v.0 n false) in
    let high = reached vs rows (step (rows n) v.0 n true) in
    inr (elim (in_parts x (reached_at i vs rows (step (rows n) v.0 n false)) (reached_at i vs rows (step (rows n) v.0 n true)) has) [
      | inl i' ↦ in_left x low high (at-reached i vs rows (step (rows n) v.0 n false) x i')
      | inr i' ↦ in_right x low high (at-reached i vs rows (step (rows n) v.0 n true) x i')
    ])

-- and stands no higher than that
at-level : (i : ℕ) (vs : List Var) (rows : ℕ → Option Row) → IsDistinct vs → IsOrderedFrom vs rows → (n x : ℕ) → IsAmong vs (rows n) n → In x (reached_at i vs rows n)
    → i ≤ level_of_row vs (rows x)
at-level zero vs rows distinct ordered n x among has = omega arith
at-level (suc i) [] rows distinct ordered n x among none = absurd none
at-level (suc i) (v ∷ vs) rows distinct ordered n x among has =
    let later = ordered-rest v vs rows distinct.0 ordered in
    elim (in_parts x (reached_at i vs rows (step (rows n) v.0 n false)) (reached_at i vs rows (step (rows n) v.0 n true)) has) [
      | inl low ↦ lower (reached-among vs rows distinct.1 later (step (rows n) v.0 n false) x (among-step v vs rows n false ordered among) (at-reached i vs rows (step (rows n) v.0 n false) x low))
          (at-level i vs rows distinct.1 later (step (rows n) v.0 n false) x (among-step v vs rows n false ordered among) low)
      | inr high ↦ lower (reached-among vs rows distinct.1 later (step (rows n) v.0 n true) x (among-step v vs rows n true ordered among) (at-reached i vs rows (step (rows n) v.0 n true) x high))
          (at-level i vs rows distinct.1 later (step (rows n) v.0 n true) x (among-step v vs rows n true ordered among) high)
    ]
  where
    by : (o : Option Row) → IsAmong vs o x → i ≤ level_of_row vs o → suc i ≤ level_of_row (v ∷ vs) o
    by None there least = omega arith
    by (Some r) there least = rw (not_first v vs r.var.0 distinct.0 there) (omega arith)

    lower : IsAmong vs (rows x) x → i ≤ level_of_row vs (rows x) → suc i ≤ level_of_row (v ∷ vs) (rows x)
    lower there least = by (rows x) there least

module _ (order : List Var) (rows : ℕ → Option Row) (reduced : AreReduced order rows) (i : ℕ) (v : Var) (is : slice_get order i ≡ Some v) where
  -- a constant or a node on the level or below
  abbrev IsLow : ℕ → Type 0
  IsLow n = IsThere rows n × (i ≤ level_of_row order (rows n))

  -- its value depends on the variable exactly where it tests it
  depends-tests : (n : ℕ) → IsLow n → depends_on order v.0 (function_of order rows n) ≡ tests rows v.0 n
  depends-tests n low = by (rows n) refl low.1
    where
      f : Function
      f = function_of order rows n

      within : IsIn order v.0
      within = place-in order i v is

      here : level_in order v.0 ≡ i
      here = place-level order i v reduced.distinct is

      none : level_in order v.0 < level_of_row order (rows n) → depends_on order v.0 f ≡ false
      none above =
          let stay : (b : Bool) → fixed f v.0 b ≡ f = λ b. (λ j a. ap (λ m. m == 1) (follow-above order rows a v.0 b n reduced.distinct above) j) in
          ap not (ap (λ (g : Function). alike order g (fixed f v.0 true)) (stay false) ∙ ap (alike order f) (stay true) ∙ alike-same order f f (λ a. refl))

      some : (r : Row) → rows n ≡ Some r → r.var.0 ≡ v.0 → depends_on order v.0 f ≡ true
      some r e same =
          let end : (b : Bool) → fixed f v.0 b ≡ function_of order rows (end_of r b)
          = λ b. ap (λ k. fixed f k b) (sym same) ∙ (λ j a. past order rows reduced n r a b e j) in
          ap not (ap (λ (g : Function). alike order g (fixed f v.0 true)) (end false) ∙ ap (alike order (function_of order rows r.low.0)) (end true)
          ∙ tell order rows reduced r.low.0 r.high.0 (reduced.ends_there n r false e) (reduced.ends_there n r true e)
          ∙ ne_eqb r.low.0 r.high.0 (reduced.ends_differ n r e))

      by : (o : Option Row) → rows n ≡ o → i ≤ level_of_row order (rows n) → depends_on order v.0 f ≡ has_variable v.0 o
      by None e least = none (subst (λ p. level_in order v.0 < level_of_row order p) (sym e) within)
      by (Some r) e least = decide (nat_eq r.var.0 v.0) refl
        where
          decide : (t : Bool) → nat_eq r.var.0 v.0 ≡ t → depends_on order v.0 f ≡ t
          decide true t = some r e (eqb-true r.var.0 v.0 t)
          decide false t =
              let level : level_of_row order (rows n) ≡ level_in order r.var.0 = ap (level_of_row order) e in
              let apart : level_in order r.var.0 ≢ i = λ at. true≢false (sym (eq-eqb r.var.0 v.0 (level-place order i v r.var.0 is at)) ∙ t) in
              none (omega (arith, here, level, least, apart))

  -- all that is reached past the first i variables is so low
  low-at : (n : ℕ) → IsThere rows n → (x : ℕ) → In x (reached_at i order rows n) → IsLow x
  low-at n there x has = (
    All-contains (IsThere rows) (reached order rows n) x (reached-there order rows reduced.ends_there n there)
        (contains_from x (reached order rows n) (at-reached i order rows n x has)),
    at-level i order rows reduced.distinct (reduced-ordered order rows reduced) n x (reduced-among order rows reduced n there) has,
  )

  each-low : (xs : List ℕ) → ((x : ℕ) → In x xs → IsLow x) → AllByRecursion IsLow xs
  each-low [] low = tt
  each-low (x ∷ xs) low = (low x (inl refl), each-low xs (λ y has. low y (inr has)))

  all-low : (ns : List ℕ) → All (IsThere rows) ns → (x : ℕ) → In x (flat_map (reached_at i order rows) ns) → IsLow x
  all-low [] there x none = absurd none
  all-low (n ∷ ns) there x has = elim (in_parts x (reached_at i order rows n) (flat_map (reached_at i order rows) ns) has) [
    | inl here ↦ low-at n (All-head (IsThere rows) n ns there) x here
    | inr rest ↦ all-low ns (All-tail (IsThere rows) n ns there) x rest
  ]

  -- the nodes that test the variable are the same in both lists
  more-at : (ns : List ℕ) → All (IsThere rows) ns → (x : ℕ) → In x (flat_map (reached order rows) ns) → tests rows v.0 x ≡ true → In x (flat_map (reached_at i order rows) ns)
  more-at [] there x none asks = absurd none
  more-at (n ∷ ns) there x has asks = elim (in_parts x (reached order rows n) (flat_map (reached order rows) ns) has) [
    | inl here ↦ in_left x (reached_at i order rows n) (flat_map (reached_at i order rows) ns)
        (tests-at i order rows reduced.distinct (reduced-ordered order rows reduced) v is n x (reduced-among order rows reduced n (All-head (IsThere rows) n ns there)) here asks)
    | inr rest ↦ in_right x (reached_at i order rows n) (flat_map (reached_at i order rows) ns) (more-at ns (All-tail (IsThere rows) n ns there) x rest asks)
  ]

  fewer-at : (ns : List ℕ) (x : ℕ) → In x (flat_map (reached_at i order rows) ns) → In x (flat_map (reached order rows) ns)
  fewer-at [] x none = absurd none
  fewer-at (n ∷ ns) x has = elim (in_parts x (reached_at i order rows n) (flat_map (reached_at i order rows) ns) has) [
    | inl here ↦ in_left x (reached order rows n) (flat_map (reached order rows) ns) (at-reached i order rows n x here)
    | inr rest ↦ in_right x (reached order rows n) (flat_map (reached order rows) ns) (fewer-at ns x rest)
  ]

  values-all : (ns : List ℕ) → All (IsThere rows) ns
      → map (function_of order rows) (flat_map (reached_at i order rows) ns) ≡ flat_map (cofactors_at i order) (map (function_of order rows) ns)
  values-all [] there = refl
  values-all (n ∷ ns) there =
      let h = function_of order rows in
      map-both h (reached_at i order rows n) (flat_map (reached_at i order rows) ns)
      ∙ ap (λ fs. fs ++ map h (flat_map (reached_at i order rows) ns))
      (values-at i order rows h reduced.distinct (reduced-ordered order rows reduced) (λ m among a. refl) n
      (reduced-among order rows reduced n (All-head (IsThere rows) n ns there)))
      ∙ ap (λ fs. cofactors_at i order (h n) ++ fs) (values-all ns (All-tail (IsThere rows) n ns there))

-- the law
pub reached-level-size : ReachedIsLevelSize
reached-level-size order rows reduced ns there i v is =
    let h = function_of order rows in
    let all = flat_map (reached order rows) ns in
    let some = flat_map (reached_at i order rows) ns in
    let asks = tests rows v.0 in
    let up = count_more nat_eq_equiv (filter asks all) (filter asks some)
    (λ x has. let before = from_filter asks x all has in in_filter asks x some (more-at order rows reduced i v is ns there x before.0 before.1) before.1) in
    let down = count_more nat_eq_equiv (filter asks some) (filter asks all) (filter_same asks some all (fewer-at order rows reduced i v is ns)) in
    let stands = count_stands (IsLow order rows reduced i v is) h nat_eq (alike order) (λ m n low_m low_n. tell order rows reduced m n low_m.0 low_n.0)
    asks (depends_on order v.0) (depends-tests order rows reduced i v is) some
    (each-low order rows reduced i v is some (all-low order rows reduced i v is ns there)) in
    let level : level_size order (map h ns) i ≡ distinct_count (alike order) (filter (depends_on order v.0) (map h some))
    = ap (λ (o : Option Var). distinct_count (alike order) (dependent order o (flat_map (cofactors_at i order) (map h ns)))) is
    ∙ ap (λ fs. distinct_count (alike order) (filter (depends_on order v.0) fs)) (sym (values-all order rows reduced i v is ns there)) in
    omega arith
