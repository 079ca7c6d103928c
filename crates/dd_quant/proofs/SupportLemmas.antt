-- Which variables a walk sees: those on which the value depends.
use Rattle.std.proofs.Common.{◌≡◌, ◌≢◌, ◌⊎◌, ◌↔◌, ◌==◌, ◌&&◌, ℕ, suc, ◌<◌, Bool, true, false, not, if◌then◌else◌, List, [], ◌∷◌, length, set, filter, Result, Ok, Err, IfOk, Option, refl, ap, sym, ◌∙◌, subst, inl, inr, arith}
use Rattle.std.specs.List.{Contains}
use Rattle.std.proofs.lemmas.Bool.{cases_eq, eqb-true, ne_eqb, true≢false}
use Rattle.std.proofs.lemmas.List.{get_or-set_same, get_or-set_other, length-set}
use Rattle.dd_store.specs.declared.row.Row.{Row}
use Rattle.dd_store.specs.declared.row.Var.{Var}
use Rattle.dd_store.specs.Exhausted.{value_at}
use Rattle.dd_store.specs.Follow.{follow, step, with_value}
use Rattle.dd_store.specs.Order.{level_in, IsIn}
use Rattle.dd_store.specs.Size.{Function, fixed, alike, depends_on}
use Rattle.dd_store.specs.SizeLaws.{IsFreeOf}
use Rattle.dd_store.specs.Table.{Table, row_of, value_of, IsSound, IsAbove, IsVariable, HasEnds}
use Rattle.dd_store.proofs.AlikeLemmas.{alike-same, alike-tells, within}
use Rattle.dd_store.proofs.ReachedLemmas.{tell}
use Rattle.dd_store.proofs.SizeLemmas.{In, in_from, contains_from, in_filter, from_filter}
use Rattle.dd_quant.specs.Support.{DependsOn, support_of}
use Rattle.dd_quant.specs.steps.Marked.{found_of}
use Rattle.dd_quant.specs.steps.Seen.{is_seen, IsCovered, AreCovered, SeesMore}
use Rattle.dd_quant.proofs.WalkLemmas.{value-above, with-itself, constant-value}

-- some assignment tells functions apart that aren't alike
differ : (vs : List Var) (f g : Function) → alike vs f g ≡ false → (a : ℕ → Bool) × (f a ≢ g a)
differ [] f g is = ((λ v. false), λ same. true≢false (sym (alike-same [] f' g' (λ a. same)) ∙ is))
  where
    f' : Function
    f' = λ a. f (λ v. false)

    g' : Function
    g' = λ a. g (λ v. false)
differ (v ∷ vs) f g is = by (differ vs (fixed f v.0 false) (fixed g v.0 false)) (differ vs (fixed f v.0 true) (fixed g v.0 true)) (alike vs (fixed f v.0 false) (fixed g v.0 false)) refl is
  where
    by : (alike vs (fixed f v.0 false) (fixed g v.0 false) ≡ false → (a : ℕ → Bool) × (fixed f v.0 false a ≢ fixed g v.0 false a))
        → (alike vs (fixed f v.0 true) (fixed g v.0 true) ≡ false → (a : ℕ → Bool) × (fixed f v.0 true a ≢ fixed g v.0 true a))
        → (b : Bool) → alike vs (fixed f v.0 false) (fixed g v.0 false) ≡ b → (b && alike vs (fixed f v.0 true) (fixed g v.0 true)) ≡ false
        → (a : ℕ → Bool) × (f a ≢ g a)
    by low high true first both = let other = high both in (with_value other.0 v.0 true, other.1)
    by low high false first both = let other = low first in (with_value other.0 v.0 false, other.1)

-- two assignments give the variables of a list the same values
abbrev AgreeOn : List Var → (ℕ → Bool) → (ℕ → Bool) → Type 0
AgreeOn [] a b = Unit {0}
AgreeOn (v ∷ vs) a b = (a v.0 ≡ b v.0) × AgreeOn vs a b

with-both : (a b : ℕ → Bool) (v : ℕ) (c : Bool) (w : ℕ) → a w ≡ b w → with_value a v c w ≡ with_value b v c w
with-both a b v c w same = by (w == v)
  where
    by : (x : Bool) → (if x then c else a w) ≡ (if x then c else b w)
    by true = refl
    by false = same

agree-with : (vs : List Var) (a b : ℕ → Bool) (v : ℕ) (c : Bool) → AgreeOn vs a b → AgreeOn vs (with_value a v c) (with_value b v c)
agree-with [] a b v c agree = tt
agree-with (w ∷ ws) a b v c agree = (with-both a b v c w.0 agree.0, agree-with ws a b v c agree.1)

own-value : (a : ℕ → Bool) (v : ℕ) → with_value a v (a v) ≡ a
own-value a v = λ j w. by w (w == v) refl j
  where
    by : (w : ℕ) (x : Bool) → (w == v) ≡ x → (if x then a v else a w) ≡ a w
    by w true is = ap a (sym (eqb-true w v is))
    by w false is = refl

within-agrees : (vs : List Var) (a : ℕ → Bool) → AgreeOn vs (within vs a) a
within-agrees [] a = tt
within-agrees (v ∷ vs) a = (with-itself (within vs a) v.0 (a v.0), subst (λ (b : ℕ → Bool). AgreeOn vs (with_value (within vs a) v.0 (a v.0)) b) (own-value a v.0) (agree-with vs (within vs a) a v.0 (a v.0) (within-agrees vs a)))

-- following asks for the variables of the order alone
follow-agrees : (vs : List Var) (rows : ℕ → Option Row) (a b : ℕ → Bool) (n : ℕ) → AgreeOn vs a b → follow vs rows a n ≡ follow vs rows b n
follow-agrees [] rows a b n agree = refl
follow-agrees (v ∷ vs) rows a b n agree =
    ap (λ (x : Bool). follow vs rows a (step (rows n) v.0 n x)) agree.0 ∙ follow-agrees vs rows a b (step (rows n) v.0 n (b v.0)) agree.1

module _ (t : Table) (n v : ℕ) where
  -- a value that changes with a variable depends on it over the order
  pub depends : DependsOn v (value_at t n) → depends_on t.order v (value_at t n) ≡ true
  depends (a, apart) = by (alike t.order (fixed f v false) (fixed f v true)) refl
    where
      f : Function
      f = value_at t n

      inside : (c : Bool) → fixed f v c (within t.order a) ≡ fixed f v c a
      inside c = ap (λ (m : ℕ). m == 1) (follow-agrees t.order (row_of t) (with_value (within t.order a) v c) (with_value a v c) n (agree-with t.order (within t.order a) a v c (within-agrees t.order a)))

      by : (b : Bool) → alike t.order (fixed f v false) (fixed f v true) ≡ b → not b ≡ true
      by true is = absurd (apart (sym (inside false) ∙ alike-tells t.order (fixed f v false) (fixed f v true) is a ∙ inside true))
      by false is = refl

  -- and else it doesn't
  pub independent : IsFreeOf v (value_at t n) → depends_on t.order v (value_at t n) ≡ false
  independent free =
      ap not (alike-same t.order (fixed (value_at t n) v false) (fixed (value_at t n) v true) (λ a. free a false ∙ sym (free a true)))

-- a node depends on its own variable, and on what its ends depend on
module _ (t : Table) (sound : IsSound t) (n v low high : ℕ) (ends : HasEnds t n v low high) where
  end : Bool → ℕ
  end b = if b then high else low

  with-end : (b : Bool) (a : ℕ → Bool) → value_of t n (with_value a v b) ≡ value_of t (if b then high else low) (with_value a v b)
  with-end b a = ends.value (with_value a v b) ∙ ap (λ (x : Bool). if x then value_of t high (with_value a v b) else value_of t low (with_value a v b)) (with-itself a v b) ∙ by b
    where
      by : (x : Bool) → (if x then value_of t high (with_value a v b) else value_of t low (with_value a v b)) ≡ value_of t (if x then high else low) (with_value a v b)
      by true = refl
      by false = refl

  pub depends-own : DependsOn v (value_at t n)
  depends-own = (a, λ same. other.1 (sym (at false) ∙ same ∙ at true))
    where
      other : (a : ℕ → Bool) × (value_of t low a ≢ value_of t high a)
      other = differ t.order (value_at t low) (value_at t high) (tell t.order (row_of t) sound.reduced.rows low high ends.low_there ends.high_there ∙ ne_eqb low high ends.differ)

      a : ℕ → Bool
      a = other.0

      at : (b : Bool) → fixed (value_at t n) v b a ≡ value_of t (if b then high else low) a
      at true = with-end true a ∙ value-above t sound high v a true ends.above_high
      at false = with-end false a ∙ value-above t sound low v a false ends.above_low

  -- two variables may get their values in either order
  with-swapped : (a : ℕ → Bool) (w : ℕ) (b c : Bool) → w ≢ v → with_value (with_value a v b) w c ≡ with_value (with_value a w c) v b
  with-swapped a w b c apart = λ j u. by u (u == w) (u == v) refl refl j
    where
      by : (u : ℕ) (x y : Bool) → (u == w) ≡ x → (u == v) ≡ y → (if x then c else (if y then b else a u)) ≡ (if y then b else (if x then c else a u))
      by u true true is so = absurd (apart (sym (eqb-true u w is) ∙ eqb-true u v so))
      by u true false is so = refl
      by u false true is so = refl
      by u false false is so = refl

  pub depends-below : (b : Bool) (w : ℕ) → DependsOn w (value_at t (if b then high else low)) → DependsOn w (value_at t n)
  depends-below b w (a, apart) = elim (cases_eq w v) [
    | inl same ↦ subst (λ (u : ℕ). DependsOn u (value_at t n)) (sym same) depends-own
    | inr other ↦ (with_value a v b, λ is. apart (sym (at other false) ∙ is ∙ at other true))
  ]
    where
      above : (x : Bool) → IsAbove t v (if x then high else low)
      above true = ends.above_high
      above false = ends.above_low

      at : w ≢ v → (c : Bool) → fixed (value_at t n) w c (with_value a v b) ≡ fixed (value_at t (if b then high else low)) w c a
      at other c =
          ap (value_of t n) (with-swapped a w b c other) ∙ with-end b (with_value a w c)
          ∙ value-above t sound (if b then high else low) v (with_value a w c) b (above b)

  -- what is free of a variable at both ends is so at the node, but for its own
  pub free-node : (w : ℕ) → w ≢ v → IsFreeOf w (value_at t low) → IsFreeOf w (value_at t high) → IsFreeOf w (value_at t n)
  free-node w other free_low free_high a b =
      ends.value (with_value a w b) ∙ (λ j. if own j then free_high a b j else free_low a b j) ∙ sym (ends.value a)
    where
      own : with_value a w b v ≡ a v
      own = ap (λ (x : Bool). if x then b else a v) (ne_eqb v w (λ same. other (sym same)))

-- a variable is marked as seen
module _ (seen : List Bool) (v : ℕ) (inside : v < length seen) where
  pub seen-own : is_seen (set seen v true) v ≡ true
  seen-own = get_or-set_same seen v true false inside

  seen-other : (w : ℕ) → w ≢ v → is_seen (set seen v true) w ≡ is_seen seen w
  seen-other w other = get_or-set_other seen v w true false other

  seen-still : (w : ℕ) → is_seen seen w ≡ true → is_seen (set seen v true) w ≡ true
  seen-still w is = elim (cases_eq w v) [
    | inl same ↦ ap (is_seen (set seen v true)) same ∙ seen-own
    | inr other ↦ seen-other w other ∙ is
  ]

-- what isn't seen later wasn't before
unseen : (x y : Bool) → (x ≡ true → y ≡ true) → y ≡ false → x ≡ false
unseen true y more is = absurd (true≢false (sym (more refl) ∙ is))
unseen false y more is = refl

-- what is covered stays so
pub covered-more : (t : Table) (seen seen' : List Bool) (n : ℕ) → ((v : ℕ) → is_seen seen v ≡ true → is_seen seen' v ≡ true) → IsCovered t seen n → IsCovered t seen' n
covered-more t seen seen' n more covered v is = covered v (unseen (is_seen seen v) (is_seen seen' v) (more v) is)

-- A node's ends are seen, and then its own variable.
module _ (t : Table) (sound : IsSound t) (n v low high : ℕ) (ends : HasEnds t n v low high) (seen seen1 seen2 : List Bool)
    (first : SeesMore t low seen seen1) (second : SeesMore t high seen1 seen2) (inside : v < length seen2) where
  abbrev pub seen3 : List Bool
  seen3 = set seen2 v true

  pub node-covered : IsCovered t seen1 low → IsCovered t seen2 high → IsCovered t seen3 n
  node-covered by_low by_high w is = elim (cases_eq w v) [
    | inl same ↦ absurd (true≢false (sym (ap (is_seen seen3) same ∙ seen-own seen2 v inside) ∙ is))
    | inr other ↦
        let is2 : is_seen seen2 w ≡ false = unseen (is_seen seen2 w) (is_seen seen3 w) (seen-still seen2 v inside w) is in
        free-node t sound n v low high ends w other (by_low w (unseen (is_seen seen1 w) (is_seen seen2 w) (second.kept w) is2)) (by_high w is2)
  ]

  pub node-more : SeesMore t n seen seen3
  node-more = record {
    kept = λ w is. seen-still seen2 v inside w (second.kept w (first.kept w is));
    new = new';
    number = length-set seen2 v true ∙ second.number ∙ first.number;
  }
    where
      new' : (w : ℕ) → is_seen seen3 w ≡ true → (is_seen seen w ≡ true) ⊎ DependsOn w (value_at t n)
      new' w is = elim (cases_eq w v) [
        | inl same ↦ inr (subst (λ (u : ℕ). DependsOn u (value_at t n)) (sym same) (depends-own t sound n v low high ends))
        | inr other ↦ (elim (second.new w (sym (seen-other seen2 v inside w other) ∙ is)) [
          | inr by_high ↦ inr (depends-below t sound n v low high ends true w by_high)
          | inl before ↦ (elim (first.new w before) [
            | inl old ↦ inl old
            | inr by_low ↦ inr (depends-below t sound n v low high ends false w by_low)
          ])
        ])
      ]

  -- one node more is marked
  pub marked-covered : (marks marks' : List (Option Bool)) → IsCovered t seen1 low → IsCovered t seen2 high → AreCovered t seen2 marks
      → ((m : ℕ) → m ≢ n → found_of marks' m ≡ found_of marks m) → AreCovered t seen3 marks'
  marked-covered marks marks' by_low by_high covered others m b at = elim (cases_eq m n) [
    | inl same ↦ subst (λ (k : ℕ). IsCovered t seen3 k) (sym same) (node-covered by_low by_high)
    | inr other ↦ covered-more t seen2 seen3 m (seen-still seen2 v inside) (covered m b (sym (others m other) ∙ at))
  ]

-- a constant depends on nothing
pub constant-covered : (t : Table) → IsSound t → (seen : List Bool) (n : ℕ) → n < 2 → IsCovered t seen n
constant-covered t sound seen n small v is a b = constant-value t sound n small (with_value a v b) ∙ sym (constant-value t sound n small a)

pub sees-same : (t : Table) (n : ℕ) (seen : List Bool) → SeesMore t n seen seen
sees-same t n seen = record { kept = λ v is. is; new = λ v is. inl is; number = refl }

-- At the end exactly the variables on which the value depends are seen.
module _ (t : Table) (n : ℕ) (seen seen' : List Bool) (none : (v : ℕ) → is_seen seen v ≡ false) (more : SeesMore t n seen seen') (covered : IsCovered t seen' n) where
  seen-exact : (v : ℕ) → is_seen seen' v ≡ depends_on t.order v (value_at t n)
  seen-exact v = by (is_seen seen' v) refl
    where
      by : (b : Bool) → is_seen seen' v ≡ b → b ≡ depends_on t.order v (value_at t n)
      by true is = elim (more.new v is) [
        | inl old ↦ absurd (true≢false (sym old ∙ none v))
        | inr so ↦ sym (depends t n v so)
      ]
      by false is = sym (independent t n v (covered v is))

  pub support-is : filter (λ (v : Var). is_seen seen' v.0) t.order ≡ support_of t.order (value_at t n)
  support-is = ap (λ (p : Var → Bool). filter p t.order) (λ j v. seen-exact v.0 j)

-- the variables of the order on which a value depends
in-order : (order : List Var) (v : Var) → IsIn order v.0 → In v order
in-order [] v inside = absurd (omega arith)
in-order (w ∷ ws) v inside = by (w.0 == v.0) refl inside (in-order ws v)
  where
    by : (b : Bool) → (w.0 == v.0) ≡ b → (if b then 0 else suc (level_in ws v.0)) < suc (length ws) → (IsIn ws v.0 → In v ws) → In v (w ∷ ws)
    by true is inside rest = inl (ap (λ (k : ℕ). let u : Var = record { 0 = k } in u) (eqb-true w.0 v.0 is))
    by false is inside rest = inr (rest (omega arith))

pub support-exact : (t : Table) (n : ℕ) (v : Var) → IsVariable t v.0 → Contains (support_of t.order (value_at t n)) v ↔ DependsOn v.0 (value_at t n)
support-exact t n v inside = (forth, back)
  where
    p : Var → Bool
    p = λ u. depends_on t.order u.0 (value_at t n)

    forth : Contains (filter p t.order) v → DependsOn v.0 (value_at t n)
    forth among = told (alike t.order (fixed (value_at t n) v.0 false) (fixed (value_at t n) v.0 true)) refl ((from_filter p v t.order (in_from v (filter p t.order) among)).1)
      where
        told : (b : Bool) → alike t.order (fixed (value_at t n) v.0 false) (fixed (value_at t n) v.0 true) ≡ b → not b ≡ true → DependsOn v.0 (value_at t n)
        told true is so = absurd (true≢false (sym so))
        told false is so = differ t.order (fixed (value_at t n) v.0 false) (fixed (value_at t n) v.0 true) is

    back : DependsOn v.0 (value_at t n) → Contains (filter p t.order) v
    back so = contains_from v (filter p t.order) (in_filter p v t.order (in-order t.order v inside) (depends t n v.0 so))

pub exact-told : {V E : Type 0} (t : Table) (n : ℕ) (items : V → List Var) (result : Result V E) → IfOk result (λ vars. items vars ≡ support_of t.order (value_at t n))
    → IfOk result (λ vars. (v : Var) → IsVariable t v.0 → Contains (items vars) v ↔ DependsOn v.0 (value_at t n))
exact-told t n items (Ok vars) is = λ v inside. subst (λ (xs : List Var). Contains xs v ↔ DependsOn v.0 (value_at t n)) (sym is) (support-exact t n v inside)
exact-told t n items (Err e) is = tt
