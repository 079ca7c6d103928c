-- How many different functions a list has: more functions, and a list that stands for another.
use Rattle.std.proofs.Common.{◌≡◌, ◌⊎◌, suc, zero, ◌≤◌, Bool, true, false, not, cond, ◌||◌, List, [], ◌∷◌, ◌++◌, length, map, filter, refl, ap, sym, ◌∙◌, subst, inl, inr, arith}
use Rattle.std.specs.List.{AllByRecursion, Contains, IsDistinct, flat_map}
use Rattle.std.specs.Cmp.{IsEquivalence}
use Rattle.std.specs.Set.{is_member, unique_keys, distinct_count}
use Rattle.std.proofs.lemmas.Map.Made.{length-le_from_is_member}
use Rattle.dd_store.specs.Size.{is_constant, cofactors, parts}
use Rattle.dd_store.specs.SizeLaws.{MoreIsNotSmaller}
use Rattle.dd_store.proofs.AlikeLemmas.{alike-equivalence}
use Rattle.std.proofs.lemmas.Bool.{true≢false}

-- being in a list, by recursion
abbrev pub In : {X : Type 0} → X → List X → Type 0
In x [] = ⊥
In x (y ∷ ys) = (y ≡ x) ⊎ In x ys

pub in_from : {X : Type 0} (x : X) (xs : List X) → Contains xs x → In x xs
in_from x [] h = absurd (omega (arith, h.1))
in_from x (y ∷ ys) (zero, within, is) = inl is
in_from x (y ∷ ys) (suc k, within, is) = inr (in_from x ys (k, omega arith, is))

pub contains_from : {X : Type 0} (x : X) (xs : List X) → In x xs → Contains xs x
contains_from x [] h = absurd h
contains_from x (y ∷ ys) (inl is) = (0, omega arith, is)
contains_from x (y ∷ ys) (inr rest) = let there = contains_from x ys rest in (suc there.0, omega (arith, there.1), there.2)

pub in_left : {X : Type 0} (x : X) (xs ys : List X) → In x xs → In x (xs ++ ys)
in_left x [] ys h = absurd h
in_left x (z ∷ xs) ys (inl is) = inl is
in_left x (z ∷ xs) ys (inr rest) = inr (in_left x xs ys rest)

pub in_right : {X : Type 0} (x : X) (xs ys : List X) → In x ys → In x (xs ++ ys)
in_right x [] ys h = h
in_right x (z ∷ xs) ys h = inr (in_right x xs ys h)

pub in_parts : {X : Type 0} (x : X) (xs ys : List X) → In x (xs ++ ys) → In x xs ⊎ In x ys
in_parts x [] ys h = inr h
in_parts x (z ∷ xs) ys (inl is) = inl (inl is)
in_parts x (z ∷ xs) ys (inr rest) = elim (in_parts x xs ys rest) [ inl front ↦ inl (inr front) | inr back ↦ inr back ]

-- what comes of one of the elements comes of the list
pub in_each : {X Y : Type 0} (f : X → List Y) (x : X) (xs : List X) (y : Y) → In x xs → In y (f x) → In y (flat_map f xs)
in_each f x [] y h i = absurd h
in_each f x (z ∷ xs) y (inl is) i = in_left y (f z) (flat_map f xs) (subst (λ w. In y (f w)) (sym is) i)
in_each f x (z ∷ xs) y (inr rest) i = in_right y (f z) (flat_map f xs) (in_each f x xs y rest i)

in_more : {X Y : Type 0} (f : X → List Y) (xs ys : List X) → ((x : X) → In x xs → In x ys) → (y : Y) → In y (flat_map f xs) → In y (flat_map f ys)
in_more f [] ys more y h = absurd h
in_more f (x ∷ xs) ys more y h = elim (in_parts y (f x) (flat_map f xs) h) [
  | inl here ↦ in_each f x ys y (more x (inl refl)) here
  | inr rest ↦ in_more f xs ys (λ z i. more z (inr i)) y rest
]

-- what passes a test
pub in_filter : {X : Type 0} (p : X → Bool) (x : X) (xs : List X) → In x xs → p x ≡ true → In x (filter p xs)
in_filter p x [] h pass = absurd h
in_filter p x (z ∷ xs) (inl is) pass = subst (λ b. In x (cond b (z ∷ filter p xs) (filter p xs))) (sym (ap p is ∙ pass)) (inl is)
in_filter p x (z ∷ xs) (inr rest) pass = by (p z) (in_filter p x xs rest pass)
  where
    by : (b : Bool) → In x (filter p xs) → In x (cond b (z ∷ filter p xs) (filter p xs))
    by true i = inr i
    by false i = i

pub from_filter : {X : Type 0} (p : X → Bool) (x : X) (xs : List X) → In x (filter p xs) → In x xs × (p x ≡ true)
from_filter p x [] h = absurd h
from_filter p x (z ∷ xs) h = by (p z) refl h (from_filter p x xs)
  where
    by : (b : Bool) → p z ≡ b → In x (cond b (z ∷ filter p xs) (filter p xs)) → (In x (filter p xs) → In x xs × (p x ≡ true)) → In x (z ∷ xs) × (p x ≡ true)
    by true e (inl is) rest = (inl is, sym (ap p is) ∙ e)
    by true e (inr i) rest = let r = rest i in (inr r.0, r.1)
    by false e i rest = let r = rest i in (inr r.0, r.1)

pub filter_same : {X : Type 0} (p : X → Bool) (xs ys : List X) → ((x : X) → In x xs → In x ys) → (x : X) → In x (filter p xs) → In x (filter p ys)
filter_same p xs ys more x h = let before = from_filter p x xs h in in_filter p x ys (more x before.0) before.1

pub filter_more : {X Y : Type 0} (p : Y → Bool) (f : X → List Y) (xs ys : List X) → ((x : X) → In x xs → In x ys) → (y : Y)
    → In y (filter p (flat_map f xs)) → In y (filter p (flat_map f ys))
filter_more p f xs ys more y h =
    let before = from_filter p y (flat_map f xs) h in
    in_filter p y (flat_map f ys) (in_more f xs ys more y before.0) before.1

module _ {K : Type 0} {eq : K → K → Bool} (laws : IsEquivalence eq) where
  or-right : (a b : Bool) → b ≡ true → (a || b) ≡ true
  or-right true b h = refl
  or-right false b h = h

  member_alike : (xs : List K) (q x : K) → eq q x ≡ true → is_member eq xs q ≡ is_member eq xs x
  member_alike [] q x e = refl
  member_alike (y ∷ ys) q x e = λ i. laws.congr q x y e i || member_alike ys q x e i

  -- what is in a list is a member, and a member is as one that is
  member_from : (x : K) (xs : List K) → In x xs → is_member eq xs x ≡ true
  member_from x [] h = absurd h
  member_from x (y ∷ ys) (inl is) = ap (λ b. b || is_member eq ys x) (ap (λ z. eq x z) is ∙ laws.refl x)
  member_from x (y ∷ ys) (inr rest) = or-right (eq x y) (is_member eq ys x) (member_from x ys rest)

  member_in : (q : K) (xs : List K) → is_member eq xs q ≡ true → (x : K) × In x xs × (eq q x ≡ true)
  member_in q [] h = absurd (true≢false (sym h))
  member_in q (y ∷ ys) h = by (eq q y) refl h (member_in q ys)
    where
      by : (b : Bool) → eq q y ≡ b → (b || is_member eq ys q) ≡ true → (is_member eq ys q ≡ true → (x : K) × In x ys × (eq q x ≡ true))
          → (x : K) × In x (y ∷ ys) × (eq q x ≡ true)
      by true e g rest = (y, inl refl, e)
      by false e g rest = let r = rest g in (r.0, inr r.1, r.2)

  -- the different members are members, each once
  unique_member : (xs : List K) (q : K) → is_member eq (unique_keys eq xs) q ≡ is_member eq xs q
  unique_member [] q = refl
  unique_member (x ∷ xs) q = by (is_member eq xs x) (eq q x) refl refl (unique_member xs q)
    where
      by : (b c : Bool) → is_member eq xs x ≡ b → eq q x ≡ c → is_member eq (unique_keys eq xs) q ≡ is_member eq xs q
          → is_member eq (cond b (unique_keys eq xs) (x ∷ unique_keys eq xs)) q ≡ (c || is_member eq xs q)
      by true true m t r = r ∙ member_alike xs q x t ∙ m
      by true false m t r = r
      by false c m t r = rw t (ap (λ v. c || v) r)

  apart : (x : K) (ys : List K) → is_member eq ys x ≡ false → AllByRecursion (λ y. eq x y ≡ false) ys
  apart x [] h = tt
  apart x (y ∷ ys) h = by (eq x y) refl h (apart x ys)
    where
      by : (b : Bool) → eq x y ≡ b → (b || is_member eq ys x) ≡ false → (is_member eq ys x ≡ false → AllByRecursion (λ y. eq x y ≡ false) ys)
          → (eq x y ≡ false) × AllByRecursion (λ y. eq x y ≡ false) ys
      by true e g r = absurd (true≢false g)
      by false e g r = (e, r g)

  unique_distinct : (xs : List K) → IsDistinct eq (unique_keys eq xs)
  unfolding IsDistinct
  unique_distinct [] = tt
  unique_distinct (x ∷ xs) = by (is_member eq xs x) refl (unique_distinct xs)
    where
      by : (b : Bool) → is_member eq xs x ≡ b → IsDistinct eq (unique_keys eq xs) → IsDistinct eq (cond b (unique_keys eq xs) (x ∷ unique_keys eq xs))
      by true m r = r
      by false m r = (apart x (unique_keys eq xs) (unique_member xs x ∙ m), r)

  -- a list that has all of another has no fewer different members
  pub count_more : (xs ys : List K) → ((x : K) → In x xs → In x ys) → distinct_count eq xs ≤ distinct_count eq ys
  count_more xs ys more =
      length-le_from_is_member laws (unique_keys eq xs) (unique_keys eq ys) (unique_distinct xs)
      (λ q m. unique_member ys q ∙ found q (member_in q xs (sym (unique_member xs q) ∙ m)))
    where
      found : (q : K) → (x : K) × In x xs × (eq q x ≡ true) → is_member eq ys q ≡ true
      found q (x, i, e) = member_alike ys q x e ∙ member_from x ys (more x i)

-- a list that stands for another, element by element
module _ {X Y : Type 0} (Good : X → Type 0) (h : X → Y) where
  abbrev AllGood : List X → Type 0
  AllGood = AllByRecursion Good

  filter_map : (p : X → Bool) (q : Y → Bool) → ((x : X) → Good x → q (h x) ≡ p x) → (xs : List X) → AllGood xs
      → filter q (map h xs) ≡ map h (filter p xs)
  filter_map p q same [] good = refl
  filter_map p q same (x ∷ xs) good = by (p x) (same x good.0) (filter_map p q same xs good.1)
    where
      by : (b : Bool) → q (h x) ≡ b → filter q (map h xs) ≡ map h (filter p xs)
          → cond (q (h x)) (h x ∷ filter q (map h xs)) (filter q (map h xs)) ≡ map h (cond b (x ∷ filter p xs) (filter p xs))
      by true e r = rw e (ap (λ zs. h x ∷ zs) r)
      by false e r = rw e r

  good_filter : (p : X → Bool) (xs : List X) → AllGood xs → AllGood (filter p xs)
  good_filter p [] good = tt
  good_filter p (x ∷ xs) good = by (p x) (good_filter p xs good.1)
    where
      by : (b : Bool) → AllGood (filter p xs) → AllGood (cond b (x ∷ filter p xs) (filter p xs))
      by true r = (good.0, r)
      by false r = r

  module _ (eq : X → X → Bool) (eq' : Y → Y → Bool) (same : (x y : X) → Good x → Good y → eq' (h x) (h y) ≡ eq x y) where
    member_map : (x : X) (xs : List X) → Good x → AllGood xs → is_member eq' (map h xs) (h x) ≡ is_member eq xs x
    member_map x [] is good = refl
    member_map x (y ∷ ys) is good = rw (same x y is good.0, member_map x ys is good.1) refl

    count_map : (xs : List X) → AllGood xs → distinct_count eq' (map h xs) ≡ distinct_count eq xs
    count_map [] good = refl
    count_map (x ∷ xs) good = rw (member_map x xs good.0 good.1) (by (is_member eq xs x) (count_map xs good.1))
      where
        by : (b : Bool) → length (unique_keys eq' (map h xs)) ≡ length (unique_keys eq xs)
            → length (cond b (unique_keys eq' (map h xs)) (h x ∷ unique_keys eq' (map h xs))) ≡ length (cond b (unique_keys eq xs) (x ∷ unique_keys eq xs))
        by true r = r
        by false r = ap suc r

    -- has as many different elements that pass
    pub count_stands : (p : X → Bool) (q : Y → Bool) → ((x : X) → Good x → q (h x) ≡ p x) → (xs : List X) → AllGood xs
        → distinct_count eq' (filter q (map h xs)) ≡ distinct_count eq (filter p xs)
    count_stands p q passes xs good =
        ap (distinct_count eq') (filter_map p q passes xs good) ∙ count_map (filter p xs) (good_filter p xs good)

-- the law on more functions
pub more-size : MoreIsNotSmaller
more-size order few more has =
    count_more (alike-equivalence order) (parts order few) (parts order more)
    (filter_more (λ f. not (is_constant order f)) (cofactors order) few more (λ f is. in_from f more (has f (contains_from f few is))))
