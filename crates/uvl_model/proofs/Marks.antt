-- Marks that say of each name of a list whether it is in a set.
use Rattle.std.proofs.Common.{◌≡◌, ℕ, zero, suc, ◌+◌, ◌<◌, unwrap_or, Bool, true, false, List, [], ◌∷◌, ◌++◌, length, map, slice_get, Some, Contains, refl, sym, ◌∙◌, subst, add-one, arith, if◌then◌else◌}
use Rattle.std.proofs.lemmas.Bool.{or_left}
use Rattle.std.proofs.lemmas.List.Elements.{Contains-append_right, Contains-get_or}
use Rattle.uvl_model.specs.Check.{is_marked}
use Rattle.uvl_model.specs.Marks.{StandFor}
use Rattle.uvl_semantics.specs.Family.{marked}
use Rattle.uvl_semantics.specs.Product.{has}
use Rattle.uvl_model.specs.Sound.{AreDistinct}
use Rattle.uvl_model.specs.Spelling.{numbered}
use Rattle.uvl_semantics.proofs.Membership.{bytes_eq-same, bytes_eq-other, has-absent, marked_absent}

-- the mark at n says whether the first name is in the set, and so on
abbrev pub AgreeFrom : List Bool → List (List ℕ) → ℕ → List (List ℕ) → Type 0
AgreeFrom marks set n [] = Unit {0}
AgreeFrom marks set n (name ∷ names) = (has set name ≡ is_marked marks (numbered n)) × AgreeFrom marks set (n + 1) names

-- the names of two lists, one after the other
pub agree_parts : (marks : List Bool) (set xs ys : List (List ℕ)) (n : ℕ) → AgreeFrom marks set n (xs ++ ys)
    → AgreeFrom marks set n xs × AgreeFrom marks set (n + length xs) ys
agree_parts marks set [] ys n h =
    let here : n ≡ n + 0 = omega arith in
    (tt, subst (λ (m : ℕ). AgreeFrom marks set m ys) here h)
agree_parts marks set (x ∷ xs) ys n h =
    let parts = agree_parts marks set xs ys (n + 1) h.1 in
    let here : n + 1 + length xs ≡ n + length (x ∷ xs) = omega arith in
    ((h.0, parts.0), subst (λ (m : ℕ). AgreeFrom marks set m ys) here parts.1)

-- one mark more in front, and a set that has the same of the names
agree_behind : (b : Bool) (marks : List Bool) (set next : List (List ℕ)) (n : ℕ) (xs : List (List ℕ))
    → ((x : List ℕ) → Contains xs x → has next x ≡ has set x) → AgreeFrom marks set n xs → AgreeFrom (b ∷ marks) next (n + 1) xs
agree_behind b marks set next n [] same h = tt
agree_behind b marks set next n (x ∷ xs) same h =
    let here : is_marked marks (numbered n) ≡ is_marked (b ∷ marks) (numbered (n + 1)) = rw (add-one) refl in (
      same x (Contains-get_or (x ∷ xs) 0 x (omega arith)) ∙ h.0 ∙ here,
      agree_behind b marks set next (n + 1) xs (λ z c. same z (Contains-append_right (x ∷ []) xs z c)) h.1,
    )

-- no marks agree with the empty set
none_agree : (n : ℕ) (names : List (List ℕ)) → AgreeFrom [] [] n names
none_agree n [] = tt
none_agree n (y ∷ ys) = (refl, none_agree (n + 1) ys)

-- the marks of distinct names agree with the set of the marked names, where a name beyond the end of the marks isn't marked
pub marks_agree : (names : List (List ℕ)) (marks : List Bool) → AreDistinct names → AgreeFrom marks (marked names marks) 0 names
marks_agree [] marks d = tt
marks_agree (y ∷ ys) [] d = none_agree 0 (y ∷ ys)
marks_agree (y ∷ ys) (b ∷ bs) d =
    let absent = marked_absent ys bs y (has-absent ys y d.0) in
    let head = elim b as (λ v. has (if v then y ∷ marked ys bs else marked ys bs) y ≡ v) [ true ↦ or_left _ _ (bytes_eq-same y) | false ↦ absent ] in
    let others = elim b as (λ v. (x : List ℕ) → Contains ys x → has (if v then y ∷ marked ys bs else marked ys bs) x ≡ has (marked ys bs) x)
    [ true ↦ λ x c. rw (bytes_eq-other ys x y d.0 c) refl | false ↦ λ x c. refl ] in
    (head, agree_behind b bs (marked ys bs) (if b then y ∷ marked ys bs else marked ys bs) 0 ys others (marks_agree ys bs d.1))

-- the marks that a set gives to names agree with it
pub given_marks_agree : (set names : List (List ℕ)) → AgreeFrom (map (has set) names) set 0 names
given_marks_agree set [] = tt
given_marks_agree set (y ∷ ys) = (refl, agree_behind (has set y) (map (has set) ys) set set 0 ys (λ x c. refl) (given_marks_agree set ys))

-- marks that say it of each number agree with the set
pub each_agrees : (marks : List Bool) (set names : List (List ℕ)) (n : ℕ)
    → ((k : ℕ) (name : List ℕ) → slice_get names k ≡ Some name → is_marked marks (numbered (n + k)) ≡ has set name) → AgreeFrom marks set n names
each_agrees marks set [] n each = tt
each_agrees marks set (y ∷ ys) n each =
    let first : n + 0 ≡ n = omega arith in (
      sym (subst (λ (m : ℕ). is_marked marks (numbered m) ≡ has set y) first (each 0 y refl)),
      each_agrees marks set ys (n + 1) (λ k name at.
          let later : n + suc k ≡ n + 1 + k = omega arith in
          subst (λ (m : ℕ). is_marked marks (numbered m) ≡ has set name) later (each (suc k) name at)),
    )

-- marks that stand for a set agree with it
pub stand_agree : (names : List (List ℕ)) (marks : List Bool) (set : List (List ℕ)) → StandFor names marks set → AgreeFrom marks set 0 names
stand_agree names marks set stand =
    each_agrees marks set names 0 (λ k name at.
    let here : k ≡ 0 + k = omega arith in subst (λ (m : ℕ). is_marked marks (numbered m) ≡ has set name) here (stand.marked k name at))

-- marks that agree with a set say of each name whether it is in the set
pub agree_at : (marks : List Bool) (set names : List (List ℕ)) (n : ℕ) → AgreeFrom marks set n names → (k : ℕ) → k < length names
    → is_marked marks (numbered (n + k)) ≡ has set (unwrap_or (slice_get names k) [])
agree_at marks set [] n h k inside = absurd (omega arith)
agree_at marks set (y ∷ ys) n h zero inside =
    let here : n ≡ n + 0 = omega arith in
    subst (λ (m : ℕ). is_marked marks (numbered m) ≡ has set y) here (sym h.0)
agree_at marks set (y ∷ ys) n h (suc k) inside =
    let here : n + 1 + k ≡ n + suc k = omega arith in
    let within : k < length ys = omega arith in
    subst (λ (m : ℕ). is_marked marks (numbered m) ≡ has set (unwrap_or (slice_get ys k) [])) here (agree_at marks set ys (n + 1) h.1 k within)
