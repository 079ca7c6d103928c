-- A variable that is added last: the levels above it, the values and the table stay as they are.
use Rattle.std.proofs.Common.{◌≡◌, ◌≢◌, ◌⊎◌, ℕ, Bool, ◌==◌, ◌+◌, ◌<◌, ◌≤◌, suc, true, false, cond, List, [], ◌∷◌, ◌++◌, length, Option, Some, None, get_or, refl, ap, sym, ◌∙◌, inl, inr, arith, length-append}
use Rattle.std.proofs.lemmas.Bool.{cases_lt, eqb-true, eqb-false, eq-eqb, ne_eqb}
use Rattle.std.proofs.lemmas.List.{get_or_append_left}
use Rattle.std.proofs.Math.Seq.{get_or-append_seam}
use Rattle.dd_store.specs.declared.row.Row.{Row}
use Rattle.dd_store.specs.declared.row.Var.{Var}
use Rattle.dd_store.specs.Order.{level_in, level_of_row, IsIn, IsDistinct}
use Rattle.dd_store.specs.Follow.{end_of, step, follow}
use Rattle.dd_store.specs.Table.{Table, row_of, value_of, level_of, AreReduced, IsSound}
use Rattle.dd_store.specs.Kept.{Index, IsKept}
use Rattle.dd_store.proofs.ReadLemmas.{level_in-≤}

-- the variable is missing
abbrev IsAbsent : List Var → ℕ → Type 0
IsAbsent vs w = level_in vs w ≡ length vs

-- a variable that is there keeps its level
pub level_in-push : (xs : List Var) (v : Var) (w : ℕ) → IsIn xs w → level_in (xs ++ v ∷ []) w ≡ level_in xs w
level_in-push [] v w inside = absurd (omega arith)
level_in-push (x ∷ xs) v w inside = by (x.0 == w) inside (level_in-push xs v w)
  where
    by : (t : Bool) → cond t 0 (suc (level_in xs w)) < suc (length xs) → (IsIn xs w → level_in (xs ++ v ∷ []) w ≡ level_in xs w)
        → cond t 0 (suc (level_in (xs ++ v ∷ []) w)) ≡ cond t 0 (suc (level_in xs w))
    by true inside rest = refl
    by false inside rest = ap suc (rest (omega arith))

-- one that isn't there comes behind all the others
level_in-past : (xs : List Var) (v : Var) (w : ℕ) → IsAbsent xs w → level_in (xs ++ v ∷ []) w ≡ length xs + level_in (v ∷ []) w
level_in-past [] v w absent = omega arith
level_in-past (x ∷ xs) v w absent = by (x.0 == w) absent (level_in-past xs v w)
  where
    by : (t : Bool) → cond t 0 (suc (level_in xs w)) ≡ suc (length xs) → (IsAbsent xs w → level_in (xs ++ v ∷ []) w ≡ length xs + level_in (v ∷ []) w)
        → cond t 0 (suc (level_in (xs ++ v ∷ []) w)) ≡ suc (length xs) + level_in (v ∷ []) w
    by true absent rest = absurd (omega arith)
    by false absent rest = let more = rest (omega arith) in omega arith

-- the new variable itself
level_in-last : (xs : List Var) (v : Var) → IsAbsent xs v.0 → level_in (xs ++ v ∷ []) v.0 ≡ length xs
level_in-last xs v absent =
    let here : level_in (v ∷ []) v.0 ≡ 0 = rw (eq-eqb v.0 v.0 refl) refl in
    let past = level_in-past xs v v.0 absent in
    omega arith

-- no variable stands twice
distinct-push : (xs : List Var) (v : Var) → IsDistinct xs → IsAbsent xs v.0 → IsDistinct (xs ++ v ∷ [])
distinct-push [] v distinct absent = (refl, tt)
distinct-push (x ∷ xs) v distinct absent = by (x.0 == v.0) refl absent (distinct-push xs v distinct.1)
  where
    by : (t : Bool) → (x.0 == v.0) ≡ t → cond t 0 (suc (level_in xs v.0)) ≡ suc (length xs) → (IsAbsent xs v.0 → IsDistinct (xs ++ v ∷ []))
        → IsDistinct ((x ∷ xs) ++ v ∷ [])
    by true e absent rest = absurd (omega arith)
    by false e absent rest =
        let other : (v.0 == x.0) ≡ false = ne_eqb v.0 x.0 (λ same. eqb-false x.0 v.0 e (sym same)) in
        let one : level_in (v ∷ []) x.0 ≡ 1 = rw other refl in
        let past = level_in-past xs v x.0 distinct.0 in
        let more = length-append xs (v ∷ []) in
        (omega arith, rest (omega arith))

-- the level of a node stays, and a constant's isn't higher
level_of_row-push : (xs : List Var) (v : Var) (o : Option Row) → ((r : Row) → o ≡ Some r → IsIn xs r.var.0) → level_of_row xs o ≤ level_of_row (xs ++ v ∷ []) o
level_of_row-push xs v None tested = simp length-append (omega arith)
level_of_row-push xs v (Some r) tested = let same = level_in-push xs v r.var.0 (tested r refl) in omega arith

-- rows stay reduced
reduced-push : (xs : List Var) (v : Var) (rows : ℕ → Option Row) → AreReduced xs rows → IsAbsent xs v.0 → AreReduced (xs ++ v ∷ []) rows
reduced-push xs v rows reduced absent = record {
  distinct = distinct-push xs v reduced.distinct absent;
  no_is_constant = reduced.no_is_constant;
  yes_is_constant = reduced.yes_is_constant;
  tested = λ n r is.
      let level = level_in-push xs v r.var.0 (reduced.tested n r is) in
      let inside = reduced.tested n r is in
      simp length-append (omega arith);
  ends_there = reduced.ends_there;
  ends_below = λ n r b is.
      let level = level_in-push xs v r.var.0 (reduced.tested n r is) in
      let below = reduced.ends_below n r b is in
      let more = level_of_row-push xs v (rows (end_of r b)) (reduced.tested (end_of r b)) in
      omega arith;
  ends_differ = reduced.ends_differ;
  unique = reduced.unique;
}

-- following passes the new variable last
follow-push : (xs : List Var) (v : Var) (rows : ℕ → Option Row) (a : ℕ → Bool) (n : ℕ)
    → follow (xs ++ v ∷ []) rows a n ≡ step (rows (follow xs rows a n)) v.0 (follow xs rows a n) (a v.0)
follow-push [] v rows a n = refl
follow-push (x ∷ xs) v rows a n = follow-push xs v rows a _

-- which no node tests
follow-same_end : (xs : List Var) (v : Var) (rows : ℕ → Option Row) (a : ℕ → Bool) (n : ℕ) → AreReduced xs rows → IsAbsent xs v.0
    → follow (xs ++ v ∷ []) rows a n ≡ follow xs rows a n
follow-same_end xs v rows a n reduced absent = follow-push xs v rows a n ∙ by (rows m) refl
  where
    m : ℕ
    m = follow xs rows a n

    by : (o : Option Row) → rows m ≡ o → step o v.0 m (a v.0) ≡ m
    by None e = refl
    by (Some r) e =
        let inside = reduced.tested m r e in
        let other : v.0 ≢ r.var.0 = λ same. (let here = rw (← same) at inside in absurd (omega arith)) in
        rw (ne_eqb v.0 r.var.0 other) refl

-- the table with a variable more
abbrev pub with_variable : Table → Var → Table
with_variable t v = record t { order = t.order ++ v ∷ [] }

-- the number of the variables is no variable yet
absent-next : (t : Table) (v : Var) → IsSound t → v.0 ≡ length t.order → IsAbsent t.order v.0
absent-next t v sound next =
    let most = level_in-≤ t.order v.0 in
    elim (cases_lt (level_in t.order v.0) (length t.order)) [
      | inl inside ↦ absurd (let less = sound.numbered v.0 inside in omega arith)
      | inr past ↦ omega arith
    ]

-- every number has its value
pub value_of-with_variable : (t : Table) (v : Var) → IsSound t → v.0 ≡ length t.order → (n : ℕ) (a : ℕ → Bool) → value_of (with_variable t v) n a ≡ value_of t n a
value_of-with_variable t v sound next n a =
    ap (λ m. m == 1) (follow-same_end t.order v (row_of t) a n sound.reduced.rows (absent-next t v sound next))

-- the table is as sound
pub sound-with_variable : (t : Table) (v : Var) → IsSound t → v.0 ≡ length t.order → length t.order ≢ 4096 → IsSound (with_variable t v)
sound-with_variable t v sound next room = record {
  reduced = record { rows = reduced-push t.order v (row_of t) sound.reduced.rows absent; live = sound.reduced.live };
  numbered = λ w inside. numbered' w inside (cases_lt (level_in t.order w) (length t.order));
  has_numbers = λ w small. has_numbers' w small (cases_lt w (length t.order));
  few_variables = let few = sound.few_variables in simp length-append (omega arith);
  within_budget = sound.within_budget;
  enough = sound.enough;
  not_too_much = sound.not_too_much;
}
  where
    absent : IsAbsent t.order v.0
    absent = absent-next t v sound next

    numbered' : (w : ℕ) → IsIn (t.order ++ v ∷ []) w → (level_in t.order w < length t.order) ⊎ (length t.order ≤ level_in t.order w) → w < length (t.order ++ v ∷ [])
    numbered' w inside (inl before) = let small = sound.numbered w before in simp length-append (omega arith)
    numbered' w inside (inr past) =
        let most = level_in-≤ t.order w in
        let level = level_in-past t.order v w (omega arith) in
        let inside' = simp length-append at inside in
        last (v.0 == w) refl (omega arith)
      where
        last : (b : Bool) → (v.0 == w) ≡ b → cond b 0 1 < 1 → w < length (t.order ++ v ∷ [])
        last true e small = let is = eqb-true v.0 w e in simp length-append (omega arith)
        last false e small = absurd (omega arith)

    has_numbers' : (w : ℕ) → w < length (t.order ++ v ∷ []) → (w < length t.order) ⊎ (length t.order ≤ w) → IsIn (t.order ++ v ∷ []) w
    has_numbers' w small (inl before) =
        let inside = sound.has_numbers w before in
        let level = level_in-push t.order v w inside in
        simp length-append (omega arith)
    has_numbers' w small (inr past) =
        let small' = simp length-append at small in
        let is : w ≡ v.0 = omega arith in
        let level = level_in-last t.order v absent in
        rw is (simp length-append (omega arith))

-- and the fields are tied to it as before
pub kept-with_variable : (t : Table) (i : Index) (v : Var) → IsKept t i → v.0 ≡ length t.order
    → length t.order ≢ 4096 → (variables : ℕ) → variables ≡ i.variables + 1
    → IsKept (with_variable t v) (record i { variables = variables; levels = i.levels ++ v.0 ∷ [] })
kept-with_variable t i v kept next room variables one_more = record {
  sound = sound-with_variable t v kept.sound next room;
  constants = kept.constants;
  counted = kept.counted;
  known = one_more ∙ ap (λ k. k + 1) kept.known ∙ sym (length-append t.order (v ∷ []));
  unmarked = kept.unmarked;
  live_is = kept.live_is;
  leveled = length-append i.levels (v.0 ∷ []) ∙ ap (λ k. k + 1) kept.leveled ∙ sym (length-append t.order (v ∷ []));
  level_is = λ w small. level_is' w small (cases_lt w (length t.order));
}
  where
    level_is' : (w : ℕ) → w < length (t.order ++ v ∷ []) → (w < length t.order) ⊎ (length t.order ≤ w)
        → get_or (i.levels ++ v.0 ∷ []) w 0 ≡ level_in (t.order ++ v ∷ []) w
    level_is' w small (inl before) =
        let leveled = kept.leveled in
        get_or_append_left i.levels (v.0 ∷ []) 0 w (omega arith) ∙ kept.level_is w before ∙ sym (level_in-push t.order v w (kept.sound.has_numbers w before))
    level_is' w small (inr past) =
        let small' = simp length-append at small in
        let is : w ≡ length i.levels = let leveled = kept.leveled in omega arith in
        let same : w ≡ v.0 = omega arith in
        let last : get_or (i.levels ++ v.0 ∷ []) w 0 ≡ length t.order =
        ap (λ k. get_or (i.levels ++ v.0 ∷ []) k 0) is ∙ get_or-append_seam i.levels v.0 [] 0 ∙ next in
        last ∙ sym (ap (level_in (t.order ++ v ∷ [])) same ∙ level_in-last t.order v (absent-next t v kept.sound next))

-- the new variable stands below all the others
pub level_of-with_variable : (t : Table) (v : Var) → IsSound t → v.0 ≡ length t.order → level_of (with_variable t v) v.0 ≡ length t.order
level_of-with_variable t v sound next = level_in-last t.order v (absent-next t v sound next)
