-- What import lines offer, one after another.
use Rattle.std.proofs.Common.{◌≡◌, ℕ, suc, ◌+◌, ◌-◌, ◌≤◌, Bool, true, false, cond, List, [], ◌∷◌, ◌++◌, length, Option, Some, None, slice_get, position, refl, sym, ap, ◌∙◌, arith, not, if◌then◌else◌}
use Rattle.std.specs.Prelude.{◌||◌}
use Rattle.std.specs.Option.{option_or, option_and_then}
use Rattle.std.specs.List.{position_from}
use Rattle.std.specs.Str.{bytes_eq}
use Rattle.std.proofs.lemmas.Bool.{false≢true}
use Rattle.std.proofs.lemmas.Iterator.Adapters.{position_from-zero}
use Rattle.std.proofs.lemmas.Slice.Eq.{bytes_eq-Decides}
use Rattle.uvl_ast.specs.declared.file.Import.{Import}
use Rattle.uvl_placing.specs.Names.{qualifier_of, target_called}
use Rattle.uvl_semantics.specs.Product.{has}
use Rattle.uvl_scope.specs.Firsts.{beside, when}
use Rattle.uvl_scope.proofs.InOrder.{or_assoc}

or_when : {A : Type 0} (b : Bool) (x : A) (rest : Option A) → (if b then Some x else rest) ≡ option_or (when b x) rest
or_when true x rest = refl
or_when false x rest = refl

-- one more at the end
pub among-push : (qualifier new : List ℕ) (target : ℕ) (qualifiers : List (List ℕ)) (targets : List ℕ) → length qualifiers ≡ length targets
    → beside qualifier (qualifiers ++ new ∷ []) (targets ++ target ∷ [])
    ≡ option_or (beside qualifier qualifiers targets) (when (bytes_eq qualifier new) target)
among-push qualifier new target [] [] even = refl
among-push qualifier new target [] (t ∷ targets) even = absurd (omega (arith, even))
among-push qualifier new target (q ∷ qualifiers) [] even = absurd (omega (arith, even))
among-push qualifier new target (q ∷ qualifiers) (t ∷ targets) even =
    or_when (bytes_eq qualifier q) t (beside qualifier (qualifiers ++ new ∷ []) (targets ++ target ∷ []))
    ∙ ap (option_or (when (bytes_eq qualifier q) t)) (among-push qualifier new target qualifiers targets (omega (arith, even)))
    ∙ sym (or_assoc (when (bytes_eq qualifier q) t) (beside qualifier qualifiers targets) (when (bytes_eq qualifier new) target))
    ∙ ap (λ (o : Option ℕ). option_or o (when (bytes_eq qualifier new) target)) (sym (or_when (bytes_eq qualifier q) t (beside qualifier qualifiers targets)))

-- one that is known adds nothing
pub among-known : (qualifier new : List ℕ) (target : ℕ) (qualifiers : List (List ℕ)) (targets : List ℕ) → length qualifiers ≡ length targets
    → has qualifiers new ≡ true
    → beside qualifier qualifiers targets ≡ option_or (beside qualifier qualifiers targets) (when (bytes_eq qualifier new) target)
among-known qualifier new target [] targets even known = absurd (false≢true known)
among-known qualifier new target (q ∷ qualifiers) [] even known = absurd (omega (arith, even))
among-known qualifier new target (q ∷ qualifiers) (t ∷ targets) even known =
    by (λ k. among-known qualifier new target qualifiers targets (omega (arith, even)) k) (bytes_eq qualifier q) refl (bytes_eq new q) refl (bytes_eq qualifier new) refl
  where
    by : (has qualifiers new ≡ true → beside qualifier qualifiers targets ≡ option_or (beside qualifier qualifiers targets) (when (bytes_eq qualifier new) target))
        → (here : Bool) → bytes_eq qualifier q ≡ here → (there : Bool) → bytes_eq new q ≡ there → (same : Bool) → bytes_eq qualifier new ≡ same
        → (if here then Some t else beside qualifier qualifiers targets)
        ≡ option_or (if here then Some t else beside qualifier qualifiers targets) (when same target)
    by further true is there at same e = refl
    by further false is there at false e = or_none (beside qualifier qualifiers targets)
      where
        or_none : (o : Option ℕ) → o ≡ option_or o None
        or_none None = refl
        or_none (Some x) = refl
    by further false is true at true e =
        let one : qualifier ≡ new = (bytes_eq-Decides qualifier new).0 e in
        let two : new ≡ q = (bytes_eq-Decides new q).0 at in
        absurd (false≢true (sym is ∙ (bytes_eq-Decides qualifier q).1 (one ∙ two)))
    by further false is false at true e =
        further (ap (λ (b : Bool). b || has qualifiers new) (sym at) ∙ known)
        ∙ ap (λ (b : Bool). option_or (beside qualifier qualifiers targets) (when b target)) e

-- the lines in front are in the index, and those that are left come behind them
pub record OffersGoOn (qualifiers : List (List ℕ)) (found : List ℕ) (lines : List Import) (targets : List ℕ) (all : List Import) (all_targets : List ℕ) : Type 0 where
  pub even : length qualifiers ≡ length found
  pub left : (qualifier : List ℕ) → option_or (beside qualifier qualifiers found) (target_called qualifier lines targets) ≡ target_called qualifier all all_targets

pub offers_step : (qualifiers new_qualifiers : List (List ℕ)) (found new_found : List ℕ) (line : Import) (lines : List Import) (target : ℕ) (targets : List ℕ)
    (all : List Import) (all_targets : List ℕ) → OffersGoOn qualifiers found (line ∷ lines) (target ∷ targets) all all_targets
    → length new_qualifiers ≡ length new_found
    → ((qualifier : List ℕ) → beside qualifier new_qualifiers new_found ≡ option_or (beside qualifier qualifiers found) (when (bytes_eq qualifier (qualifier_of line)) target))
    → OffersGoOn new_qualifiers new_found lines targets all all_targets
offers_step qualifiers new_qualifiers found new_found line lines target targets all all_targets go even added = record {
  even = even;
  left = λ q. ap (λ (o : Option ℕ). option_or o (target_called q lines targets)) (added q)
      ∙ or_assoc (beside q qualifiers found) (when (bytes_eq q (qualifier_of line)) target) (target_called q lines targets)
      ∙ ap (option_or (beside q qualifiers found)) (sym (or_when (bytes_eq q (qualifier_of line)) target (target_called q lines targets)))
      ∙ go.left q;
}

-- where no line or no target is left, all are in the index
pub offers_end : (qualifiers : List (List ℕ)) (found : List ℕ) (lines : List Import) (targets : List ℕ) (all : List Import) (all_targets : List ℕ)
    → OffersGoOn qualifiers found lines targets all all_targets → ((q : List ℕ) → target_called q lines targets ≡ None)
    → (qualifier : List ℕ) → beside qualifier qualifiers found ≡ target_called qualifier all all_targets
offers_end qualifiers found lines targets all all_targets go none q =
    or_none (beside q qualifiers found) ∙ ap (option_or (beside q qualifiers found)) (sym (none q)) ∙ go.left q
  where
    or_none : (o : Option ℕ) → o ≡ option_or o None
    or_none None = refl
    or_none (Some x) = refl

-- the target at the place of a qualifier is that beside it
at_or_past : (p : List ℕ → Bool) (i n : ℕ) (xs : List (List ℕ)) → position_from p i xs ≡ Some n → i ≤ n
at_or_past p i n [] h = (cc h)
at_or_past p i n (x ∷ xs) h = by (at_or_past p (i + 1) n xs) (p x) h
  where
    by : (position_from p (i + 1) xs ≡ Some n → i + 1 ≤ n) → (b : Bool) → cond b (Some i) (position_from p (i + 1) xs) ≡ Some n → i ≤ n
    by further true e = let same : i ≡ n = (cc e) in omega (arith, same)
    by further false e = omega (arith, further e)

none_of : {A : Type 0} (i : ℕ) (o : Option ℕ) → option_and_then (λ (n : ℕ). slice_get {X = A} [] (n - i)) o ≡ None
none_of {A} i None = refl
none_of {A} i (Some n) = refl

among_from : {A : Type 0} (qualifier : List ℕ) (i : ℕ) (qualifiers : List (List ℕ)) (targets : List A)
    → option_and_then (λ (n : ℕ). slice_get targets (n - i)) (position_from (bytes_eq qualifier) i qualifiers) ≡ beside qualifier qualifiers targets
among_from {A} qualifier i [] targets = refl
among_from {A} qualifier i (q ∷ qualifiers) [] = none_of {A = A} i (position_from (bytes_eq qualifier) i (q ∷ qualifiers))
among_from {A} qualifier i (q ∷ qualifiers) (t ∷ targets) = by (among_from qualifier (i + 1) qualifiers targets) (bytes_eq qualifier q)
  where
    further : (o : Option ℕ) → ((n : ℕ) → o ≡ Some n → i + 1 ≤ n)
        → option_and_then (λ (n : ℕ). slice_get (t ∷ targets) (n - i)) o ≡ option_and_then (λ (n : ℕ). slice_get targets (n - (i + 1))) o
    further None past = refl
    further (Some n) past =
        let e : n - i ≡ suc (n - (i + 1)) = omega (arith, past n refl) in
        ap (slice_get (t ∷ targets)) e

    by : option_and_then (λ (n : ℕ). slice_get targets (n - (i + 1))) (position_from (bytes_eq qualifier) (i + 1) qualifiers) ≡ beside qualifier qualifiers targets
        → (b : Bool) → option_and_then (λ (n : ℕ). slice_get (t ∷ targets) (n - i)) (cond b (Some i) (position_from (bytes_eq qualifier) (i + 1) qualifiers))
        ≡ (if b then Some t else beside qualifier qualifiers targets)
    by rest true = let e : i - i ≡ 0 = omega arith in ap (slice_get (t ∷ targets)) e
    by rest false =
        further (position_from (bytes_eq qualifier) (i + 1) qualifiers) (λ n. at_or_past (bytes_eq qualifier) (i + 1) n qualifiers)
        ∙ rest

pub among_at : {A : Type 0} (qualifier : List ℕ) (qualifiers : List (List ℕ)) (targets : List A) (place : Option ℕ) → place ≡ position (bytes_eq qualifier) qualifiers
    → option_and_then (slice_get targets) place ≡ beside qualifier qualifiers targets
among_at {A} qualifier qualifiers targets place is =
    ap (option_and_then (slice_get targets)) (is ∙ position_from-zero (bytes_eq qualifier) qualifiers)
    ∙ same_shift (position_from (bytes_eq qualifier) 0 qualifiers) ∙ among_from qualifier 0 qualifiers targets
  where
    same_shift : (o : Option ℕ) → option_and_then (slice_get targets) o ≡ option_and_then (λ (n : ℕ). slice_get targets (n - 0)) o
    same_shift None = refl
    same_shift (Some n) = let e : n ≡ n - 0 = omega arith in ap (slice_get targets) e

-- a qualifier that is known, and one that is new
pub add_known : (q new text : List ℕ) (target : ℕ) (qualifiers next : List (List ℕ)) (targets : List ℕ) (is_new : Bool) → length qualifiers ≡ length targets
    → text ≡ new → is_new ≡ not (has qualifiers text) → is_new ≡ false → next ≡ (if is_new then qualifiers ++ text ∷ [] else qualifiers)
    → beside q next targets ≡ option_or (beside q qualifiers targets) (when (bytes_eq q new) target)
add_known q new text target qualifiers next targets is_new even same tells old becomes =
    ap (λ (qs : List (List ℕ)). beside q qs targets) (becomes ∙ ap (λ (b : Bool). if b then qualifiers ++ text ∷ [] else qualifiers) old)
    ∙ among-known q new target qualifiers targets even (ap (has qualifiers) (sym same) ∙ not_not (has qualifiers text) (sym tells ∙ old))
  where
    not_not : (b : Bool) → not b ≡ false → b ≡ true
    not_not true h = refl
    not_not false h = absurd (false≢true (sym h))

pub add_new : (q new text : List ℕ) (target : ℕ) (qualifiers next : List (List ℕ)) (targets others : List ℕ) (is_new : Bool) → length qualifiers ≡ length targets
    → text ≡ new → is_new ≡ true → next ≡ (if is_new then qualifiers ++ text ∷ [] else qualifiers) → others ≡ targets ++ target ∷ []
    → beside q next others ≡ option_or (beside q qualifiers targets) (when (bytes_eq q new) target)
add_new q new text target qualifiers next targets others is_new even same fresh becomes pushed =
    ap (λ (qs : List (List ℕ)). beside q qs others)
    (becomes ∙ ap (λ (b : Bool). if b then qualifiers ++ text ∷ [] else qualifiers) fresh ∙ ap (λ (t : List ℕ). qualifiers ++ t ∷ []) same)
    ∙ ap (beside q (qualifiers ++ new ∷ [])) pushed ∙ among-push q new target qualifiers targets even
