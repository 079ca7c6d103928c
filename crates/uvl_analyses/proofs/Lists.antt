-- Features that pass a test, in document order.
use Rattle.std.proofs.Common.{◌≡◌, ℕ, zero, suc, ◌+◌, ◌<◌, ◌≤◌, Bool, true, false, cond, filter, map, List, [], ◌∷◌, ◌++◌, length, refl, sym, ap, ◌∙◌, arith, append-nil}
use Rattle.std.specs.List.{All, range_with_len}
use Rattle.std.proofs.lemmas.List.{length-map}
use Rattle.std.proofs.lemmas.List.Elements.{All-nil, All-cons, All-filter}
use Rattle.std.proofs.lemmas.List.FromFn.{filter_of_map_range_with_len_more}
use Rattle.uvl_model.specs.declared.rows.FeatureNo.{FeatureNo}
use Rattle.uvl_model.specs.Names.{feature_names, name_of}
use Rattle.uvl_model.specs.Rows.{Rows}
use Rattle.uvl_model.specs.Spelling.{numbered}
use Rattle.uvl_analyses.specs.Members.{AreThere, all_features, name_in}

-- the features up to a number that pass
abbrev pub passing : (FeatureNo → Bool) → ℕ → List FeatureNo
passing test n = filter test (map numbered (range_with_len 0 n))

one_more : (test : FeatureNo → Bool) (n : ℕ) → passing test (n + 1) ≡ passing test n ++ cond (test (numbered n)) (numbered n ∷ []) []
one_more test n = filter_of_map_range_with_len_more test numbered 0 n n (omega arith)

-- the next one does
pub passes : (test : FeatureNo → Bool) (n : ℕ) (features : List FeatureNo) → features ≡ passing test n → test (numbered n) ≡ true → features ++ numbered n ∷ [] ≡ passing test (n + 1)
passes test n features is here =
    ap (λ front. front ++ numbered n ∷ []) is ∙ ap (λ b. passing test n ++ cond b (numbered n ∷ []) []) (sym here) ∙ sym (one_more test n)

-- the next one doesn't
pub passes_not : (test : FeatureNo → Bool) (n : ℕ) (features : List FeatureNo) → features ≡ passing test n → test (numbered n) ≡ false → features ≡ passing test (n + 1)
passes_not test n features is out =
    is ∙ sym (append-nil (passing test n)) ∙ ap (λ b. passing test n ++ cond b (numbered n ∷ []) []) (sym out) ∙ sym (one_more test n)

same_from : (first second : FeatureNo → Bool) (from n : ℕ) → ((k : ℕ) → k < from + n → first (numbered k) ≡ second (numbered k))
    → filter first (map numbered (range_with_len from n)) ≡ filter second (map numbered (range_with_len from n))
same_from first second from zero same = refl
same_from first second from (suc n) same =
    ap (λ b. cond b (numbered from ∷ filter first (map numbered (range_with_len (from + 1) n))) (filter first (map numbered (range_with_len (from + 1) n)))) (same from (omega arith))
    ∙ ap (λ features. cond (second (numbered from)) (numbered from ∷ features) features) (same_from first second (from + 1) n (λ k within. same k (omega arith)))

-- tests that agree on the features pass the same ones
pub same_passing : (first second : FeatureNo → Bool) (m n : ℕ) → m ≡ n → ((k : ℕ) → k < m → first (numbered k) ≡ second (numbered k)) → passing first m ≡ passing second n
same_passing first second m n size same =
    same_from first second 0 m (λ k within. same k (omega arith)) ∙ ap (passing second) size

-- a test of names passes the numbers of those that it passes
named_from : (all : List (List ℕ)) (test : List ℕ → Bool) (n : ℕ) (names : List (List ℕ)) → ((k : ℕ) → name_of all (numbered (n + k)) ≡ name_of names (numbered k))
    → map (name_of all) (filter (λ feature. test (name_of all feature)) (map numbered (range_with_len n (length names)))) ≡ filter test names
named_from all test n [] at = refl
named_from all test n (name ∷ names) at =
    let others : List FeatureNo = filter (λ feature. test (name_of all feature)) (map numbered (range_with_len (n + 1) (length names))) in
    let here : name_of all (numbered n) ≡ name = ap (λ (m : ℕ). name_of all (numbered m)) (omega arith) ∙ at 0 in
    let rest : map (name_of all) others ≡ filter test names =
    named_from all test (n + 1) names (λ k. ap (λ (m : ℕ). name_of all (numbered m)) (omega arith) ∙ at (suc k)) in
    first (test (name_of all (numbered n))) (numbered n) others
    ∙ ap (λ (x : List ℕ). cond (test x) (x ∷ map (name_of all) others) (map (name_of all) others)) here
    ∙ ap (λ (xs : List (List ℕ)). cond (test name) (name ∷ xs) xs) rest
  where
    first : (passes' : Bool) (feature : FeatureNo) (features : List FeatureNo)
        → map (name_of all) (cond passes' (feature ∷ features) features) ≡ cond passes' (name_of all feature ∷ map (name_of all) features) (map (name_of all) features)
    first true feature features = refl
    first false feature features = refl

-- so the features that pass have the names that do
pub named : (rows : Rows) (test : List ℕ → Bool) → map (name_in rows) (filter (λ feature. test (name_in rows feature)) (all_features rows)) ≡ filter test (feature_names rows)
named rows test =
    ap (λ (n : ℕ). map (name_in rows) (passing (λ feature. test (name_in rows feature)) n)) (sym (length-map rows.features (λ row. row.name)))
    ∙ named_from (feature_names rows) test 0 (feature_names rows) (λ k. ap (λ (m : ℕ). name_of (feature_names rows) (numbered m)) (omega arith))

numbers_there : (most from n : ℕ) → from + n ≤ most → All (λ feature. feature.0 < most) (map numbered (range_with_len from n))
numbers_there most from zero few = All-nil (λ (feature : FeatureNo). feature.0 < most)
numbers_there most from (suc n) few =
    All-cons (λ (feature : FeatureNo). feature.0 < most) (numbered from) (map numbered (range_with_len (from + 1) n)) (omega arith) (numbers_there most (from + 1) n (omega arith))

-- and they are there
pub passing-there : (rows : Rows) (test : FeatureNo → Bool) → AreThere rows (filter test (all_features rows))
passing-there rows test =
    let n : ℕ = length rows.features in
    All-filter test (λ (feature : FeatureNo). feature.0 < n) (all_features rows) (numbers_there n 0 n (omega arith))
