-- Notes: a value that is put, how far an edge leads, and the sweep over the levels.
use Rattle.std.proofs.Common.{◌≡◌, ◌⊎◌, ◌↔◌, ℕ, ◌+◌, ◌<◌, ◌≤◌, Bool, true, false, List, [], ◌++◌, length, set, take, replicate, get_or, slice_index, max, refl, ap, sym, ◌∙◌, subst, inl, inr, arith}
use Rattle.std.proofs.lemmas.Bool.{cases_eq, cases_lt, true≢false}
use Rattle.std.proofs.lemmas.List.{get_or-set_same, get_or-set_other, get_or_past, get_or-replicate, length-replicate, take_all}
use Rattle.dd_quant.specs.declared.offer.Offer.{Offer}
use Rattle.dd_quant.specs.Offers.{has_value, offer_for, no_offer}
use Rattle.dd_quant.specs.steps.Noted.{HasNote, IsPassed, NotesEdge}

-- how far an edge leads that begins right above a level
module _ (far : List ℕ) (from to n : ℕ) (inside : from < length far) (most : n ≡ max (slice_index far from) to) where
  pub reach-put : (b : Bool) → b ≡ true → (l : ℕ) → IsPassed (set far from n) l ↔ (IsPassed far l ⊎ ((b ≡ true) × (from ≤ l) × (l < to)))
  reach-put b is l = (forth, back)
    where
      here : slice_index (set far from n) from ≡ n
      here = get_or-set_same far from n 0 inside

      forth : IsPassed (set far from n) l → IsPassed far l ⊎ ((b ≡ true) × (from ≤ l) × (l < to))
      forth (j, above, less) = elim (cases_eq j from) [
        | inl same ↦
            let less' : l < n = subst (λ (k : ℕ). l < k) (ap (λ (k : ℕ). slice_index (set far from n) k) same ∙ here) less in
            elim (cases_lt l (slice_index far from)) [
              | inl old ↦ inl (from, (omega arith), old)
              | inr past ↦ inr (is, (omega arith), (omega arith))
            ]
        | inr other ↦ inl (j, above, subst (λ (k : ℕ). l < k) (get_or-set_other far from j n 0 other) less)
      ]

      back : IsPassed far l ⊎ ((b ≡ true) × (from ≤ l) × (l < to)) → IsPassed (set far from n) l
      back (inl (j, above, less)) = elim (cases_eq j from) [
        | inl same ↦
            let less' : l < slice_index far from = subst (λ (k : ℕ). l < slice_index far k) same less in
            (from, (omega arith), subst (λ (k : ℕ). l < k) (sym here) (omega arith))
        | inr other ↦ (j, above, subst (λ (k : ℕ). l < k) (sym (get_or-set_other far from j n 0 other)) less)
      ]
      back (inr (so, above, less)) = (from, above, subst (λ (k : ℕ). l < k) (sym here) (omega arith))

-- an edge is noted by its value and by how far it leads
pub edge-noted : (b : Bool) (v : ℕ) (c : Bool) (level below : ℕ) (offers offers' : List Offer) (far far' : List ℕ)
    → ((w : ℕ) (d : Bool) → HasNote offers' w d ↔ (HasNote offers w d ⊎ ((b ≡ true) × (w ≡ v) × (d ≡ c))))
    → ((l : ℕ) → IsPassed far' l ↔ (IsPassed far l ⊎ ((b ≡ true) × (level + 1 ≤ l) × (l < below))))
    → length offers' ≡ length offers → length far' ≡ length far → NotesEdge b v c level below offers offers' far far'
edge-noted b v c level below offers offers' far far' values levels size size' = record {
  noted = λ w d has. (values w d).1 (inl has);
  passed = λ l is. (levels l).1 (inl is);
  here = λ so. (values v c).1 (inr (so, refl, refl));
  past = λ so l above less. (levels l).1 (inr (so, (omega arith), less));
  new_noted = λ w d has. (values w d).0 has;
  new_passed = λ l is. elim ((levels l).0 is) [
    | inl before ↦ inl before
    | inr new' ↦ inr (new'.0, (let above = new'.1 in omega arith), new'.2)
  ];
  offers_number = size;
  far_number = size';
}

-- a list that is filled with one value has it everywhere
pub get-filled : {X : Type 0} (n k i : ℕ) (x : X) → get_or (take n [] ++ replicate k x) i x ≡ x
get-filled {X = X} n k i x = ap (λ (xs : List X). get_or (xs ++ replicate k x) i x) (take_all n [] (omega arith)) ∙ (elim (cases_lt i k) [
  | inl within ↦ get_or-replicate k i x x within
  | inr past ↦ get_or_past (replicate k x) i x (let size = length-replicate k x in omega arith)
])

-- no value is noted at the start, and no level is passed
pub none-at_start : (n k : ℕ) (offers : List Offer) → offers ≡ take n [] ++ replicate k no_offer → (v : ℕ) (b : Bool) → HasNote offers v b → ⊥
none-at_start n k offers is v b has = true≢false (sym has ∙ ap (λ (os : List Offer). has_value (offer_for os v) b) is ∙ ap (λ (o : Offer). has_value o b) (get-filled n k v no_offer) ∙ nothing b)
  where
    nothing : (c : Bool) → has_value no_offer c ≡ false
    nothing true = refl
    nothing false = refl

pub none-passed : (n k : ℕ) (far : List ℕ) → far ≡ take n [] ++ replicate k 0 → (l : ℕ) → IsPassed far l → ⊥
none-passed n k far is l (j, above, less) =
    let none : slice_index far j ≡ 0 = ap (λ (fs : List ℕ). slice_index fs j) is ∙ get-filled n k j 0 in omega arith
