-- What is left of a chain while it is walked.
use Rattle.std.proofs.Common.{◌≡◌, ◌≢◌, ◌⊎◌, ℕ, ◌+◌, ◌<◌, ◌≤◌, List, [], ◌∷◌, length, Option, Some, None, is_some, refl, ap, sym, ◌∙◌, subst, inl, inr, arith}
use Rattle.std.proofs.lemmas.Bool.{cases_lt, true≢false}
use Rattle.std.proofs.lemmas.List.{get_or_past}
use Rattle.dd_store.specs.declared.row.Row.{Row}
use Rattle.dd_store.specs.declared.row.NodeNo.{NodeNo}
use Rattle.dd_store.specs.declared.slots.slot.Slot.{Slot}
use Rattle.dd_store.specs.Chains.{Has, IsChain, IsChainOf, AreChained, HangsIn, bucket_of, head_at}
use Rattle.dd_store.specs.Linked.{row_in, next_in, row_of_slot}
use Rattle.dd_store.proofs.ChainLemmas.{few}

-- a number with a row has a slot
pub row-within : (slots : List Slot) (n : ℕ) (r : Row) → row_in slots n ≡ Some r → n < length slots
row-within slots n r is =
    elim (cases_lt n (length slots)) [
      | inl inside ↦ inside
      | inr past ↦ absurd (true≢false (sym (ap is_some (sym (ap row_of_slot (get_or_past slots n _ past)) ∙ is))))
    ]

-- what hangs in a chain has a row
pub hangs-row : (v size b : ℕ) (slots : List Slot) (n : ℕ) → HangsIn v size (row_in slots n) b → (r : Row) × (row_in slots n ≡ Some r)
hangs-row v size b slots n hangs = by (row_in slots n) refl hangs
  where
    by : (o : Option Row) → row_in slots n ≡ o → HangsIn v size o b → (r : Row) × (row_in slots n ≡ Some r)
    by None is h = absurd h
    by (Some r) is h = (r, is)

-- the numbers that are left of a chain, from this one on: each has a slot, all nodes with the row are among them, and
-- there are at most as many as slots that were not looked at
pub record IsLeft (slots : List Slot) (row : Row) (node i : ℕ) : Type 0 where
  pub numbers : List ℕ
  pub chain : IsChain (next_in slots) node numbers
  pub within : (n : ℕ) → Has numbers n → n < length slots
  pub all : (n : ℕ) → row_in slots n ≡ Some row → Has numbers n
  pub few : length numbers + i ≤ length slots

pub left-start : (slots : List Slot) (row : Row) (heads : List NodeNo) (node : ℕ) → AreChained (next_in slots) (row_in slots) row.var.0 heads
    → node ≡ head_at heads (bucket_of row (length heads)) → bucket_of row (length heads) < length heads → IsLeft slots row node 0
left-start slots row heads node chained is within =
    let chain : IsChainOf (next_in slots) node (λ n. HangsIn row.var.0 (length heads) (row_in slots n) (bucket_of row (length heads))) = rw is (chained (bucket_of row (length heads)) within) in
    let inside : (n : ℕ) → Has chain.numbers n → n < length slots = λ n i. (let there = hangs-row _ _ _ slots n (chain.each n i) in row-within slots n there.0 there.1) in
    record {
      numbers = chain.numbers;
      chain = chain.chain;
      within = inside;
      all = λ n has. chain.all n (subst (λ o. HangsIn row.var.0 (length heads) o (bucket_of row (length heads))) (sym has) (refl, refl));
      few = let most = few (next_in slots) node chain.numbers (length slots) chain.chain inside in omega arith;
    }

pub left-within : (slots : List Slot) (row : Row) (node i : ℕ) → IsLeft slots row node i → node ≢ 0 → node < length slots
left-within slots row node i left some = by left.numbers left.chain left.within
  where
    by : (ns : List ℕ) → IsChain (next_in slots) node ns → ((n : ℕ) → Has ns n → n < length slots) → node < length slots
    by [] chain within = absurd (some chain)
    by (n ∷ ns) chain within = within node (inl (sym chain.0))

pub left-ended : (slots : List Slot) (row : Row) (node i : ℕ) → IsLeft slots row node i → (node ≡ 0) ⊎ (length slots ≤ i) → (n : ℕ) → row_in slots n ≢ Some row
left-ended slots row node i left end n is = by left.numbers left.chain left.few (left.all n is) end
  where
    by : (ns : List ℕ) → IsChain (next_in slots) node ns → length ns + i ≤ length slots → Has ns n → (node ≡ 0) ⊎ (length slots ≤ i) → ⊥
    by [] chain few has end' = has
    by (m ∷ ms) chain few has (inl zero') = chain.1 (sym chain.0 ∙ zero')
    by (m ∷ ms) chain few has (inr past) = omega arith

pub left-step : (slots : List Slot) (row : Row) (node i : ℕ) → IsLeft slots row node i → node ≢ 0 → row_in slots node ≢ Some row → IsLeft slots row (next_in slots node) (i + 1)
left-step slots row node i left some other = by left.numbers left.chain left.within left.all left.few
  where
    by : (ns : List ℕ) → IsChain (next_in slots) node ns → ((n : ℕ) → Has ns n → n < length slots) → ((n : ℕ) → row_in slots n ≡ Some row → Has ns n) → length ns + i ≤ length slots → IsLeft slots row (next_in slots node) (i + 1)
    by [] chain within all few = absurd (some chain)
    by (n ∷ ns) chain within all few = record {
      numbers = ns;
      chain = subst (λ k. IsChain (next_in slots) (next_in slots k) ns) (sym chain.0) chain.3;
      within = λ m has. within m (inr has);
      all = λ m is. elim (all m is) [ inl same ↦ absurd (other (ap (row_in slots) (chain.0 ∙ same) ∙ is)) | inr has ↦ has ];
      few = omega arith;
    }
