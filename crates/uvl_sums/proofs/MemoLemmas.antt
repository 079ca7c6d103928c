-- Looking a part up, and noting one.
use Rattle.std.proofs.Common.{◌≡◌, ◌⊎◌, ℕ, ℤ, Bool, true, false, cond, Some, Ordering, Less, Equal, Greater, refl, ap, sym, ◌∙◌, inl, inr}
use Rattle.std.specs.BTreeMap.{BTreeMap, get, is_at}
use Rattle.std.specs.Ordering.{nat_cmp, int_cmp, is_eq}
use Rattle.std.proofs.lemmas.Bool.{false≢true}
use Rattle.std.proofs.lemmas.Map.Lookups.{exact_pairs, exact_unsigned, exact_signed}
use Rattle.uvl_sums.specs.declared.memo.Known.{Known}
use Rattle.uvl_sums.specs.Parts.{key_cmp}

-- the same key and the same entry
pub found : (known : BTreeMap (ℕ × ℤ) Known) (at : ℕ) (key : ℕ × ℤ) (it : Known) (l g : ℤ) → key.0 ≡ at → l ≡ key.1 → g ≡ it.greatest → get key_cmp known key ≡ Some it
    → get key_cmp known (at, l) ≡ Some (record { place = it.place; greatest = g })
found known at key it l g here least greatest has =
    ap (λ (z : ℤ). get key_cmp known (at, z)) least ∙ ap (λ (n : ℕ). get key_cmp known (n, key.1)) (sym here) ∙ has
    ∙ ap (λ (z : ℤ). let k : Known = record { place = it.place; greatest = z } in Some k) (sym greatest)

equal : (o : Ordering) → is_eq o ≡ true → o ≡ Equal
equal Less is = absurd (false≢true is)
equal Equal is = refl
equal Greater is = absurd (false≢true is)

-- what is in a map behind an insertion
pub remembered : (old new : BTreeMap (ℕ × ℤ) Known) (k : ℕ × ℤ) (v : Known) → ((q : ℕ × ℤ) → get key_cmp new q ≡ cond (is_at (key_cmp k) q) (Some v) (get key_cmp old q))
    → (key : ℕ × ℤ) (it : Known) → get key_cmp new key ≡ Some it → (get key_cmp old key ≡ Some it) ⊎ ((key ≡ k) × (it ≡ v))
remembered old new k v put key it has = by (is_at (key_cmp k) key) refl
  where
    by : (b : Bool) → is_at (key_cmp k) key ≡ b → (get key_cmp old key ≡ Some it) ⊎ ((key ≡ k) × (it ≡ v))
    by true here =
        let one : Some v ≡ Some it = sym (put key ∙ ap (λ (b : Bool). cond b (Some v) (get key_cmp old key)) here) ∙ has in
        inr (sym (exact_pairs nat_cmp int_cmp exact_unsigned exact_signed k key (equal (key_cmp k key) here)), cc)
    by false other = inl (sym (put key ∙ ap (λ (b : Bool). cond b (Some v) (get key_cmp old key)) other) ∙ has)

-- the same with the key and the entry in other words
pub remembered-part : (old new : BTreeMap (ℕ × ℤ) Known) (at place : ℕ) (l l' g g' : ℤ) → l' ≡ l → g' ≡ g
    → ((q : ℕ × ℤ) → get key_cmp new q ≡ cond (is_at (key_cmp (at, l')) q) (Some (record { place = place; greatest = g' })) (get key_cmp old q))
    → (key : ℕ × ℤ) (it : Known) → get key_cmp new key ≡ Some it → (get key_cmp old key ≡ Some it) ⊎ ((key ≡ (at, l)) × (it ≡ record { place = place; greatest = g }))
remembered-part old new at place l l' g g' least greatest put key it has = elim (remembered old new (at, l') (record { place = place; greatest = g' }) put key it has) [
  | inl was ↦ inl was
  | inr now ↦ inr (now.0 ∙ ap (λ (z : ℤ). let k : ℕ × ℤ = (at, z) in k) least, now.1 ∙ ap (λ (z : ℤ). let k : Known = record { place = place; greatest = z } in k) greatest)
]
