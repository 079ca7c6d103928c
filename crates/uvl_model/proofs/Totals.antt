-- A total over rows, one after another.
use Rattle.std.proofs.Common.{◌≡◌, ℕ, ◌+◌, ◌*◌, ◌^◌, ◌<◌, ◌≤◌, Bool, List, ◌∷◌, drop, get_or, length, sym, ap, ◌∙◌, subst, arith, lit≤}
use Rattle.std.specs.Prelude.{ℤ, pos, ◌+ℤ◌}
use Rattle.std.proofs.Math.Nat.{mul-le-mul_right}
use Rattle.std.proofs.lemmas.Int.{ints}
use Rattle.std.proofs.lemmas.List.{drop_all, drop_more}
use Rattle.uvl_model.specs.declared.rows.FeatureRow.{FeatureRow}
use Rattle.uvl_model.specs.Amounts.{IsWithin, counted, marked_total, most_terms, number_of_row}
use Rattle.uvl_model.specs.Check.{is_marked}
use Rattle.uvl_model.specs.Spelling.{numbered}
use Rattle.std.proofs.lemmas.Int.{to_z-of_z}
use mir.Syntax.{w128}
use mir.Val.{of_z, to_z}
use Rattle.uvl_model.proofs.Bounds.{plain_fits, within_add, within_more, within_zero}

-- the total is that of the first so many rows, and what is left is that of the others
pub record Totalled (key : List ℕ) (marks : List Bool) (first : ℕ) (rows : List FeatureRow) (total : ℤ) (index : ℕ) : Type 0 where
  pub rest : marked_total key marks first rows ≡ total +ℤ marked_total key marks (first + index) (drop index rows)
  pub within : IsWithin (index * 10 ^ 18) total

module _ (key : List ℕ) (marks : List Bool) (first : ℕ) (rows : List FeatureRow) where
  pub total_begins : Totalled key marks first rows (pos 0) 0
  total_begins =
      let here : first ≡ first + 0 = omega arith in
      record {
        rest = zero_first (marked_total key marks first rows) ∙ ap (λ (n : ℕ). pos 0 +ℤ marked_total key marks n rows) here;
        within = within_zero (0 * 10 ^ 18);
      }
    where
      zero_first : (z : ℤ) → z ≡ pos 0 +ℤ z
      zero_first z = omega (arith, ints)

  pub total_goes_on : (total next : ℤ) (index : ℕ) (row : FeatureRow) → index < length rows → row ≡ get_or rows index row
      → next ≡ counted (is_marked marks (numbered (first + index))) (number_of_row key row) → IsWithin (10 ^ 18) next
      → Totalled key marks first rows total index → Totalled key marks first rows (total +ℤ next) (index + 1)
  total_goes_on total next index row inside is told small so_far =
      let here : drop index rows ≡ row ∷ drop (index + 1) rows = drop_more rows index row inside ∙ ap (λ (r : FeatureRow). r ∷ drop (index + 1) rows) (sym is) in
      let later : first + index + 1 ≡ first + (index + 1) = omega arith in
      let rest : marked_total key marks (first + index) (drop index rows) ≡ next +ℤ marked_total key marks (first + (index + 1)) (drop (index + 1) rows) =
      ap (λ (rs : List FeatureRow). marked_total key marks (first + index) rs) here
      ∙ ap (λ (z : ℤ). z +ℤ marked_total key marks (first + index + 1) (drop (index + 1) rows)) (sym told)
      ∙ ap (λ (n : ℕ). next +ℤ marked_total key marks n (drop (index + 1) rows)) later in
      let count : index * 10 ^ 18 + 10 ^ 18 ≡ (index + 1) * 10 ^ 18 = one_more (10 ^ 18) index in
      record {
        rest = joined (marked_total key marks first rows) total (marked_total key marks (first + index) (drop index rows)) next
            (marked_total key marks (first + (index + 1)) (drop (index + 1) rows)) so_far.rest rest;
        within = subst (λ (m : ℕ). IsWithin m (total +ℤ next)) count (within_add (index * 10 ^ 18) (10 ^ 18) total next so_far.within small);
      }
    where
      one_more : (u n : ℕ) → n * u + u ≡ (n + 1) * u
      one_more u n = omega arith

      joined : (w t r n m : ℤ) → w ≡ t +ℤ r → r ≡ n +ℤ m → w ≡ (t +ℤ n) +ℤ m
      joined w t r n m e f = omega (arith, ints, e, f)

  pub total_ends : (total : ℤ) (index : ℕ) → length rows ≤ index → Totalled key marks first rows total index → total ≡ marked_total key marks first rows
  total_ends total index past so_far =
      let none : marked_total key marks (first + index) (drop index rows) ≡ pos 0 = ap (λ (rs : List FeatureRow). marked_total key marks (first + index) rs) (drop_all index rows past) in
      alone (marked_total key marks first rows) total (marked_total key marks (first + index) (drop index rows)) so_far.rest none
    where
      alone : (w t r : ℤ) → w ≡ t +ℤ r → r ≡ pos 0 → t ≡ w
      alone w t r e f = omega (arith, ints, e, f)

-- a total of few numbers fits
pub total_fits : (n : ℕ) (z : ℤ) → n ≤ most_terms → IsWithin (n * 10 ^ 18) z → IsWithin (most_terms * 10 ^ 18) z
total_fits n z few is = within_more (n * 10 ^ 18) (most_terms * 10 ^ 18) z (mul-le-mul_right (10 ^ 18) few) is

-- the total of the next round, as the code computes it
pub total_kept : (key : List ℕ) (marks : List Bool) (first : ℕ) (rows : List FeatureRow) (bits : ℕ) (next : ℤ) (index : ℕ) → index + 1 ≤ most_terms → IsWithin (10 ^ 18) next
    → Totalled key marks first rows (to_z w128 bits +ℤ next) (index + 1)
    → Totalled key marks first rows (to_z w128 (of_z w128 (to_z w128 bits +ℤ to_z w128 (of_z w128 next)))) (index + 1)
total_kept key marks first rows bits next index few small so_far =
    let fits = plain_fits next (within_more (10 ^ 18) (most_terms * 10 ^ 18) next (lit≤ tt) small) in
    let sum_fits = plain_fits (to_z w128 bits +ℤ next) (total_fits (index + 1) (to_z w128 bits +ℤ next) few so_far.within) in
    let same : to_z w128 (of_z w128 (to_z w128 bits +ℤ to_z w128 (of_z w128 next))) ≡ to_z w128 bits +ℤ next =
    ap (λ (z : ℤ). to_z w128 (of_z w128 (to_z w128 bits +ℤ z))) (to_z-of_z w128 next fits) ∙ to_z-of_z w128 (to_z w128 bits +ℤ next) sum_fits in
    subst (λ (z : ℤ). Totalled key marks first rows z (index + 1)) (sym same) so_far
