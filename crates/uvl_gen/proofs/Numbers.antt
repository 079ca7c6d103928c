-- Numbers one after the other, and the lines of each.
use Rattle.std.proofs.Common.{◌≡◌, ℕ, zero, suc, ◌+◌, ◌-◌, ◌≤◌, ◌<◌, List, [], ◌∷◌, ◌++◌, length, sym, ap, ◌∙◌, arith, add-zero}
use Rattle.std.specs.List.{flat_map, range_with_len, Contains}
use Rattle.std.proofs.lemmas.List.{flat_map_more}
use Rattle.std.proofs.lemmas.List.FromFn.{length-range_with_len, get_or-range_with_len}

-- one number more stands behind the others
range_more : (from n : ℕ) → range_with_len from (suc n) ≡ range_with_len from n ++ (from + n) ∷ []
range_more from zero = ap (λ number. number ∷ []) (sym (add-zero from))
range_more from (suc n) =
    let same : from + 1 + n ≡ from + suc n = omega arith in
    ap (λ numbers. from ∷ numbers) (range_more (from + 1) n ∙ ap (λ number. range_with_len (from + 1) n ++ number ∷ []) same)

-- the lines of one number more
pub one_more : (lines : ℕ → List ℕ) (first number : ℕ) (before text new : List ℕ) → first ≤ number
    → text ≡ before ++ flat_map lines (range_with_len first (number - first)) → new ≡ text ++ lines number
    → new ≡ before ++ flat_map lines (range_with_len first (number + 1 - first))
one_more lines first number before text new low so_far put =
    let next : first + (number - first) ≡ number = omega arith in
    let many : suc (number - first) ≡ number + 1 - first = omega arith in
    put ∙ ap (λ bytes. bytes ++ lines number) so_far
    ∙ flat_map_more lines before (range_with_len first (number - first)) number
    ∙ ap (λ m. before ++ flat_map lines (range_with_len first (number - first) ++ m ∷ [])) (sym next)
    ∙ ap (λ numbers. before ++ flat_map lines numbers) (sym (range_more first (number - first)))
    ∙ ap (λ n. before ++ flat_map lines (range_with_len first n)) many

-- which numbers stand so one after the other
pub within : (first many number : ℕ) → Contains (range_with_len first many) number → (first ≤ number) × (number < first + many)
within first many number (i, inside, at) =
    let size : length (range_with_len first many) ≡ many = length-range_with_len first many in
    let below : i < many = omega (arith, size, inside) in
    let is : number ≡ first + i = sym at ∙ get_or-range_with_len first many i number below in
    (omega (arith, is), omega (arith, is, below))

pub among : (first many number : ℕ) → first ≤ number → number < first + many → Contains (range_with_len first many) number
among first many number low high =
    let size : length (range_with_len first many) ≡ many = length-range_with_len first many in
    let place : number - first < many = omega arith in
    let same : first + (number - first) ≡ number = omega arith in
    (number - first, omega (arith, size, place), get_or-range_with_len first many (number - first) number place ∙ same)
