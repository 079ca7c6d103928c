-- What is kept of a line tells what it is read as, and goes on with the bytes that follow.
use Rattle.std.proofs.Common.{◌≡◌, ℕ, zero, suc, ◌+◌, ◌-◌, ◌≤◌, ◌<◌, ◌==◌, nat_lt, min, Bool, true, false, List, [], ◌∷◌, ◌++◌, length, take, Err, if◌then◌else◌, inl, inr, lit<, refl, sym, ap, ◌∙◌, arith}
use Rattle.std.proofs.lemmas.Bool.{cases_lt, eqb-true}
use Rattle.std.proofs.lemmas.Bool.Decides.{nat_tests}
use Rattle.std.proofs.lemmas.List.{length-take-le, nil_from_length, take_all, take_min, take-take, take-append-le}
use Rattle.uvl_script.specs.declared.fault.LineFault.TheVariants.{TooLong}
use Rattle.uvl_script.specs.Lines.{without_cr, most_line_bytes, reading_of, reading_of_words, words_of_line}
use Rattle.uvl_lines.specs.Lines.{last_line}
use Rattle.uvl_lines.specs.steps.Kept.{most_kept_bytes, kept}

-- at most one byte is a line's CR
without_cr-length : (line : List ℕ) → length line ≤ length (without_cr line) + 1
without_cr-length [] = omega arith
without_cr-length (b ∷ []) = by (b == 13)
  where
    by : (t : Bool) → 1 ≤ length (if t then [] else b ∷ []) + 1
    by true = omega arith
    by false = omega arith
without_cr-length (b ∷ c ∷ bs) = let others = without_cr-length (c ∷ bs) in omega arith

-- a line of so many bytes is too long
too_long : (line : List ℕ) → most_kept_bytes ≤ length line → reading_of line ≡ Err TooLong
too_long line long =
    let most = without_cr-length line in
    let beyond : nat_lt most_line_bytes (length (without_cr line)) ≡ true = grind (arith, nat_tests) in
    ap (λ (t : Bool). if t then Err TooLong else reading_of_words (words_of_line (without_cr line))) beyond

-- what is kept is read as the line
pub reading-kept : (line : List ℕ) → reading_of (kept line) ≡ reading_of line
unfolding kept
reading-kept line = elim (cases_lt (length line) most_kept_bytes) [
  | inl short ↦ ap reading_of (take_all most_kept_bytes line (omega arith))
  | inr long ↦
      let size = length-take-le most_kept_bytes line long in
      too_long (take most_kept_bytes line) (omega arith) ∙ sym (too_long line (omega arith))
]

-- the front of a front and of what follows
take-front : (n : ℕ) (xs ys : List ℕ) → take n (take n xs ++ ys) ≡ take n (xs ++ ys)
take-front n xs ys = elim (cases_lt (length xs) n) [
  | inl short ↦ ap (λ (zs : List ℕ). take n (zs ++ ys)) (take_all n xs (omega arith))
  | inr long ↦
      let size = length-take-le n xs long in
      take-append-le n (take n xs) ys (omega arith) ∙ take-take n n xs (omega arith) ∙ sym (take-append-le n xs ys long)
]

-- the front of two parts of which the first is short
front_of_both : (n : ℕ) (xs ys : List ℕ) → length xs ≤ n → take n (xs ++ ys) ≡ xs ++ take (n - length xs) ys
front_of_both n [] ys short = let all : n - 0 ≡ n = omega arith in ap (λ (m : ℕ). take m ys) (sym all)
front_of_both zero (x ∷ xs) ys short = absurd (omega arith)
front_of_both (suc n) (x ∷ xs) ys short =
    let less : suc n - length (x ∷ xs) ≡ n - length xs = omega arith in
    ap (λ (zs : List ℕ). x ∷ zs) (front_of_both n xs ys (omega arith)) ∙ ap (λ (m : ℕ). x ∷ (xs ++ take m ys)) (sym less)

-- more bytes may be put behind what is kept
pub kept-append : (xs ys : List ℕ) → kept (kept xs ++ ys) ≡ kept (xs ++ ys)
unfolding kept
kept-append xs ys = take-front most_kept_bytes xs ys

-- nothing is kept of nothing
pub kept-nil : kept [] ≡ []
unfolding kept
kept-nil = refl

some_front : (n b : ℕ) (bs : List ℕ) → 0 < n → take n (b ∷ bs) ≡ [] → ⊥
some_front zero b bs some none = absurd (omega arith)
some_front (suc n) b bs some none = cc

-- something is kept of something
pub kept-none : (line : List ℕ) → kept line ≡ [] → line ≡ []
unfolding kept
kept-none [] none = refl
kept-none (b ∷ bs) none = absurd (some_front most_kept_bytes b bs (lit< tt) none)

-- what is kept of two parts, of which the first is kept
pub kept-room : (xs ys items : List ℕ) → length xs ≤ most_kept_bytes → items ≡ xs ++ take (min (most_kept_bytes - length xs) (length ys)) ys → items ≡ kept (xs ++ ys)
unfolding kept
kept-room xs ys items short is = is ∙ ap (λ (zs : List ℕ). xs ++ zs) (take_min (most_kept_bytes - length xs) ys) ∙ sym (front_of_both most_kept_bytes xs ys short)

-- a last line of which something is kept is a line
pub last_line-kept : (begun line : List ℕ) → line ≡ kept begun → (line ≡ [] → ⊥) → last_line begun ≡ begun ∷ []
last_line-kept [] line is some = absurd (some (is ∙ kept-nil))
last_line-kept (b ∷ bs) line is some = refl

-- what the test for an empty buffer says of its items
pub no_items : (items : List ℕ) (count : ℕ) (test : Bool) → length items ≡ count → test ≡ (count == 0) → test ≡ true → items ≡ []
no_items items count test counted is holds =
    let none : count ≡ 0 = eqb-true count 0 (sym is ∙ holds) in nil_from_length items (counted ∙ none)

pub some_items : (items : List ℕ) (count : ℕ) (test : Bool) → length items ≡ count → test ≡ (count == 0) → test ≡ false → items ≡ [] → ⊥
some_items items count test counted is fails none =
    let empty : count ≡ 0 = sym counted ∙ ap length none in
    let both : true ≡ false = ap (λ (n : ℕ). n == 0) (sym empty) ∙ sym is ∙ fails in cc
