-- The laws of cutting bytes into lines: piece by piece, line by line, and that lines determine their cut.
use Rattle.std.proofs.Common.{◌≡◌, ℕ, true, false, ◌==◌, cond, List, [], ◌∷◌, ◌++◌, refl, sym, ap, ◌∙◌, subst, append_assoc, append-nil, inl, inr}
use Rattle.std.proofs.lemmas.Bool.{or_parts, or_from, eqb-true, cond-true, cond-false, cases_Bool}
use Rattle.uvl_lines.specs.Lines.{ended_lines_from, open_line_from, ended_lines, open_line, has_lf, joined, AreLines, IsCut}

-- the lines that end within two pieces are those of the first, and then those of the second behind its open line
pub ended_lines_from-append : (begun xs ys : List ℕ) → ended_lines_from begun (xs ++ ys) ≡ ended_lines_from begun xs ++ ended_lines_from (open_line_from begun xs) ys
ended_lines_from-append begun [] ys = refl
ended_lines_from-append begun (x ∷ xs) ys =
    elim (x == 10) as (λ t.
    cond t (begun ∷ ended_lines_from [] (xs ++ ys)) (ended_lines_from (begun ++ x ∷ []) (xs ++ ys))
    ≡ cond t (begun ∷ ended_lines_from [] xs) (ended_lines_from (begun ++ x ∷ []) xs)
    ++ ended_lines_from (cond t (open_line_from [] xs) (open_line_from (begun ++ x ∷ []) xs)) ys) [
      | true ↦ ap (λ ls. begun ∷ ls) (ended_lines_from-append [] xs ys)
      | false ↦ ended_lines_from-append (begun ++ x ∷ []) xs ys
    ]

-- the open line of two pieces is that of the second behind the open line of the first
pub open_line_from-append : (begun xs ys : List ℕ) → open_line_from begun (xs ++ ys) ≡ open_line_from (open_line_from begun xs) ys
open_line_from-append begun [] ys = refl
open_line_from-append begun (x ∷ xs) ys =
    elim (x == 10) as (λ t.
    cond t (open_line_from [] (xs ++ ys)) (open_line_from (begun ++ x ∷ []) (xs ++ ys))
    ≡ open_line_from (cond t (open_line_from [] xs) (open_line_from (begun ++ x ∷ []) xs)) ys) [
      | true ↦ open_line_from-append [] xs ys
      | false ↦ open_line_from-append (begun ++ x ∷ []) xs ys
    ]

at_lf : (b : ℕ) (bs begun : List ℕ) → (b == 10) ≡ true → ended_lines_from begun (b ∷ bs) ≡ begun ∷ ended_lines_from [] bs
at_lf b bs begun is = cond-true (b == 10) _ _ is

at_lf-open : (b : ℕ) (bs begun : List ℕ) → (b == 10) ≡ true → open_line_from begun (b ∷ bs) ≡ open_line_from [] bs
at_lf-open b bs begun is = cond-true (b == 10) _ _ is

at_other : (b : ℕ) (bs begun : List ℕ) → (b == 10) ≡ false → ended_lines_from begun (b ∷ bs) ≡ ended_lines_from (begun ++ b ∷ []) bs
at_other b bs begun is = cond-false (b == 10) _ _ is

at_other-open : (b : ℕ) (bs begun : List ℕ) → (b == 10) ≡ false → open_line_from begun (b ∷ bs) ≡ open_line_from (begun ++ b ∷ []) bs
at_other-open b bs begun is = cond-false (b == 10) _ _ is

one_more : (begun : List ℕ) (b : ℕ) (bs : List ℕ) → (begun ++ b ∷ []) ++ bs ≡ begun ++ b ∷ bs
one_more begun b bs = append_assoc begun (b ∷ []) bs

-- bytes without LF end no line
pub ended_lines_from-none : (begun bytes : List ℕ) → has_lf bytes ≡ false → ended_lines_from begun bytes ≡ []
ended_lines_from-none begun [] h = refl
ended_lines_from-none begun (b ∷ bs) h =
    let parts = or_parts (b == 10) (has_lf bs) h in at_other b bs begun parts.0 ∙ ended_lines_from-none (begun ++ b ∷ []) bs parts.1

-- bytes without LF go on with the open line
pub open_line_from-none : (begun bytes : List ℕ) → has_lf bytes ≡ false → open_line_from begun bytes ≡ begun ++ bytes
open_line_from-none begun [] h = sym (append-nil begun)
open_line_from-none begun (b ∷ bs) h =
    let parts = or_parts (b == 10) (has_lf bs) h in
    at_other-open b bs begun parts.0 ∙ open_line_from-none (begun ++ b ∷ []) bs parts.1 ∙ one_more begun b bs

-- an LF ends the line that has begun
pub ended_lines_from-line : (begun line rest : List ℕ) → has_lf line ≡ false → ended_lines_from begun (line ++ 10 ∷ rest) ≡ (begun ++ line) ∷ ended_lines_from [] rest
ended_lines_from-line begun line rest h =
    ended_lines_from-append begun line (10 ∷ rest)
    ∙ ap (λ ls. ls ++ ended_lines_from (open_line_from begun line) (10 ∷ rest)) (ended_lines_from-none begun line h)
    ∙ ap (λ l. l ∷ ended_lines_from [] rest) (open_line_from-none begun line h)

-- behind an LF the next line begins
pub open_line_from-line : (begun line rest : List ℕ) → has_lf line ≡ false → open_line_from begun (line ++ 10 ∷ rest) ≡ open_line_from [] rest
open_line_from-line begun line rest h = open_line_from-append begun line (10 ∷ rest)

has_lf-append : (xs ys : List ℕ) → has_lf xs ≡ false → has_lf ys ≡ false → has_lf (xs ++ ys) ≡ false
has_lf-append [] ys hx hy = hy
has_lf-append (x ∷ xs) ys hx hy = let parts = or_parts (x == 10) (has_lf xs) hx in or_from _ _ parts.0 (has_lf-append xs ys parts.1 hy)

-- what was begun, and then the bytes, are the ended lines, each followed by LF, and then the open line
spelled_from : (begun bytes : List ℕ) → begun ++ bytes ≡ joined (ended_lines_from begun bytes) (open_line_from begun bytes)
spelled_from begun [] = append-nil begun
spelled_from begun (b ∷ bs) =
    elim (cases_Bool (b == 10)) [
      | inl is ↦
          ap (λ c. begun ++ c ∷ bs) (eqb-true b 10 is) ∙ ap (λ rest. begun ++ 10 ∷ rest) (spelled_from [] bs)
          ∙ sym (ap (λ ls. joined ls (open_line_from begun (b ∷ bs))) (at_lf b bs begun is) ∙ ap (λ l. begun ++ 10 ∷ joined (ended_lines_from [] bs) l) (at_lf-open b bs begun is))
      | inr is ↦
          sym (one_more begun b bs) ∙ spelled_from (begun ++ b ∷ []) bs
          ∙ sym (ap (λ ls. joined ls (open_line_from begun (b ∷ bs))) (at_other b bs begun is) ∙ ap (λ l. joined (ended_lines_from (begun ++ b ∷ []) bs) l) (at_other-open b bs begun is))
    ]

-- no line holds an LF
lines_from : (begun bytes : List ℕ) → has_lf begun ≡ false → AreLines (ended_lines_from begun bytes) × (has_lf (open_line_from begun bytes) ≡ false)
lines_from begun [] h = (tt, h)
lines_from begun (b ∷ bs) h =
    elim (cases_Bool (b == 10)) [
      | inl is ↦
          let later = lines_from [] bs refl in (
            subst AreLines (sym (at_lf b bs begun is)) (h, later.0),
            ap has_lf (at_lf-open b bs begun is) ∙ later.1,
          )
      | inr is ↦
          let later = lines_from (begun ++ b ∷ []) bs (has_lf-append begun (b ∷ []) h (or_from (b == 10) false is refl)) in (
            subst AreLines (sym (at_other b bs begun is)) later.0,
            ap has_lf (at_other-open b bs begun is) ∙ later.1,
          )
    ]

-- the ended lines and the open line are a cut
pub IsCut-lines : (bytes : List ℕ) → IsCut bytes (ended_lines bytes) (open_line bytes)
IsCut-lines bytes =
    let lines = lines_from [] bytes refl in record { spelled = spelled_from [] bytes; whole = lines.0; begun = lines.1 }

lines_of_joined : (lines : List (List ℕ)) (unended : List ℕ) → AreLines lines → has_lf unended ≡ false → (lines ≡ ended_lines (joined lines unended)) × (unended ≡ open_line (joined lines unended))
lines_of_joined [] unended whole h = (sym (ended_lines_from-none [] unended h), sym (open_line_from-none [] unended h))
lines_of_joined (line ∷ lines) unended whole h =
    let later = lines_of_joined lines unended whole.1 h in (
      ap (λ ls. line ∷ ls) later.0 ∙ sym (ended_lines_from-line [] line (joined lines unended) whole.0),
      later.1 ∙ sym (open_line_from-line [] line (joined lines unended) whole.0),
    )

-- and there is no other cut
pub lines-IsCut : (bytes : List ℕ) (lines : List (List ℕ)) (unended : List ℕ) → IsCut bytes lines unended → (lines ≡ ended_lines bytes) × (unended ≡ open_line bytes)
lines-IsCut bytes lines unended cut =
    let P : List ℕ → Type 0 = λ bs. (lines ≡ ended_lines bs) × (unended ≡ open_line bs) in
    subst P (sym cut.spelled) (lines_of_joined lines unended cut.whole cut.begun)
