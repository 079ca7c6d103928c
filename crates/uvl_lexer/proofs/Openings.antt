-- What a character opens.
use Rattle.std.proofs.Common.{◌≡◌, ℕ, ◌<◌, ◌==◌, Bool, true, false, cond, ◌||◌, refl, sym, ap, ◌∙◌, inl, inr, arith}
use Rattle.std.specs.Char.{is_ascii_digit, is_ascii_alphabetic}
use Rattle.std.proofs.lemmas.Bool.{cases_Bool, cond-true, cond-false, eqb-true}
use Rattle.std.proofs.lemmas.Bool.Decides.{nat_tests}
use Rattle.unicode_ident.proofs.IdentLemmas.{is_xid_start-ascii}
use Rattle.uvl_base.specs.Identifier.{begins_identifier}
use Rattle.uvl_lexer.specs.declared.piece.Opening.{Opening}
use Rattle.uvl_lexer.specs.declared.piece.Opening.TheVariants as opens
use Rattle.uvl_lexer.specs.Pieces.{opening_of, opening_of_other}

-- what is known of a character by what it opens
abbrev pub OpensBy : Opening → ℕ → Type 0
OpensBy opens.Space c = c ≡ 32
OpensBy opens.Tab c = c ≡ 9
OpensBy opens.LineFeed c = c ≡ 10
OpensBy opens.CarriageReturn c = c ≡ 13
OpensBy opens.Slash c = c ≡ 47
OpensBy opens.Quote c = c ≡ 34
OpensBy opens.Apostrophe c = c ≡ 39
OpensBy opens.Point c = c ≡ 46
OpensBy opens.Digit c = is_ascii_digit c ≡ true
OpensBy opens.Letter c = begins_identifier c ≡ true
OpensBy opens.Sign c = (c == 47) ≡ false

by_test : (c : ℕ) (b : Bool) (x y : Opening) → (b ≡ true → OpensBy x c) → (b ≡ false → OpensBy y c) → OpensBy (cond b x y) c
by_test c true x y passes fails = passes refl
by_test c false x y passes fails = fails refl

pub opens_by : (c : ℕ) → OpensBy (opening_of c) c
opens_by c =
    by_test c (c == 32) opens.Space _ (eqb-true c 32) (λ _.
    by_test c (c == 9) opens.Tab _ (eqb-true c 9) (λ _.
    by_test c (c == 10) opens.LineFeed _ (eqb-true c 10) (λ _.
    by_test c (c == 13) opens.CarriageReturn _ (eqb-true c 13) (λ _.
    by_test c (c == 47) opens.Slash _ (eqb-true c 47) (λ no_slash.
    by_test c (c == 34) opens.Quote _ (eqb-true c 34) (λ _.
    by_test c (c == 39) opens.Apostrophe _ (eqb-true c 39) (λ _.
    by_test c (c == 46) opens.Point _ (eqb-true c 46) (λ _.
    by_test c (is_ascii_digit c) opens.Digit _ (λ digit. digit) (λ _.
    by_test c (begins_identifier c) opens.Letter opens.Sign (λ letter. letter) (λ _. no_slash))))))))))

-- a character is none that fails a test that it passes
not_this : (p : ℕ → Bool) (k c : ℕ) → p k ≡ false → p c ≡ true → (c == k) ≡ false
not_this p k c fails passes =
    elim (cases_Bool (c == k)) [
      | inl is ↦ absurd (let clash : true ≡ false = sym passes ∙ ap p (eqb-true c k is) ∙ fails in cc)
      | inr other ↦ other
    ]

-- a character that passes a test which the characters named one by one fail
none_of_eight : (p : ℕ → Bool) (c : ℕ) → p c ≡ true → p 32 ≡ false → p 9 ≡ false → p 10 ≡ false → p 13 ≡ false → p 47 ≡ false → p 34 ≡ false → p 39 ≡ false → p 46 ≡ false → opening_of c ≡ opening_of_other c
none_of_eight p c passes a b d e f g h i =
    cond-false (c == 32) _ _ (not_this p 32 c a passes) ∙ cond-false (c == 9) _ _ (not_this p 9 c b passes)
    ∙ cond-false (c == 10) _ _ (not_this p 10 c d passes) ∙ cond-false (c == 13) _ _ (not_this p 13 c e passes)
    ∙ cond-false (c == 47) _ _ (not_this p 47 c f passes) ∙ cond-false (c == 34) _ _ (not_this p 34 c g passes)
    ∙ cond-false (c == 39) _ _ (not_this p 39 c h passes) ∙ cond-false (c == 46) _ _ (not_this p 46 c i passes)

pub digit_opens : (c : ℕ) → is_ascii_digit c ≡ true → opening_of c ≡ opens.Digit
digit_opens c digit = none_of_eight is_ascii_digit c digit refl refl refl refl refl refl refl refl ∙ cond-true (is_ascii_digit c) _ _ digit

-- a character of ASCII begins an identifier where it is a letter or `_`
no_letter : (c : ℕ) → c < 128 → is_ascii_alphabetic c ≡ false → (c == 95) ≡ false → begins_identifier c ≡ false
no_letter c ascii letter underscore = ap (λ b. b || (c == 95)) (is_xid_start-ascii c ascii ∙ letter) ∙ underscore

is_ascii : (c : ℕ) → is_ascii_digit c ≡ true → c < 128
is_ascii c h = grind (arith, nat_tests)

digit_no_letter : (c : ℕ) → is_ascii_digit c ≡ true → is_ascii_alphabetic c ≡ false
digit_no_letter c h = grind (arith, nat_tests)

digit_no_underscore : (c : ℕ) → is_ascii_digit c ≡ true → (c == 95) ≡ false
digit_no_underscore c h = grind (arith, nat_tests)

letter_no_digit : (c : ℕ) → begins_identifier c ≡ true → is_ascii_digit c ≡ false
letter_no_digit c letter =
    elim (cases_Bool (is_ascii_digit c)) [
      | inl digit ↦ absurd (let clash : true ≡ false = sym letter ∙ no_letter c (is_ascii c digit) (digit_no_letter c digit) (digit_no_underscore c digit) in cc)
      | inr other ↦ other
    ]

pub letter_opens : (c : ℕ) → begins_identifier c ≡ true → opening_of c ≡ opens.Letter
letter_opens c letter =
    none_of_eight begins_identifier c letter
    (no_letter 32 (omega arith) refl refl) (no_letter 9 (omega arith) refl refl) (no_letter 10 (omega arith) refl refl) (no_letter 13 (omega arith) refl refl)
    (no_letter 47 (omega arith) refl refl) (no_letter 34 (omega arith) refl refl) (no_letter 39 (omega arith) refl refl) (no_letter 46 (omega arith) refl refl)
    ∙ cond-false (is_ascii_digit c) _ _ (letter_no_digit c letter) ∙ cond-true (begins_identifier c) _ _ letter

-- a character of ASCII that is neither a letter nor named before opens a sign
pub sign_opens : (c : ℕ) → is_ascii_alphabetic c ≡ false → (c == 95) ≡ false → c < 128 → opening_of c ≡ cond (begins_identifier c) opens.Letter opens.Sign → opening_of c ≡ opens.Sign
sign_opens c letter underscore ascii is = is ∙ ap (λ b. cond b opens.Letter opens.Sign) (no_letter c ascii letter underscore)
