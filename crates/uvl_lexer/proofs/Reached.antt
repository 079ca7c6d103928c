-- Where a piece begins by its form, it is read, or a longer one is.
use Rattle.std.proofs.Common.{◌≡◌, ℕ, ◌+◌, ◌<◌, ◌≤◌, ◌==◌, Bool, true, false, not, cond, ◌&&◌, ◌||◌, List, [], ◌∷◌, ◌++◌, length, drop, Option, Some, None, refl, sym, ap, ◌∙◌, subst, inl, inr, arith, append_assoc, length-append}
use Rattle.std.specs.List.{prefix_len, list_all}
use Rattle.std.specs.Char.{is_ascii_digit}
use Rattle.std.specs.Option.{option_map}
use Rattle.std.proofs.lemmas.Bool.{cases_Bool, cond-true, cond-false, eqb-true, eqb-false, and_parts, and_right}
use Rattle.std.proofs.lemmas.Bool.Decides.{nat_tests}
use Rattle.std.proofs.Math.Seq.{drop-append_seam}
use Rattle.uvl_base.specs.Identifier.{begins_identifier, continues_identifier}
use Rattle.uvl_base.specs.Name.{is_name}
use Rattle.uvl_lexer.specs.Characters.{is_of_class, begins_with}
use Rattle.uvl_lexer.specs.declared.characters.CharacterClass.TheVariants.{InIdentifier, Digit, InQuotes, InText}
use Rattle.uvl_lexer.specs.declared.token.Symbol.{Symbol}
use Rattle.uvl_lexer.specs.declared.token.Symbol.TheVariants.{LeftParen, RightParen, LeftBracket, RightBracket, LeftBrace, RightBrace, Comma, Dot, Dots, Bang, Amp, Bar, Implies, Iff, Equal, Differs, Less, AtMost, Greater, AtLeast, Plus, Minus, Star, Slash}
use Rattle.uvl_lexer.specs.declared.piece.Opening.{Opening}
use Rattle.uvl_lexer.specs.declared.piece.Opening.TheVariants as opens
use Rattle.uvl_lexer.specs.declared.piece.Lexeme.{Lexeme}
use Rattle.uvl_lexer.specs.declared.piece.Lexeme.TheVariants as spells
use Rattle.uvl_lexer.specs.declared.piece.PieceKind.{PieceKind}
use Rattle.uvl_lexer.specs.declared.piece.PieceKind.TheVariants as piece
use Rattle.uvl_lexer.specs.Pieces.{Piece, piece_at, piece_behind, opening_of, decimals_len, symbol_at, through_close, line_len, ends_line}
use Rattle.uvl_lexer.specs.Forms.{HasForm, HasTokenForm, MayStandBefore, opens_comment, symbol_text, IsDigits}
use Rattle.uvl_lexer.proofs.Openings.{digit_opens, letter_opens, sign_opens}

-- a piece of this kind and length is read in front of a text, or a longer one
pub record Reached (kind : PieceKind) (n : ℕ) (text : List ℕ) : Type 0 where
  pub found : Piece
  pub read : piece_at text ≡ Some found
  pub within : n ≤ found.1
  pub same : n ≡ found.1 → kind ≡ found.0

-- a piece of the kind is read that is no shorter
read_so : (kind : PieceKind) (n m : ℕ) (text : List ℕ) → piece_at text ≡ Some (kind, m) → n ≤ m → Reached kind n text
read_so kind n m text read within = record { found = (kind, m); read = read; within = within; same = λ _. refl }

-- a longer piece of another kind is read
read_longer : (kind other : PieceKind) (n m : ℕ) (text : List ℕ) → piece_at text ≡ Some (other, m) → n < m → Reached kind n text
read_longer kind other n m text read longer =
    record { found = (other, m); read = read; within = omega arith; same = λ same. absurd (omega arith) }

-- ---- symbols

-- where a sign begins a text, the symbol is read that is found there
sign_read : (c : ℕ) (cs : List ℕ) (o : Option (Symbol × ℕ)) → opening_of c ≡ opens.Sign → symbol_at c cs ≡ o → piece_at (c ∷ cs) ≡ option_map (λ (s : Symbol × ℕ). (piece.Lexeme (spells.Symbol s.0), s.1)) o
sign_read c cs o is at = ap (λ (x : Opening). piece_behind x c cs) is ∙ ap (option_map (λ (s : Symbol × ℕ). (piece.Lexeme (spells.Symbol s.0), s.1))) at

neither : (a b : Bool) → (a || b) ≡ false → (a ≡ false) × (b ≡ false)
neither false b h = (refl, h)
neither true b h = cc

-- a symbol in front of a text, where it opens no comment
symbol_reached : (s : Symbol) (rest : List ℕ) → opens_comment (symbol_text s ++ rest) ≡ false → Reached (piece.Lexeme (spells.Symbol s)) (length (symbol_text s)) (symbol_text s ++ rest)
symbol_reached LeftParen rest h = read_so _ 1 1 (40 ∷ rest) (sign_read 40 rest _ (sign_opens 40 refl refl (omega arith) refl) refl) (omega arith)
symbol_reached RightParen rest h = read_so _ 1 1 (41 ∷ rest) (sign_read 41 rest _ (sign_opens 41 refl refl (omega arith) refl) refl) (omega arith)
symbol_reached LeftBracket rest h = read_so _ 1 1 (91 ∷ rest) (sign_read 91 rest _ (sign_opens 91 refl refl (omega arith) refl) refl) (omega arith)
symbol_reached RightBracket rest h = read_so _ 1 1 (93 ∷ rest) (sign_read 93 rest _ (sign_opens 93 refl refl (omega arith) refl) refl) (omega arith)
symbol_reached LeftBrace rest h = read_so _ 1 1 (123 ∷ rest) (sign_read 123 rest _ (sign_opens 123 refl refl (omega arith) refl) refl) (omega arith)
symbol_reached RightBrace rest h = read_so _ 1 1 (125 ∷ rest) (sign_read 125 rest _ (sign_opens 125 refl refl (omega arith) refl) refl) (omega arith)
symbol_reached Comma rest h = read_so _ 1 1 (44 ∷ rest) (sign_read 44 rest _ (sign_opens 44 refl refl (omega arith) refl) refl) (omega arith)
symbol_reached Amp rest h = read_so _ 1 1 (38 ∷ rest) (sign_read 38 rest _ (sign_opens 38 refl refl (omega arith) refl) refl) (omega arith)
symbol_reached Bar rest h = read_so _ 1 1 (124 ∷ rest) (sign_read 124 rest _ (sign_opens 124 refl refl (omega arith) refl) refl) (omega arith)
symbol_reached Plus rest h = read_so _ 1 1 (43 ∷ rest) (sign_read 43 rest _ (sign_opens 43 refl refl (omega arith) refl) refl) (omega arith)
symbol_reached Minus rest h = read_so _ 1 1 (45 ∷ rest) (sign_read 45 rest _ (sign_opens 45 refl refl (omega arith) refl) refl) (omega arith)
symbol_reached Star rest h = read_so _ 1 1 (42 ∷ rest) (sign_read 42 rest _ (sign_opens 42 refl refl (omega arith) refl) refl) (omega arith)
symbol_reached Differs rest h = read_so _ 2 2 (33 ∷ 61 ∷ rest) (sign_read 33 (61 ∷ rest) _ (sign_opens 33 refl refl (omega arith) refl) refl) (omega arith)
symbol_reached Implies rest h = read_so _ 2 2 (61 ∷ 62 ∷ rest) (sign_read 61 (62 ∷ rest) _ (sign_opens 61 refl refl (omega arith) refl) refl) (omega arith)
symbol_reached Equal rest h = read_so _ 2 2 (61 ∷ 61 ∷ rest) (sign_read 61 (61 ∷ rest) _ (sign_opens 61 refl refl (omega arith) refl) refl) (omega arith)
symbol_reached AtLeast rest h = read_so _ 2 2 (62 ∷ 61 ∷ rest) (sign_read 62 (61 ∷ rest) _ (sign_opens 62 refl refl (omega arith) refl) refl) (omega arith)
symbol_reached Iff rest h = read_so _ 3 3 (60 ∷ 61 ∷ 62 ∷ rest) (sign_read 60 (61 ∷ 62 ∷ rest) _ (sign_opens 60 refl refl (omega arith) refl) refl) (omega arith)
symbol_reached Dots rest h = read_so _ 2 2 (46 ∷ 46 ∷ rest) refl (omega arith)
symbol_reached Bang rest h =
    elim (cases_Bool (begins_with 61 rest)) [
      | inl more ↦ read_longer _ (piece.Lexeme (spells.Symbol Differs)) 1 2 (33 ∷ rest) (sign_read 33 rest (Some (Differs, 2)) (sign_opens 33 refl refl (omega arith) refl) (ap Some (cond-true (begins_with 61 rest) _ _ more))) (omega arith)
      | inr alone ↦ read_so _ 1 1 (33 ∷ rest) (sign_read 33 rest (Some (Bang, 1)) (sign_opens 33 refl refl (omega arith) refl) (ap Some (cond-false (begins_with 61 rest) _ _ alone))) (omega arith)
    ]
symbol_reached Greater rest h =
    elim (cases_Bool (begins_with 61 rest)) [
      | inl more ↦ read_longer _ (piece.Lexeme (spells.Symbol AtLeast)) 1 2 (62 ∷ rest) (sign_read 62 rest (Some (AtLeast, 2)) (sign_opens 62 refl refl (omega arith) refl) (ap Some (cond-true (begins_with 61 rest) _ _ more))) (omega arith)
      | inr alone ↦ read_so _ 1 1 (62 ∷ rest) (sign_read 62 rest (Some (Greater, 1)) (sign_opens 62 refl refl (omega arith) refl) (ap Some (cond-false (begins_with 61 rest) _ _ alone))) (omega arith)
    ]
symbol_reached AtMost rest h =
    elim (cases_Bool (begins_with 62 rest)) [
      | inl more ↦ read_longer _ (piece.Lexeme (spells.Symbol Iff)) 2 3 (60 ∷ 61 ∷ rest) (sign_read 60 (61 ∷ rest) (Some (Iff, 3)) (sign_opens 60 refl refl (omega arith) refl) (ap Some (cond-true (begins_with 62 rest) _ _ more))) (omega arith)
      | inr alone ↦ read_so _ 2 2 (60 ∷ 61 ∷ rest) (sign_read 60 (61 ∷ rest) (Some (AtMost, 2)) (sign_opens 60 refl refl (omega arith) refl) (ap Some (cond-false (begins_with 62 rest) _ _ alone))) (omega arith)
    ]
symbol_reached Less [] h = read_so _ 1 1 (60 ∷ []) (sign_read 60 [] _ (sign_opens 60 refl refl (omega arith) refl) refl) (omega arith)
symbol_reached Less (c ∷ cs) h =
    elim (cases_Bool (c == 61)) [
      | inr alone ↦ read_so _ 1 1 (60 ∷ c ∷ cs) (sign_read 60 (c ∷ cs) (Some (Less, 1)) (sign_opens 60 refl refl (omega arith) refl) (ap Some (cond-false (c == 61) _ _ alone))) (omega arith)
      | inl more ↦ elim (cases_Bool (begins_with 62 cs)) [
        | inl most ↦
            read_longer _ (piece.Lexeme (spells.Symbol Iff)) 1 3 (60 ∷ c ∷ cs)
            (sign_read 60 (c ∷ cs) (Some (Iff, 3)) (sign_opens 60 refl refl (omega arith) refl) (ap Some (cond-true (c == 61) _ _ more ∙ cond-true (begins_with 62 cs) _ _ most))) (omega arith)
        | inr less ↦
            read_longer _ (piece.Lexeme (spells.Symbol AtMost)) 1 2 (60 ∷ c ∷ cs)
            (sign_read 60 (c ∷ cs) (Some (AtMost, 2)) (sign_opens 60 refl refl (omega arith) refl) (ap Some (cond-true (c == 61) _ _ more ∙ cond-false (begins_with 62 cs) _ _ less))) (omega arith)
      ]
    ]
symbol_reached Dot rest h =
    let n = prefix_len (is_of_class Digit) rest in
    elim (cases_Bool (begins_with 46 rest)) [
      | inl dots ↦ read_longer _ (piece.Lexeme (spells.Symbol Dots)) 1 2 (46 ∷ rest) (ap Some (cond-true (begins_with 46 rest) _ _ dots)) (omega arith)
      | inr other ↦ elim (cases_Bool (n == 0)) [
        | inl none ↦ read_so _ 1 1 (46 ∷ rest) (ap Some (cond-false (begins_with 46 rest) _ _ other ∙ cond-true (n == 0) _ _ none)) (omega arith)
        | inr digits ↦
            read_longer _ (piece.Lexeme spells.Number) 1 (n + 1) (46 ∷ rest) (ap Some (cond-false (begins_with 46 rest) _ _ other ∙ cond-false (n == 0) _ _ digits))
            (let some : n ≡ 0 → ⊥ = eqb-false n 0 digits in omega arith)
      ]
    ]
symbol_reached Slash [] h = read_so _ 1 1 (47 ∷ []) refl (omega arith)
symbol_reached Slash (d ∷ ds) h =
    let other = neither (d == 47) (d == 42) h in
    read_so _ 1 1 (47 ∷ d ∷ ds) (cond-false (d == 47) _ _ other.0 ∙ cond-false (d == 42) _ _ other.1) (omega arith)

-- ---- runs of characters

-- characters of a class are all counted
all_counted : (p : ℕ → Bool) (cs rest : List ℕ) → list_all p cs ≡ true → length cs ≤ prefix_len p (cs ++ rest)
all_counted p [] rest all = omega arith
all_counted p (c ∷ cs) rest all =
    let parts = and_parts (p c) (list_all p cs) all in
    let more : prefix_len p (c ∷ cs ++ rest) ≡ 1 + prefix_len p (cs ++ rest) = cond-true (p c) _ _ parts.0 in
    omega (arith, more, all_counted p cs rest parts.1)

-- and no more of them, where a character of another class follows
counted_to : (p : ℕ → Bool) (cs : List ℕ) (d : ℕ) (rest : List ℕ) → list_all p cs ≡ true → p d ≡ false → prefix_len p (cs ++ d ∷ rest) ≡ length cs
counted_to p [] d rest all stop = cond-false (p d) _ _ stop
counted_to p (c ∷ cs) d rest all stop =
    let parts = and_parts (p c) (list_all p cs) all in
    cond-true (p c) _ _ parts.0 ∙ ap (λ (n : ℕ). 1 + n) (counted_to p cs d rest parts.1 stop) ∙ omega arith

identifier_reached : (first : ℕ) (others rest : List ℕ) → begins_identifier first ≡ true → list_all continues_identifier others ≡ true → Reached (piece.Lexeme spells.Identifier) (length (first ∷ others)) (first ∷ others ++ rest)
identifier_reached first others rest begins all =
    let n = prefix_len (is_of_class InIdentifier) (others ++ rest) in
    read_so _ _ (n + 1) _ (ap (λ (x : Opening). piece_behind x first (others ++ rest)) (letter_opens first begins))
    (let counted : length others ≤ n = all_counted continues_identifier others rest all in omega arith)

quoted_reached : (name rest : List ℕ) → is_name name ≡ true → Reached (piece.Lexeme spells.Quoted) (length name + 2) (34 ∷ name ++ 34 ∷ rest)
quoted_reached name rest is =
    let cs = name ++ 34 ∷ rest in
    let parts = and_parts _ _ is in
    let counted : prefix_len (is_of_class InQuotes) cs ≡ length name = counted_to (is_of_class InQuotes) name 34 rest parts.1 refl in
    let found : ℕ → Option Piece = λ n. cond (begins_with 34 (drop n cs)) (cond (n == 0) None (Some (piece.Lexeme spells.Quoted, n + 2))) None in
    let closed : begins_with 34 (drop (length name) cs) ≡ true = ap (begins_with 34) (drop-append_seam name (34 ∷ rest)) in
    let some : (length name == 0) ≡ false = not_so (length name == 0) parts.0 in
    read_so _ _ (length name + 2) _ (ap found counted ∙ cond-true _ _ _ closed ∙ cond-false _ _ _ some) (omega arith)
  where
    not_so : (b : Bool) → not b ≡ true → b ≡ false
    not_so false h = refl
    not_so true h = cc

text_reached : (text rest : List ℕ) → list_all (is_of_class InText) text ≡ true → Reached (piece.Lexeme spells.Text) (length text + 2) (39 ∷ text ++ 39 ∷ rest)
text_reached text rest all =
    let cs = text ++ 39 ∷ rest in
    let counted : prefix_len (is_of_class InText) cs ≡ length text = counted_to (is_of_class InText) text 39 rest all refl in
    let found : ℕ → Option Piece = λ n. cond (begins_with 39 (drop n cs)) (Some (piece.Lexeme spells.Text, n + 2)) None in
    let closed : begins_with 39 (drop (length text) cs) ≡ true = ap (begins_with 39) (drop-append_seam text (39 ∷ rest)) in
    read_so _ _ (length text + 2) _ (ap found counted ∙ cond-true _ _ _ closed) (omega arith)

-- ---- numbers

digits_reached : (digits rest : List ℕ) → IsDigits digits → Reached (piece.Lexeme spells.Number) (length digits) (digits ++ rest)
digits_reached [] rest is = absurd (omega (arith, is.0))
digits_reached (d ∷ ds) rest is =
    let parts = and_parts _ _ is.1 in
    let n = prefix_len (is_of_class Digit) (ds ++ rest) in
    read_so _ _ (decimals_len (drop n (ds ++ rest)) + n + 1) _ (ap (λ (x : Opening). piece_behind x d (ds ++ rest)) (digit_opens d parts.0))
    (let counted : length ds ≤ n = all_counted is_ascii_digit ds rest parts.1 in omega arith)

-- there are digits, and the first of them is no point
some_digits : (decimals rest : List ℕ) → IsDigits decimals → ((prefix_len (is_of_class Digit) (decimals ++ rest) == 0) ≡ false) × (begins_with 46 (decimals ++ rest) ≡ false)
some_digits [] rest is = absurd (omega (arith, is.0))
some_digits (d ∷ ds) rest is =
    let parts = and_parts _ _ is.1 in
    let n = prefix_len (is_of_class Digit) (ds ++ rest) in
    (ap (λ (m : ℕ). m == 0) (cond-true (is_ascii_digit d) _ _ parts.0) ∙ more_than_none n, no_point d parts.0)
  where
    more_than_none : (n : ℕ) → (1 + n == 0) ≡ false
    more_than_none n = grind (arith, nat_tests)

    no_point : (d : ℕ) → is_ascii_digit d ≡ true → (d == 46) ≡ false
    no_point d digit = elim (cases_Bool (d == 46)) [
      | inl point ↦ absurd (let clash : true ≡ false = sym digit ∙ ap is_ascii_digit (eqb-true d 46 point) in cc)
      | inr other ↦ other
    ]

decimal_reached : (whole decimals rest : List ℕ) → list_all is_ascii_digit whole ≡ true → IsDigits decimals → Reached (piece.Lexeme spells.Number) (length whole + (1 + length decimals)) (whole ++ 46 ∷ (decimals ++ rest))
decimal_reached [] decimals rest all is =
    let n = prefix_len (is_of_class Digit) (decimals ++ rest) in
    let some = some_digits decimals rest is in
    read_so _ _ (n + 1) _ (ap Some (cond-false (begins_with 46 (decimals ++ rest)) _ _ some.1 ∙ cond-false (n == 0) _ _ some.0))
    (let counted : length decimals ≤ n = all_counted is_ascii_digit decimals rest is.1 in omega arith)
decimal_reached (w ∷ ws) decimals rest all is =
    let parts = and_parts _ _ all in
    let cs = ws ++ 46 ∷ (decimals ++ rest) in
    let n = prefix_len (is_of_class Digit) (decimals ++ rest) in
    let some = some_digits decimals rest is in
    let counted : prefix_len (is_of_class Digit) cs ≡ length ws = counted_to (is_of_class Digit) ws 46 (decimals ++ rest) parts.1 refl in
    let behind : decimals_len (drop (prefix_len (is_of_class Digit) cs) cs) ≡ n + 1 =
    ap (λ (k : ℕ). decimals_len (drop k cs)) counted ∙ ap decimals_len (drop-append_seam ws (46 ∷ (decimals ++ rest))) ∙ cond-false (n == 0) _ _ some.0 in
    read_so _ _ (decimals_len (drop (prefix_len (is_of_class Digit) cs) cs) + prefix_len (is_of_class Digit) cs + 1) _
    (ap (λ (x : Opening). piece_behind x w cs) (digit_opens w parts.0))
    (let more : length decimals ≤ n = all_counted is_ascii_digit decimals rest is.1 in omega arith)

-- ---- comments

-- a line comment goes on to the end of its line
line_counted : (cs rest : List ℕ) → list_all (λ c. not (c == 10)) cs ≡ true → ((front behind : List ℕ) → cs ≡ front ++ 13 ∷ [] → rest ≡ 10 ∷ behind → ⊥) → length cs ≤ line_len (cs ++ rest)
line_counted [] rest all apart = omega arith
line_counted (c ∷ cs) rest all apart =
    let parts = and_parts _ _ all in
    let goes_on : ends_line c (cs ++ rest) ≡ false = inside c cs parts.0 parts.1 apart in
    let more : line_len (c ∷ cs ++ rest) ≡ line_len (cs ++ rest) + 1 = cond-false (ends_line c (cs ++ rest)) _ _ goes_on in
    omega (arith, more, line_counted cs rest parts.1 (λ front behind e. apart (c ∷ front) behind (ap (λ (t : List ℕ). c ∷ t) e)))
  where
    not_so : (b : Bool) → not b ≡ true → b ≡ false
    not_so false h = refl
    not_so true h = cc

    either : (a b : Bool) → a ≡ false → b ≡ false → (a || b) ≡ false
    either a b ha hb = rw (ha, hb) refl

    begins : (ds : List ℕ) → begins_with 10 ds ≡ true → (behind : List ℕ) × (ds ≡ 10 ∷ behind)
    begins [] h = cc
    begins (d ∷ ds) h = (ds, ap (λ (x : ℕ). x ∷ ds) (eqb-true d 10 h))

    -- a CR in front of LF would be parted from it
    last : (c : ℕ) → ((front behind : List ℕ) → c ∷ [] ≡ front ++ 13 ∷ [] → rest ≡ 10 ∷ behind → ⊥) → (c == 13 && begins_with 10 rest) ≡ false
    last c apart = elim (cases_Bool (c == 13 && begins_with 10 rest)) [
      | inl both ↦
          let parts = and_parts _ _ both in
          let feed = begins rest parts.1 in
          absurd (apart [] feed.0 (ap (λ (x : ℕ). x ∷ []) (eqb-true c 13 parts.0)) feed.1)
      | inr other ↦ other
    ]

    inside : (c : ℕ) (cs : List ℕ) → not (c == 10) ≡ true → list_all (λ c. not (c == 10)) cs ≡ true → ((front behind : List ℕ) → c ∷ cs ≡ front ++ 13 ∷ [] → rest ≡ 10 ∷ behind → ⊥) → ends_line c (cs ++ rest) ≡ false
    inside c [] no_feed all apart = either _ _ (not_so _ no_feed) (last c apart)
    inside c (d ∷ ds) no_feed all apart = either _ _ (not_so _ no_feed) (and_right (c == 13) (d == 10) (not_so _ (and_parts _ _ all).0))

line_reached : (inside rest : List ℕ) → list_all (λ c. not (c == 10)) inside ≡ true → MayStandBefore piece.Comment (47 ∷ 47 ∷ inside) rest → Reached piece.Comment (length (47 ∷ 47 ∷ inside)) (47 ∷ 47 ∷ inside ++ rest)
line_reached inside rest all apart =
    read_so _ _ (line_len (inside ++ rest) + 2) _ refl
    (let counted : length inside ≤ line_len (inside ++ rest) = line_counted inside rest all (λ front behind e. apart (47 ∷ 47 ∷ front) behind (ap (λ (t : List ℕ). 47 ∷ 47 ∷ t) e)) in
    omega arith)

-- a comment is closed by the first `*/`
closes : (cs rest : List ℕ) → ((front behind : List ℕ) → cs ≡ front ++ 42 ∷ 47 ∷ behind → ⊥) → through_close (cs ++ 42 ∷ 47 ∷ rest) ≡ Some (length cs + 2)
closes [] rest none = refl
closes (c ∷ cs) rest none =
    cond-false (c == 42 && begins_with 47 (cs ++ 42 ∷ 47 ∷ rest)) _ _ (goes_on c cs none)
    ∙ ap (option_map (λ n. n + 1)) (closes cs rest (λ front behind e. none (c ∷ front) behind (ap (λ (t : List ℕ). c ∷ t) e)))
    ∙ ap Some (let e : length cs + 2 + 1 ≡ length (c ∷ cs) + 2 = omega arith in e)
  where
    goes_on : (c : ℕ) (cs : List ℕ) → ((front behind : List ℕ) → c ∷ cs ≡ front ++ 42 ∷ 47 ∷ behind → ⊥) → (c == 42 && begins_with 47 (cs ++ 42 ∷ 47 ∷ rest)) ≡ false
    goes_on c [] none = and_right (c == 42) false refl
    goes_on c (d ∷ ds) none = elim (cases_Bool (c == 42 && d == 47)) [
      | inl both ↦
          let parts = and_parts _ _ both in
          absurd (none [] ds (ap (λ (x : ℕ). x ∷ d ∷ ds) (eqb-true c 42 parts.0) ∙ ap (λ (x : ℕ). 42 ∷ x ∷ ds) (eqb-true d 47 parts.1)))
      | inr other ↦ other
    ]

block_reached : (inside rest : List ℕ) → ((front behind : List ℕ) → inside ≡ front ++ 42 ∷ 47 ∷ behind → ⊥) → Reached piece.Comment (length inside + 4) (47 ∷ 42 ∷ inside ++ 42 ∷ 47 ∷ rest)
block_reached inside rest none =
    read_so _ _ (length inside + 2 + 2) _ (ap (option_map (λ n. (piece.Comment, n + 2))) (closes inside rest none)) (omega arith)

-- ---- all pieces

-- what is reached depends on the characters alone
reached_as : (kind : PieceKind) (n m : ℕ) (text other : List ℕ) → Reached kind n text → n ≡ m → text ≡ other → Reached kind m other
reached_as kind n m text other h size same = subst (λ (t : List ℕ). Reached kind m t) same (subst (λ (k : ℕ). Reached kind k text) size h)

token_reached : (l : Lexeme) (spelling rest : List ℕ) → HasTokenForm l spelling → MayStandBefore (piece.Lexeme l) spelling rest → Reached (piece.Lexeme l) (length spelling) (spelling ++ rest)
token_reached spells.Identifier spelling rest (first, others, is, begins, all) stands =
    subst (λ (t : List ℕ). Reached (piece.Lexeme spells.Identifier) (length t) (t ++ rest)) (sym is) (identifier_reached first others rest begins all)
token_reached spells.Quoted spelling rest (name, is, fits) stands =
    reached_as _ _ _ _ _ (quoted_reached name rest fits) (between 34 name is) (sym (around 34 name is))
  where
    between : (k : ℕ) (inside : List ℕ) → spelling ≡ k ∷ inside ++ k ∷ [] → length inside + 2 ≡ length spelling
    between k inside is = omega (arith, ap length is, length-append inside (k ∷ []))

    around : (k : ℕ) (inside : List ℕ) → spelling ≡ k ∷ inside ++ k ∷ [] → spelling ++ rest ≡ k ∷ inside ++ k ∷ rest
    around k inside is = ap (λ (t : List ℕ). t ++ rest) is ∙ ap (λ (t : List ℕ). k ∷ t) (append_assoc inside (k ∷ []) rest)
token_reached spells.Text spelling rest (text, is, fits) stands =
    reached_as _ _ _ _ _ (text_reached text rest fits) (between 39 text is) (sym (around 39 text is))
  where
    between : (k : ℕ) (inside : List ℕ) → spelling ≡ k ∷ inside ++ k ∷ [] → length inside + 2 ≡ length spelling
    between k inside is = omega (arith, ap length is, length-append inside (k ∷ []))

    around : (k : ℕ) (inside : List ℕ) → spelling ≡ k ∷ inside ++ k ∷ [] → spelling ++ rest ≡ k ∷ inside ++ k ∷ rest
    around k inside is = ap (λ (t : List ℕ). t ++ rest) is ∙ ap (λ (t : List ℕ). k ∷ t) (append_assoc inside (k ∷ []) rest)
token_reached spells.Number spelling rest (inl digits) stands = digits_reached spelling rest digits
token_reached spells.Number spelling rest (inr (whole, decimals, is, digits, some)) stands =
    reached_as _ _ _ _ _ (decimal_reached whole decimals rest digits some)
    (omega (arith, ap length is, length-append whole (46 ∷ decimals)))
    (sym (ap (λ (t : List ℕ). t ++ rest) is ∙ append_assoc whole (46 ∷ decimals) rest))
token_reached (spells.Symbol s) spelling rest is stands =
    subst (λ (t : List ℕ). Reached (piece.Lexeme (spells.Symbol s)) (length t) (t ++ rest)) (sym is)
    (symbol_reached s rest (subst (λ (t : List ℕ). opens_comment (t ++ rest) ≡ false) is stands))

pub reached : (kind : PieceKind) (spelling rest : List ℕ) → HasForm kind spelling → MayStandBefore kind spelling rest → Reached kind (length spelling) (spelling ++ rest)
reached piece.Space spelling rest is stands =
    subst (λ (t : List ℕ). Reached piece.Space (length t) (t ++ rest)) (sym is) (read_so piece.Space 1 1 (32 ∷ rest) refl (omega arith))
reached piece.Tab spelling rest is stands =
    subst (λ (t : List ℕ). Reached piece.Tab (length t) (t ++ rest)) (sym is) (read_so piece.Tab 1 1 (9 ∷ rest) refl (omega arith))
reached piece.Break spelling rest (inl is) stands =
    subst (λ (t : List ℕ). Reached piece.Break (length t) (t ++ rest)) (sym is) (read_so piece.Break 1 1 (10 ∷ rest) refl (omega arith))
reached piece.Break spelling rest (inr is) stands =
    subst (λ (t : List ℕ). Reached piece.Break (length t) (t ++ rest)) (sym is) (read_so piece.Break 2 2 (13 ∷ 10 ∷ rest) refl (omega arith))
reached piece.Comment spelling rest (inl (inside, is, all)) stands =
    subst (λ (t : List ℕ). Reached piece.Comment (length t) (t ++ rest)) (sym is)
    (line_reached inside rest all (subst (λ (t : List ℕ). MayStandBefore piece.Comment t rest) is stands))
reached piece.Comment spelling rest (inr (inside, is, none)) stands =
    reached_as _ _ _ _ _ (block_reached inside rest none)
    (omega (arith, ap length is, length-append inside (42 ∷ 47 ∷ [])))
    (sym (ap (λ (t : List ℕ). t ++ rest) is ∙ ap (λ (t : List ℕ). 47 ∷ 42 ∷ t) (append_assoc inside (42 ∷ 47 ∷ []) rest)))
reached (piece.Lexeme l) spelling rest form stands = token_reached l spelling rest form stands
