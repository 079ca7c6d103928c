-- A piece that is read begins the text by its form.
use Rattle.std.proofs.Common.{◌≡◌, ℕ, suc, ◌+◌, ◌≤◌, ◌==◌, Bool, true, false, not, cond, ◌&&◌, ◌||◌, List, [], ◌∷◌, ◌++◌, length, take, drop, Option, Some, None, refl, sym, ap, ◌∙◌, subst, inl, inr, arith, append_assoc, length-append}
use Rattle.std.specs.Prelude.{IfSome}
use Rattle.std.specs.List.{prefix_len, list_all}
use Rattle.std.specs.Char.{is_ascii_digit}
use Rattle.std.specs.Option.{option_map}
use Rattle.std.proofs.Math.Seq.{take-append_seam}
use Rattle.std.proofs.lemmas.Bool.{cases_Bool, cond-true, cond-false, eqb-true, eqb-false, and_parts, and_from}
use Rattle.std.proofs.lemmas.List.{take-append-drop}
use Rattle.std.proofs.lemmas.List.Folds.{length-prefix_len}
use Rattle.uvl_base.specs.Identifier.{begins_identifier, continues_identifier}
use Rattle.uvl_base.specs.Name.{may_stand_in_name, is_name}
use Rattle.uvl_lexer.specs.Characters.{is_of_class, begins_with, may_stand_in_text}
use Rattle.uvl_lexer.specs.declared.characters.CharacterClass.TheVariants.{InIdentifier, Digit, InQuotes, InText}
use Rattle.uvl_lexer.specs.declared.token.Symbol.{Symbol}
use Rattle.uvl_lexer.specs.declared.token.Symbol.TheVariants.{LeftParen, RightParen, LeftBracket, RightBracket, LeftBrace, RightBrace, Comma, Bang, Amp, Bar, Implies, Iff, Equal, Differs, Less, AtMost, Greater, AtLeast, Plus, Minus, Star, Slash}
use Rattle.uvl_lexer.specs.declared.piece.Opening.{Opening}
use Rattle.uvl_lexer.specs.declared.piece.Opening.TheVariants as opens
use Rattle.uvl_lexer.specs.declared.piece.Lexeme.TheVariants as spells
use Rattle.uvl_lexer.specs.declared.piece.PieceKind.TheVariants as piece
use Rattle.uvl_lexer.specs.Pieces.{Piece, piece_at, piece_behind, opening_of, plain_symbol, operator_at, or_operator, symbol_at, bang_at, equal_at, less_at, greater_at, slash_at, quoted_at, text_at, point_at, number_at, decimals_len, identifier_at, through_close, line_len, ends_line}
use Rattle.uvl_lexer.specs.Forms.{HasForm, MayStandBefore, opens_comment, symbol_text, IsDigits}
use Rattle.uvl_lexer.proofs.Names.{front_passes}
use Rattle.uvl_lexer.proofs.Openings.{OpensBy, opens_by}

-- a piece begins a text by its form, and has as many characters as is said
pub record Found (text : List ℕ) (p : Piece) : Type 0 where
  pub spelling : List ℕ
  pub rest : List ℕ
  pub joined : text ≡ spelling ++ rest
  pub size : length spelling ≡ p.1
  pub some : 1 ≤ p.1
  pub form : HasForm p.0 spelling
  pub stands : MayStandBefore p.0 spelling rest

found_so : (text : List ℕ) (p q : Piece) → Some q ≡ Some p → Found text q → Found text p
found_so text p q e h = let same : q ≡ p = cc in subst (λ (r : Piece). Found text r) same h

found_at : (text other : List ℕ) (p : Piece) → other ≡ text → Found other p → Found text p
found_at text other p e h = subst (λ (t : List ℕ). Found t p) e h

nothing_found : (text : List ℕ) (p : Piece) (o : Option Piece) → o ≡ None → o ≡ Some p → Found text p
nothing_found text p o none e = absurd (let clash : None ≡ Some p = sym none ∙ e in cc)

-- what a text begins with
begins_so : (k : ℕ) (cs : List ℕ) → begins_with k cs ≡ true → (rest : List ℕ) × (cs ≡ k ∷ rest)
begins_so k [] h = cc
begins_so k (c ∷ cs) h = (cs, ap (λ (x : ℕ). x ∷ cs) (eqb-true c k h))

split : (n : ℕ) (cs : List ℕ) → cs ≡ take n cs ++ drop n cs
split n cs = sym (take-append-drop n cs)

-- ---- symbols

-- a symbol in front of a text
abbrev pub SymbolFound : List ℕ → Symbol × ℕ → Type 0
SymbolFound text s = (rest : List ℕ) × (text ≡ symbol_text s.0 ++ rest) × (length (symbol_text s.0) ≡ s.1) × (1 ≤ s.1)

by_test : {A : Type 0} (P : A → Type 0) (b : Bool) (x y : Option A) → (b ≡ true → IfSome x P) → IfSome y P → IfSome (cond b x y) P
by_test P true x y passes fails = passes refl
by_test P false x y passes fails = fails

one_character : (c k : ℕ) (cs : List ℕ) → (c == k) ≡ true → c ∷ cs ≡ k ∷ cs
one_character c k cs h = ap (λ (x : ℕ). x ∷ cs) (eqb-true c k h)

two_characters : (c k l : ℕ) (cs : List ℕ) → (c == k) ≡ true → (h : begins_with l cs ≡ true) → c ∷ cs ≡ k ∷ l ∷ (begins_so l cs h).0
two_characters c k l cs first h = one_character c k cs first ∙ ap (λ (t : List ℕ). k ∷ t) (begins_so l cs h).1

plain_found : (c : ℕ) (cs : List ℕ) → IfSome (plain_symbol c) (λ s. SymbolFound (c ∷ cs) (s, 1))
plain_found c cs =
    by_test (λ s. SymbolFound (c ∷ cs) (s, 1)) (c == 40) (Some LeftParen) _ (λ h. (cs, one_character c 40 cs h, refl, omega arith))
    (by_test (λ s. SymbolFound (c ∷ cs) (s, 1)) (c == 41) (Some RightParen) _ (λ h. (cs, one_character c 41 cs h, refl, omega arith))
    (by_test (λ s. SymbolFound (c ∷ cs) (s, 1)) (c == 91) (Some LeftBracket) _ (λ h. (cs, one_character c 91 cs h, refl, omega arith))
    (by_test (λ s. SymbolFound (c ∷ cs) (s, 1)) (c == 93) (Some RightBracket) _ (λ h. (cs, one_character c 93 cs h, refl, omega arith))
    (by_test (λ s. SymbolFound (c ∷ cs) (s, 1)) (c == 123) (Some LeftBrace) _ (λ h. (cs, one_character c 123 cs h, refl, omega arith))
    (by_test (λ s. SymbolFound (c ∷ cs) (s, 1)) (c == 125) (Some RightBrace) _ (λ h. (cs, one_character c 125 cs h, refl, omega arith))
    (by_test (λ s. SymbolFound (c ∷ cs) (s, 1)) (c == 44) (Some Comma) _ (λ h. (cs, one_character c 44 cs h, refl, omega arith))
    (by_test (λ s. SymbolFound (c ∷ cs) (s, 1)) (c == 38) (Some Amp) _ (λ h. (cs, one_character c 38 cs h, refl, omega arith))
    (by_test (λ s. SymbolFound (c ∷ cs) (s, 1)) (c == 124) (Some Bar) _ (λ h. (cs, one_character c 124 cs h, refl, omega arith))
    (by_test (λ s. SymbolFound (c ∷ cs) (s, 1)) (c == 43) (Some Plus) _ (λ h. (cs, one_character c 43 cs h, refl, omega arith))
    (by_test (λ s. SymbolFound (c ∷ cs) (s, 1)) (c == 45) (Some Minus) _ (λ h. (cs, one_character c 45 cs h, refl, omega arith))
    (by_test (λ s. SymbolFound (c ∷ cs) (s, 1)) (c == 42) (Some Star) None (λ h. (cs, one_character c 42 cs h, refl, omega arith)) tt)))))))))))

bang_found : (c : ℕ) (cs : List ℕ) → (c == 33) ≡ true → SymbolFound (c ∷ cs) (bang_at cs)
bang_found c cs h = two_ways (begins_with 61 cs) refl
  where
    two_ways : (b : Bool) → begins_with 61 cs ≡ b → SymbolFound (c ∷ cs) (cond b (Differs, 2) (Bang, 1))
    two_ways true e = (_, two_characters c 33 61 cs h e, refl, omega arith)
    two_ways false e = (cs, one_character c 33 cs h, refl, omega arith)

greater_found : (c : ℕ) (cs : List ℕ) → (c == 62) ≡ true → SymbolFound (c ∷ cs) (greater_at cs)
greater_found c cs h = two_ways (begins_with 61 cs) refl
  where
    two_ways : (b : Bool) → begins_with 61 cs ≡ b → SymbolFound (c ∷ cs) (cond b (AtLeast, 2) (Greater, 1))
    two_ways true e = (_, two_characters c 62 61 cs h e, refl, omega arith)
    two_ways false e = (cs, one_character c 62 cs h, refl, omega arith)

less_found : (c : ℕ) (cs : List ℕ) → (c == 60) ≡ true → SymbolFound (c ∷ cs) (less_at cs)
unfolding begins_so
less_found c [] h = ([], one_character c 60 [] h, refl, omega arith)
less_found c (d ∷ ds) h = two_ways (d == 61) refl
  where
    ends_so : (b : Bool) → begins_with 62 ds ≡ b → (d == 61) ≡ true → SymbolFound (c ∷ d ∷ ds) (cond b (Iff, 3) (AtMost, 2))
    ends_so true e more = (_, two_characters c 60 61 (d ∷ ds) h more ∙ ap (λ (t : List ℕ). 60 ∷ 61 ∷ t) (begins_so 62 ds e).1, refl, omega arith)
    ends_so false e more = (ds, two_characters c 60 61 (d ∷ ds) h more, refl, omega arith)

    two_ways : (b : Bool) → (d == 61) ≡ b → SymbolFound (c ∷ d ∷ ds) (cond b (cond (begins_with 62 ds) (Iff, 3) (AtMost, 2)) (Less, 1))
    two_ways true e = ends_so (begins_with 62 ds) refl e
    two_ways false e = (d ∷ ds, one_character c 60 (d ∷ ds) h, refl, omega arith)

equal_found : (c : ℕ) (cs : List ℕ) → (c == 61) ≡ true → IfSome (equal_at cs) (SymbolFound (c ∷ cs))
equal_found c cs h =
    by_test (SymbolFound (c ∷ cs)) (begins_with 61 cs) (Some (Equal, 2)) _ (λ e. (_, two_characters c 61 61 cs h e, refl, omega arith))
    (by_test (SymbolFound (c ∷ cs)) (begins_with 62 cs) (Some (Implies, 2)) None (λ e. (_, two_characters c 61 62 cs h e, refl, omega arith)) tt)

operator_found : (c : ℕ) (cs : List ℕ) → IfSome (operator_at c cs) (SymbolFound (c ∷ cs))
operator_found c cs =
    by_test (SymbolFound (c ∷ cs)) (c == 33) (Some (bang_at cs)) _ (bang_found c cs)
    (by_test (SymbolFound (c ∷ cs)) (c == 61) (equal_at cs) _ (equal_found c cs)
    (by_test (SymbolFound (c ∷ cs)) (c == 60) (Some (less_at cs)) _ (less_found c cs)
    (by_test (SymbolFound (c ∷ cs)) (c == 62) (Some (greater_at cs)) None (greater_found c cs) tt)))

any_found : (c : ℕ) (cs : List ℕ) (o : Option Symbol) → IfSome o (λ s. SymbolFound (c ∷ cs) (s, 1)) → IfSome (or_operator o c cs) (SymbolFound (c ∷ cs))
any_found c cs (Some s) h = h
any_found c cs None h = operator_found c cs

sign_found : (c : ℕ) (cs : List ℕ) (p : Piece) → (c == 47) ≡ false → (o : Option (Symbol × ℕ)) → IfSome o (SymbolFound (c ∷ cs))
    → option_map (λ (s : Symbol × ℕ). (piece.Lexeme (spells.Symbol s.0), s.1)) o ≡ Some p → Found (c ∷ cs) p
sign_found c cs p other None h e = absurd (let clash : None ≡ Some p = e in cc)
sign_found c cs p other (Some s) (rest, joined, size, some) e =
    found_so (c ∷ cs) p (piece.Lexeme (spells.Symbol s.0), s.1) e (record {
      spelling = symbol_text s.0;
      rest = rest;
      joined = joined;
      size = size;
      some = some;
      form = refl;
      stands = ap opens_comment (sym joined) ∙ no_comment c cs other;
    })
  where
    no_comment : (c : ℕ) (cs : List ℕ) → (c == 47) ≡ false → opens_comment (c ∷ cs) ≡ false
    no_comment c cs other = ap (λ (b : Bool). b && (begins_with 47 cs || begins_with 42 cs)) other

-- ---- names and texts

-- the characters in front that may stand in a name are one, where there are some
quoted_name : (cs : List ℕ) → (prefix_len (is_of_class InQuotes) cs == 0) ≡ false → is_name (take (prefix_len (is_of_class InQuotes) cs) cs) ≡ true
quoted_name cs some =
    let n = prefix_len (is_of_class InQuotes) cs in
    and_from _ _ (ap (λ (k : ℕ). not (k == 0)) (length-prefix_len (is_of_class InQuotes) cs) ∙ ap not some) (front_passes may_stand_in_name cs)

identifier_found : (c : ℕ) (cs : List ℕ) → begins_identifier c ≡ true → Found (c ∷ cs) (identifier_at cs)
identifier_found c cs begins =
    let n = prefix_len (is_of_class InIdentifier) cs in
    record {
      spelling = c ∷ take n cs;
      rest = drop n cs;
      joined = ap (λ (t : List ℕ). c ∷ t) (split n cs);
      size = omega (arith, length-prefix_len (is_of_class InIdentifier) cs);
      some = omega arith;
      form = (c, take n cs, refl, begins, front_passes continues_identifier cs);
      stands = tt;
    }

-- quotes round the characters in front of the second
between : (k n : ℕ) (cs : List ℕ) (h : begins_with k (drop n cs) ≡ true) → k ∷ cs ≡ (k ∷ take n cs ++ k ∷ []) ++ (begins_so k (drop n cs) h).0
between k n cs h =
    let rest = begins_so k (drop n cs) h in
    ap (λ (t : List ℕ). k ∷ t)
    (split n cs ∙ ap (λ (t : List ℕ). take n cs ++ t) rest.1 ∙ sym (append_assoc (take n cs) (k ∷ []) rest.0))

quoted_found : (cs : List ℕ) (p : Piece) → quoted_at cs ≡ Some p → Found (34 ∷ cs) p
quoted_found cs p e =
    let n = prefix_len (is_of_class InQuotes) cs in
    elim (cases_Bool (begins_with 34 (drop n cs))) [
      | inr open_ ↦ nothing_found (34 ∷ cs) p (quoted_at cs) (cond-false (begins_with 34 (drop n cs)) _ _ open_) e
      | inl closed ↦ elim (cases_Bool (n == 0)) [
        | inl empty ↦ nothing_found (34 ∷ cs) p (quoted_at cs) (cond-true (begins_with 34 (drop n cs)) _ _ closed ∙ cond-true (n == 0) _ _ empty) e
        | inr filled ↦
            found_so (34 ∷ cs) p (piece.Lexeme spells.Quoted, n + 2)
            (sym (cond-true (begins_with 34 (drop n cs)) _ _ closed ∙ cond-false (n == 0) _ _ filled) ∙ e) (record {
              spelling = 34 ∷ take n cs ++ 34 ∷ [];
              rest = (begins_so 34 (drop n cs) closed).0;
              joined = between 34 n cs closed;
              size = omega (arith, length-append (take n cs) (34 ∷ []), length-prefix_len (is_of_class InQuotes) cs);
              some = omega arith;
              form = (take n cs, refl, quoted_name cs filled);
              stands = tt;
            })
      ]
    ]

text_found : (cs : List ℕ) (p : Piece) → text_at cs ≡ Some p → Found (39 ∷ cs) p
text_found cs p e =
    let n = prefix_len (is_of_class InText) cs in
    elim (cases_Bool (begins_with 39 (drop n cs))) [
      | inr open_ ↦ nothing_found (39 ∷ cs) p (text_at cs) (cond-false (begins_with 39 (drop n cs)) _ _ open_) e
      | inl closed ↦
          found_so (39 ∷ cs) p (piece.Lexeme spells.Text, n + 2) (sym (cond-true (begins_with 39 (drop n cs)) _ _ closed) ∙ e) (record {
            spelling = 39 ∷ take n cs ++ 39 ∷ [];
            rest = (begins_so 39 (drop n cs) closed).0;
            joined = between 39 n cs closed;
            size = omega (arith, length-append (take n cs) (39 ∷ []), length-prefix_len (is_of_class InText) cs);
            some = omega arith;
            form = (take n cs, refl, front_passes may_stand_in_text cs);
            stands = tt;
          })
    ]

-- ---- numbers

front_digits : (cs : List ℕ) → (prefix_len (is_of_class Digit) cs == 0) ≡ false → IsDigits (take (prefix_len (is_of_class Digit) cs) cs)
front_digits cs some =
    let n = prefix_len (is_of_class Digit) cs in
    let not_none : n ≡ 0 → ⊥ = eqb-false n 0 some in
    (omega (arith, length-prefix_len (is_of_class Digit) cs), front_passes is_ascii_digit cs)

-- digits, and what follows them
number_found : (d : ℕ) (ds rest : List ℕ) → list_all is_ascii_digit (d ∷ ds) ≡ true → Found (d ∷ ds ++ rest) (piece.Lexeme spells.Number, decimals_len rest + length ds + 1)
number_found d ds [] all = record {
  spelling = d ∷ ds;
  rest = [];
  joined = refl;
  size = omega arith;
  some = omega arith;
  form = inl (omega arith, all);
  stands = tt;
}
number_found d ds (c ∷ cs) all =
    let n = prefix_len (is_of_class Digit) cs in
    elim (cases_Bool (c == 46)) [
      | inr other ↦ alone (cond-false (c == 46) _ _ other)
      | inl point ↦ elim (cases_Bool (n == 0)) [
        | inl none ↦ alone (cond-true (c == 46) _ _ point ∙ cond-true (n == 0) _ _ none)
        | inr some ↦
            let size : decimals_len (c ∷ cs) ≡ n + 1 = cond-true (c == 46) _ _ point ∙ cond-false (n == 0) _ _ some in
            record {
              spelling = (d ∷ ds) ++ 46 ∷ take n cs;
              rest = drop n cs;
              joined =
                  ap (λ (x : ℕ). (d ∷ ds) ++ x ∷ cs) (eqb-true c 46 point)
                  ∙ ap (λ (t : List ℕ). (d ∷ ds) ++ 46 ∷ t) (split n cs)
                  ∙ sym (append_assoc (d ∷ ds) (46 ∷ take n cs) (drop n cs));
              size = omega (arith, size, length-append ds (46 ∷ take n cs), length-prefix_len (is_of_class Digit) cs);
              some = omega arith;
              form = inr (d ∷ ds, take n cs, refl, all, front_digits cs some);
              stands = tt;
            }
      ]
    ]
  where
    alone : decimals_len (c ∷ cs) ≡ 0 → Found (d ∷ ds ++ c ∷ cs) (piece.Lexeme spells.Number, decimals_len (c ∷ cs) + length ds + 1)
    alone none = record {
      spelling = d ∷ ds;
      rest = c ∷ cs;
      joined = refl;
      size = omega (arith, none);
      some = omega arith;
      form = inl (omega arith, all);
      stands = tt;
    }

digit_found : (c : ℕ) (cs : List ℕ) → is_ascii_digit c ≡ true → Found (c ∷ cs) (number_at cs)
digit_found c cs digit =
    let n = prefix_len (is_of_class Digit) cs in
    found_at (c ∷ cs) (c ∷ take n cs ++ drop n cs) (number_at cs) (ap (λ (t : List ℕ). c ∷ t) (sym (split n cs)))
    (subst (λ (k : ℕ). Found (c ∷ take n cs ++ drop n cs) (piece.Lexeme spells.Number, decimals_len (drop n cs) + k + 1)) (length-prefix_len (is_of_class Digit) cs)
    (number_found c (take n cs) (drop n cs) (and_from _ _ digit (front_passes is_ascii_digit cs))))

point_found : (cs : List ℕ) → Found (46 ∷ cs) (point_at cs)
point_found cs =
    let n = prefix_len (is_of_class Digit) cs in
    elim (cases_Bool (begins_with 46 cs)) [
      | inl dots ↦ subst (λ (q : Piece). Found (46 ∷ cs) q) (sym (cond-true (begins_with 46 cs) _ _ dots)) (record {
        spelling = 46 ∷ 46 ∷ [];
        rest = (begins_so 46 cs dots).0;
        joined = ap (λ (t : List ℕ). 46 ∷ t) (begins_so 46 cs dots).1;
        size = refl;
        some = omega arith;
        form = refl;
        stands = refl;
      })
      | inr other ↦ elim (cases_Bool (n == 0)) [
        | inl dot ↦
            subst (λ (q : Piece). Found (46 ∷ cs) q) (sym (cond-false (begins_with 46 cs) _ _ other ∙ cond-true (n == 0) _ _ dot)) (record {
              spelling = 46 ∷ [];
              rest = cs;
              joined = refl;
              size = refl;
              some = omega arith;
              form = refl;
              stands = refl;
            })
        | inr digits ↦
            subst (λ (q : Piece). Found (46 ∷ cs) q) (sym (cond-false (begins_with 46 cs) _ _ other ∙ cond-false (n == 0) _ _ digits)) (record {
              spelling = 46 ∷ take n cs;
              rest = drop n cs;
              joined = ap (λ (t : List ℕ). 46 ∷ t) (split n cs);
              size = omega (arith, length-prefix_len (is_of_class Digit) cs);
              some = omega arith;
              form = inr ([], take n cs, refl, refl, front_digits cs digits);
              stands = tt;
            })
      ]
    ]

-- ---- comments

no_last : (k : ℕ) (front : List ℕ) → [] ≡ front ++ k ∷ [] → ⊥
no_last k [] e = cc
no_last k (f ∷ fs) e = cc

last_same : (xs front : List ℕ) (a b : ℕ) → xs ++ a ∷ [] ≡ front ++ b ∷ [] → a ≡ b
last_same [] [] a b e = cc
last_same [] (f ∷ fs) a b e = absurd (no_last b fs (cc))
last_same (x ∷ xs) [] a b e = absurd (no_last a xs (cc))
last_same (x ∷ xs) (f ∷ fs) a b e = last_same xs fs a b (cc)

-- so many characters stand in front of the end of a line
pub record LineOf (n : ℕ) (cs : List ℕ) : Type 0 where
  pub size : length (take n cs) ≡ n
  pub inside : list_all (λ c. not (c == 10)) (take n cs) ≡ true
  pub apart : (front behind : List ℕ) → take n cs ≡ front ++ 13 ∷ [] → drop n cs ≡ 10 ∷ behind → ⊥

line_ends : (cs : List ℕ) → LineOf 0 cs
line_ends cs = record { size = refl; inside = refl; apart = λ front behind e h. no_last 13 front e }

neither : (a b : Bool) → (a || b) ≡ false → (a ≡ false) × (b ≡ false)
neither false b h = (refl, h)
neither true b h = cc

line_goes_on : (n c : ℕ) (cs : List ℕ) → ends_line c cs ≡ false → LineOf n cs → LineOf (suc n) (c ∷ cs)
line_goes_on n c cs goes_on line = record {
  size = omega (arith, line.size);
  inside = and_from _ _ (ap not (neither _ _ goes_on).0) line.inside;
  apart = apart;
}
  where
    apart : (front behind : List ℕ) → c ∷ take n cs ≡ front ++ 13 ∷ [] → drop n cs ≡ 10 ∷ behind → ⊥
    apart [] behind e h =
        let first : c ≡ 13 = cc in
        let none : take n cs ≡ [] = cc in
        let others : cs ≡ 10 ∷ behind = split n cs ∙ ap (λ (t : List ℕ). t ++ drop n cs) none ∙ h in
        let clash : false ≡ true = sym goes_on ∙ ap (λ (x : ℕ). ends_line x cs) first ∙ ap (ends_line 13) others in
        cc
    apart (f ∷ fs) behind e h = line.apart fs behind (cc) h

line_of : (cs : List ℕ) → LineOf (line_len cs) cs
line_of [] = line_ends []
line_of (c ∷ cs) =
    elim (cases_Bool (ends_line c cs)) [
      | inl ends ↦ subst (λ (n : ℕ). LineOf n (c ∷ cs)) (sym (cond-true (ends_line c cs) _ _ ends)) (line_ends (c ∷ cs))
      | inr goes_on ↦
          subst (λ (n : ℕ). LineOf n (c ∷ cs)) (sym (cond-false (ends_line c cs) _ _ goes_on ∙ (let one : line_len cs + 1 ≡ suc (line_len cs) = omega arith in one)))
          (line_goes_on (line_len cs) c cs goes_on (line_of cs))
    ]

line_found : (cs : List ℕ) → Found (47 ∷ 47 ∷ cs) (piece.Comment, line_len cs + 2)
line_found cs =
    let line = line_of cs in
    record {
      spelling = 47 ∷ 47 ∷ take (line_len cs) cs;
      rest = drop (line_len cs) cs;
      joined = ap (λ (t : List ℕ). 47 ∷ 47 ∷ t) (split (line_len cs) cs);
      size = omega (arith, line.size);
      some = omega arith;
      form = inl (take (line_len cs) cs, refl, line.inside);
      stands = apart;
    }
  where
    apart : (front behind : List ℕ) → 47 ∷ 47 ∷ take (line_len cs) cs ≡ front ++ 13 ∷ [] → drop (line_len cs) cs ≡ 10 ∷ behind → ⊥
    apart [] behind e h = cc
    apart (a ∷ []) behind e h = let clash : ◌≡◌ {A = ℕ} 47 13 = cc in omega arith
    apart (a ∷ b ∷ front) behind e h = (line_of cs).apart front behind (cc) h

-- a comment that is closed behind so many characters
pub record Closed (cs : List ℕ) (n : ℕ) : Type 0 where
  pub inside : List ℕ
  pub rest : List ℕ
  pub joined : cs ≡ inside ++ 42 ∷ 47 ∷ rest
  pub size : length inside + 2 ≡ n
  pub not_before : (front behind : List ℕ) → inside ≡ front ++ 42 ∷ 47 ∷ behind → ⊥

nothing_in : (front behind : List ℕ) → [] ≡ front ++ 42 ∷ 47 ∷ behind → ⊥
nothing_in [] behind e = cc
nothing_in (f ∷ fs) behind e = cc

closed_here : (c n : ℕ) (cs : List ℕ) → (c == 42 && begins_with 47 cs) ≡ true → 2 ≡ n → Closed (c ∷ cs) n
closed_here c n cs both size =
    let parts = and_parts _ _ both in
    record {
      inside = [];
      rest = (begins_so 47 cs parts.1).0;
      joined = two_characters c 42 47 cs parts.0 parts.1;
      size = size;
      not_before = nothing_in;
    }

closed_later : (c m : ℕ) (cs : List ℕ) → (c == 42 && begins_with 47 cs) ≡ false → Closed cs m → Closed (c ∷ cs) (m + 1)
closed_later c m cs other later = record {
  inside = c ∷ later.inside;
  rest = later.rest;
  joined = ap (λ (t : List ℕ). c ∷ t) later.joined;
  size = omega (arith, later.size);
  not_before = not_before;
}
  where
    not_before : (front behind : List ℕ) → c ∷ later.inside ≡ front ++ 42 ∷ 47 ∷ behind → ⊥
    not_before [] behind e =
        let first : c ≡ 42 = cc in
        let others : later.inside ≡ 47 ∷ behind = cc in
        let text : cs ≡ 47 ∷ behind ++ 42 ∷ 47 ∷ later.rest = later.joined ∙ ap (λ (t : List ℕ). t ++ 42 ∷ 47 ∷ later.rest) others in
        let clash : false ≡ true = sym other ∙ ap (λ (x : ℕ). x == 42 && begins_with 47 cs) first ∙ ap (begins_with 47) text in
        cc
    not_before (f ∷ fs) behind e = later.not_before fs behind (cc)

closed : (cs : List ℕ) (n : ℕ) → through_close cs ≡ Some n → Closed cs n
closed [] n e = absurd (let clash : ◌≡◌ {A = Option ℕ} None (Some n) = e in cc)
closed (c ∷ cs) n e =
    elim (cases_Bool (c == 42 && begins_with 47 cs)) [
      | inl here ↦ closed_here c n cs here (let same : ◌≡◌ {A = Option ℕ} (Some 2) (Some n) = sym (cond-true (c == 42 && begins_with 47 cs) _ _ here) ∙ e in cc)
      | inr other ↦ go (through_close cs) (closed cs) (sym (cond-false (c == 42 && begins_with 47 cs) _ _ other) ∙ e) other
    ]
  where
    go : (o : Option ℕ) → ((m : ℕ) → o ≡ Some m → Closed cs m) → option_map (λ n. n + 1) o ≡ Some n → (c == 42 && begins_with 47 cs) ≡ false → Closed (c ∷ cs) n
    go None later h other = absurd (let clash : ◌≡◌ {A = Option ℕ} None (Some n) = h in cc)
    go (Some m) later h other =
        let same : m + 1 ≡ n = (let both : ◌≡◌ {A = Option ℕ} (Some (m + 1)) (Some n) = h in cc) in
        subst (λ (k : ℕ). Closed (c ∷ cs) k) same (closed_later c m cs other (later m refl))

block_found : (cs : List ℕ) (n : ℕ) → Closed cs n → Found (47 ∷ 42 ∷ cs) (piece.Comment, n + 2)
block_found cs n comment =
    let inside = comment.inside in
    record {
      spelling = 47 ∷ 42 ∷ inside ++ 42 ∷ 47 ∷ [];
      rest = comment.rest;
      joined = ap (λ (t : List ℕ). 47 ∷ 42 ∷ t) (comment.joined ∙ sym (append_assoc inside (42 ∷ 47 ∷ []) comment.rest));
      size = omega (arith, comment.size, length-append inside (42 ∷ 47 ∷ []));
      some = omega arith;
      form = inr (inside, refl, comment.not_before);
      stands = λ front behind e h. ends_in_slash front e;
    }
  where
    ends_in_slash : (front : List ℕ) → 47 ∷ 42 ∷ comment.inside ++ 42 ∷ 47 ∷ [] ≡ front ++ 13 ∷ [] → ⊥
    ends_in_slash front e =
        let clash : ◌≡◌ {A = ℕ} 47 13 = last_same (47 ∷ 42 ∷ comment.inside ++ 42 ∷ []) front 47 13 (ap (λ (t : List ℕ). 47 ∷ 42 ∷ t) (append_assoc comment.inside (42 ∷ []) (47 ∷ [])) ∙ e) in
        omega arith

slash_found : (cs : List ℕ) (p : Piece) → slash_at cs ≡ Some p → Found (47 ∷ cs) p
slash_found [] p e =
    found_so (47 ∷ []) p (piece.Lexeme (spells.Symbol Slash), 1) e (record {
      spelling = 47 ∷ [];
      rest = [];
      joined = refl;
      size = refl;
      some = omega arith;
      form = refl;
      stands = refl;
    })
slash_found (d ∷ ds) p e =
    elim (cases_Bool (d == 47)) [
      | inl line ↦
          found_at (47 ∷ d ∷ ds) (47 ∷ 47 ∷ ds) p (ap (λ (x : ℕ). 47 ∷ x ∷ ds) (sym (eqb-true d 47 line)))
          (found_so _ p (piece.Comment, line_len ds + 2) (sym (cond-true (d == 47) _ _ line) ∙ e) (line_found ds))
      | inr other ↦ elim (cases_Bool (d == 42)) [
        | inl block ↦
            found_at (47 ∷ d ∷ ds) (47 ∷ 42 ∷ ds) p (ap (λ (x : ℕ). 47 ∷ x ∷ ds) (sym (eqb-true d 42 block)))
            (block_at_found (through_close ds) refl (sym (cond-false (d == 47) _ _ other ∙ cond-true (d == 42) _ _ block) ∙ e))
        | inr neither_ ↦
            found_so (47 ∷ d ∷ ds) p (piece.Lexeme (spells.Symbol Slash), 1) (sym (cond-false (d == 47) _ _ other ∙ cond-false (d == 42) _ _ neither_) ∙ e) (record {
              spelling = 47 ∷ [];
              rest = d ∷ ds;
              joined = refl;
              size = refl;
              some = omega arith;
              form = refl;
              stands = no_front (d == 47) (d == 42) other neither_;
            })
      ]
    ]
  where
    no_front : (a b : Bool) → a ≡ false → b ≡ false → (true && (a || b)) ≡ false
    no_front a b ha hb = rw (ha, hb) refl

    block_at_found : (o : Option ℕ) → through_close ds ≡ o → option_map (λ n. (piece.Comment, n + 2)) o ≡ Some p → Found (47 ∷ 42 ∷ ds) p
    block_at_found None is h = absurd (let clash : ◌≡◌ {A = Option Piece} None (Some p) = h in cc)
    block_at_found (Some n) is h = found_so _ p (piece.Comment, n + 2) h (block_found ds n (closed ds n is))

-- ---- all pieces

one_so : (k c : ℕ) (cs : List ℕ) (p : Piece) → c ≡ k → Found (k ∷ cs) p → Found (c ∷ cs) p
one_so k c cs p is h = found_at (c ∷ cs) (k ∷ cs) p (ap (λ (x : ℕ). x ∷ cs) (sym is)) h

break_found : (cs : List ℕ) (p : Piece) → cond (begins_with 10 cs) (Some (piece.Break, 2)) None ≡ Some p → Found (13 ∷ cs) p
break_found cs p e =
    elim (cases_Bool (begins_with 10 cs)) [
      | inr other ↦ nothing_found (13 ∷ cs) p _ (cond-false (begins_with 10 cs) _ _ other) e
      | inl feed ↦
          found_so (13 ∷ cs) p (piece.Break, 2) (sym (cond-true (begins_with 10 cs) _ _ feed) ∙ e) (record {
            spelling = 13 ∷ 10 ∷ [];
            rest = (begins_so 10 cs feed).0;
            joined = ap (λ (t : List ℕ). 13 ∷ t) (begins_so 10 cs feed).1;
            size = refl;
            some = omega arith;
            form = inr refl;
            stands = tt;
          })
    ]

opened_found : (o : Opening) (c : ℕ) (cs : List ℕ) (p : Piece) → OpensBy o c → piece_behind o c cs ≡ Some p → Found (c ∷ cs) p
opened_found opens.Space c cs p is e =
    one_so 32 c cs p is (found_so (32 ∷ cs) p (piece.Space, 1) e
    (record { spelling = 32 ∷ []; rest = cs; joined = refl; size = refl; some = omega arith; form = refl; stands = tt }))
opened_found opens.Tab c cs p is e =
    one_so 9 c cs p is (found_so (9 ∷ cs) p (piece.Tab, 1) e
    (record { spelling = 9 ∷ []; rest = cs; joined = refl; size = refl; some = omega arith; form = refl; stands = tt }))
opened_found opens.LineFeed c cs p is e =
    one_so 10 c cs p is (found_so (10 ∷ cs) p (piece.Break, 1) e
    (record { spelling = 10 ∷ []; rest = cs; joined = refl; size = refl; some = omega arith; form = inl refl; stands = tt }))
opened_found opens.CarriageReturn c cs p is e = one_so 13 c cs p is (break_found cs p e)
opened_found opens.Slash c cs p is e = one_so 47 c cs p is (slash_found cs p e)
opened_found opens.Quote c cs p is e = one_so 34 c cs p is (quoted_found cs p e)
opened_found opens.Apostrophe c cs p is e = one_so 39 c cs p is (text_found cs p e)
opened_found opens.Point c cs p is e = one_so 46 c cs p is (found_so (46 ∷ cs) p (point_at cs) e (point_found cs))
opened_found opens.Digit c cs p is e = found_so (c ∷ cs) p (number_at cs) e (digit_found c cs is)
opened_found opens.Letter c cs p is e = found_so (c ∷ cs) p (identifier_at cs) e (identifier_found c cs is)
opened_found opens.Sign c cs p is e = sign_found c cs p is (symbol_at c cs) (any_found c cs (plain_symbol c) (plain_found c cs)) e

pub found : (text : List ℕ) (p : Piece) → piece_at text ≡ Some p → Found text p
found [] p e = absurd (let clash : ◌≡◌ {A = Option Piece} None (Some p) = e in cc)
found (c ∷ cs) p e = opened_found (opening_of c) c cs p (opens_by c) e

-- the piece is spelled by so many characters in front
pub taken : (text : List ℕ) (p : Piece) (h : Found text p) → take p.1 text ≡ h.spelling
taken text p h = ap (λ (n : ℕ). take n text) (sym h.size) ∙ ap (take (length h.spelling)) h.joined ∙ take-append_seam h.spelling h.rest
