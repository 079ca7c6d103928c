-- Going through tokens: what is in front behind each of them, and the part of a section there.
use Rattle.std.specs.Prelude.{◌≡◌, ℕ, ◌+◌, ◌-◌, ◌≤◌, Bool, true, false, nat_lt, cond, List, [], ◌∷◌, ◌++◌, reverse}
use Rattle.std.proofs.Common.{refl, sym, ap, subst, ◌∙◌, append_assoc, arith}
use Rattle.std.proofs.lemmas.Bool.{le-ltb}
use Rattle.std.proofs.lemmas.List.{reverse-append}
use Rattle.uvl_lexer.specs.declared.token.Token.{Token}
use Rattle.uvl_lexer.specs.declared.token.TokenKind.{TokenKind}
use Rattle.uvl_lexer.specs.declared.token.TokenKind.TheVariants as token
use Rattle.uvl_lexer.specs.declared.token.Symbol.TheVariants as symbol
use Rattle.uvl_profile.specs.declared.section.Section.{Section}
use Rattle.uvl_profile.specs.declared.section.SectionPart.TheVariants.{Outside, Body}
use Rattle.uvl_grammar.specs.steps.Tests.{Test, is_newline, is_indent, is_dedent}
use Rattle.uvl_grammar.specs.Tokens.{IsSymbol, IsNewline, IsIndent, IsDedent}
use Rattle.uvl_grammar.specs.Shapes.{Spelling, Repeated, None_more, One_more, OneOrMore, First, BehindComma, Comma, Separated, Nothing, Parts}
use Rattle.uvl_profile.specs.Lines.{is_layout, begins_line}
use Rattle.uvl_profile.specs.Sections.{part_behind, part_of}

-- the tokens in front, the nearest first, behind more of them
abbrev pub walk : List Token → List Token → List Token
walk before [] = before
walk before (t ∷ ts) = walk (t ∷ before) ts

pub walk_append : (before xs ys : List Token) → walk before (xs ++ ys) ≡ walk (walk before xs) ys
walk_append before [] ys = refl
walk_append before (x ∷ xs) ys = walk_append (x ∷ before) xs ys

pub walk_reverse : (before ts : List Token) → walk before ts ≡ reverse ts ++ before
walk_reverse before [] = refl
walk_reverse before (t ∷ ts) =
    walk_reverse (t ∷ before) ts ∙ sym (append_assoc (reverse ts) (t ∷ []) before) ∙ ap (λ z. z ++ before) (sym (reverse-append (t ∷ []) ts))

-- something fails at each token, given what is in front of it
abbrev pub Clear : (List Token → Token → Bool) → List Token → List Token → Type 0
Clear met before [] = Unit {0}
Clear met before (t ∷ ts) = (met before t ≡ false) × Clear met (t ∷ before) ts

pub clear_front : (met : List Token → Token → Bool) (before xs ys : List Token) → Clear met before (xs ++ ys) → Clear met before xs
clear_front met before [] ys clear = tt
clear_front met before (x ∷ xs) ys clear = (clear.0, clear_front met (x ∷ before) xs ys clear.1)

pub clear_back : (met : List Token → Token → Bool) (before xs ys : List Token) → Clear met before (xs ++ ys) → Clear met (walk before xs) ys
clear_back met before [] ys clear = clear
clear_back met before (x ∷ xs) ys clear = clear_back met (x ∷ before) xs ys clear.1

-- no token passes a test
abbrev pub NonePasses : Test → List Token → Type 0
NonePasses test [] = Unit {0}
NonePasses test (t ∷ ts) = (test t.kind ≡ false) × NonePasses test ts

-- no token is a mark between lines
abbrev pub InLine : List Token → Type 0
InLine xs = NonePasses is_layout xs

-- ---- the part of a section behind tokens

newline_no_indent : (kind : TokenKind) → is_newline kind ≡ true → is_indent kind ≡ false
newline_no_indent token.Newline e = refl
newline_no_indent token.Indent e = cc
newline_no_indent _ e = refl

plain_no_newline : (kind : TokenKind) → is_layout kind ≡ false → is_newline kind ≡ false
plain_no_newline token.Newline e = cc
plain_no_newline _ e = refl

plain_no_indent : (kind : TokenKind) → is_layout kind ≡ false → is_indent kind ≡ false
plain_no_indent token.Indent e = cc
plain_no_indent _ e = refl

plain_no_dedent : (kind : TokenKind) → is_layout kind ≡ false → is_dedent kind ≡ false
plain_no_dedent token.Dedent e = cc
plain_no_dedent _ e = refl

module _ (s : Section) (n : ℕ) (first : Bool) where
  stays_in_body : (kind : TokenKind) → is_indent kind ≡ false → is_dedent kind ≡ false → part_behind (Body s n) first kind ≡ Body s n
  stays_in_body kind i d =
      ap (λ b. cond b (Body s (n + 1)) (cond (is_dedent kind) (cond (nat_lt n 2) Outside (Body s (n - 1))) (Body s n))) i
      ∙ ap (λ b. cond b (cond (nat_lt n 2) Outside (Body s (n - 1))) (Body s n)) d

-- in a line of a body
pub in_line_of_body : (s : Section) (n : ℕ) (before xs : List Token) → part_of before ≡ Body s n → InLine xs → part_of (walk before xs) ≡ Body s n
in_line_of_body s n before [] part inline = part
in_line_of_body s n before (t ∷ ts) part inline =
    in_line_of_body s n (t ∷ before) ts
    (ap (λ p. part_behind p (begins_line before) t.kind) part
    ∙ stays_in_body s n (begins_line before) t.kind (plain_no_indent t.kind inline.0) (plain_no_dedent t.kind inline.0)) inline.1

-- A line of a body begins.
pub record LineBegins (s : Section) (n : ℕ) (before : List Token) : Type 0 where
  pub part : part_of before ≡ Body s n
  pub begins : begins_line before ≡ true

-- the next line begins behind Newline
pub next_line : (s : Section) (n : ℕ) (before : List Token) (t : Token) → part_of before ≡ Body s n → IsNewline t → LineBegins s n (t ∷ before)
next_line s n before t part is = record {
  part = ap (λ p. part_behind p (begins_line before) t.kind) part ∙ stays_in_body s n (begins_line before) t.kind (ap is_indent is) (ap is_dedent is);
  begins = ap is_layout is;
}

-- an indentation is opened
pub deeper_line : (s : Section) (n : ℕ) (before : List Token) (t : Token) → part_of before ≡ Body s n → IsIndent t → LineBegins s (n + 1) (t ∷ before)
deeper_line s n before t part is = record {
  part = ap (λ p. part_behind p (begins_line before) t.kind) part ∙ ap (λ kind. part_behind (Body s n) (begins_line before) kind) is;
  begins = ap is_layout is;
}

-- and closed
pub outer_line : (s : Section) (n m : ℕ) (before : List Token) (t : Token) → n ≡ m + 1 → 1 ≤ m → part_of before ≡ Body s n → IsDedent t
    → LineBegins s m (t ∷ before)
outer_line s n m before t more some part is =
    let here : n - 1 ≡ m = omega arith in
    record {
      part = ap (λ p. part_behind p (begins_line before) t.kind) part
          ∙ ap (λ kind. part_behind (Body s n) (begins_line before) kind) is
          ∙ ap (λ b. cond b Outside (Body s (n - 1))) (le-ltb n 2 (omega arith))
          ∙ ap (λ k. Body s k) here;
      begins = ap is_layout is;
    }

-- ---- repeated parts

-- A part goes over into another, where what is in front of it is of some sort, and so is what is then in front.
abbrev pub Passes : {A : Type 0} → (List Token → Token → Bool) → (List Token → Type 0) → Spelling A → Spelling A → Type 0
Passes {A} met At R S = (before xs : List Token) (a : A) → At before → Clear met before xs → R xs a → S xs a × At (walk before xs)

module _ {A : Type 0} (met : List Token → Token → Bool) (At : List Token → Type 0) (R S : Spelling A) (step : Passes met At R S) where
  pub repeated_passes : Passes met At (Repeated R) (Repeated S)
  repeated_passes before ts items here clear None_more = (None_more, here)
  repeated_passes before ts items here clear (One_more {xs} {ys} {a} {items = rest} r rs) =
      let one = step before xs a here (clear_front met before xs ys clear) r in
      let more = repeated_passes (walk before xs) ys rest one.1 (clear_back met before xs ys clear) rs in
      (One_more one.0 more.0, subst At (sym (walk_append before xs ys)) more.1)

  pub one_or_more_passes : Passes met At (OneOrMore R) (OneOrMore S)
  one_or_more_passes before ts items here clear (First {xs} {ys} {a} {items = rest} r rs) =
      let one = step before xs a here (clear_front met before xs ys clear) r in
      let more = repeated_passes (walk before xs) ys rest one.1 (clear_back met before xs ys clear) rs in
      (First one.0 more.0, subst At (sym (walk_append before xs ys)) more.1)

-- parts with commas between them
module _ {A : Type 0} (met : List Token → Token → Bool) (At : List Token → Type 0) (R S : Spelling A) (step : Passes met At R S)
    (comma_step : (before : List Token) (comma : Token) → At before → IsSymbol symbol.Comma comma → At (comma ∷ before)) where
  behind_comma_passes : Passes met At (BehindComma R) (BehindComma S)
  behind_comma_passes before ts a here clear (Comma comma {xs} is r) =
      let one = step (comma ∷ before) xs a (comma_step before comma here is) clear.1 r in
      (Comma comma is one.0, one.1)

  pub separated_passes : Passes met At (Separated R) (Separated S)
  separated_passes before ts items here clear Nothing = (Nothing, here)
  separated_passes before ts items here clear (Parts {xs} {ys} {a} {items = rest} r rs) =
      let one = step before xs a here (clear_front met before xs ys clear) r in
      let more = repeated_passes met At (BehindComma R) (BehindComma S) behind_comma_passes (walk before xs) ys rest one.1 (clear_back met before xs ys clear) rs in
      (Parts one.0 more.0, subst At (sym (walk_append before xs ys)) more.1)

pub none_append : (test : Test) (xs ys : List Token) → NonePasses test xs → NonePasses test ys → NonePasses test (xs ++ ys)
none_append test [] ys x y = y
none_append test (t ∷ xs) ys x y = (x.0, none_append test xs ys x.1 y)

pub in_line_append : (xs ys : List Token) → InLine xs → InLine ys → InLine (xs ++ ys)
in_line_append = none_append is_layout
