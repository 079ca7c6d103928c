-- What the bytes of a text say of its characters.
use Rattle.std.proofs.Common.{◌≡◌, ℕ, ◌<◌, ◌≤◌, Bool, true, List, [], ◌∷◌, ◌++◌, length, length-append, get_or, take, drop, refl, sym, ap, ◌∙◌, inl, inr, subst, arith}
use Rattle.std.specs.Prelude.{IsUtf8, chars, encode_utf8, encode_utf8_all}
use Rattle.std.specs.List.{list_all}
use Rattle.std.proofs.lemmas.Bool.{cases_lt, and_parts, and_from}
use Rattle.std.proofs.lemmas.List.Folds.{list_all-append}
use Rattle.std.proofs.lemmas.Str.{encodes-chars, chars_past_char, encode_ascii, byte_from_char, IsCharBoundary-before_ascii, IsUtf8-take, IsUtf8-drop}
use Rattle.std.proofs.lemmas.Grind.{common_steps}
use Rattle.std.specs.Str.{IsCharBoundary}

all_from_encodes : (p : ℕ → Bool) → ((c : ℕ) → 128 ≤ c → p c ≡ true) → (cs : List ℕ) → list_all p (encode_utf8_all cs) ≡ true → list_all p cs ≡ true
all_from_encodes p wide [] all = refl
all_from_encodes p wide (c ∷ cs) all =
    let parts = and_parts (list_all p (encode_utf8 c)) (list_all p (encode_utf8_all cs)) (sym (list_all-append p (encode_utf8 c) (encode_utf8_all cs)) ∙ all) in
    and_from (p c) (list_all p cs) (elim (cases_lt c 128) [
      | inl small ↦ (and_parts (p c) true (sym (ap (λ bs. list_all p bs) (encode_ascii c small)) ∙ parts.0)).0
      | inr large ↦ wide c large
    ]) (all_from_encodes p wide cs parts.1)

-- what holds of each byte of a text holds of each character, where it holds of all that aren't ASCII
pub all_chars : (p : ℕ → Bool) → ((c : ℕ) → 128 ≤ c → p c ≡ true) → (bs : List ℕ) → IsUtf8 bs → list_all p bs ≡ true → list_all p (chars bs) ≡ true
all_chars p wide bs text all = all_from_encodes p wide (chars bs) (ap (λ xs. list_all p xs) (encodes-chars bs text) ∙ all)

-- a text that begins with an ASCII byte begins with that character
pub chars-ascii : (b : ℕ) (bs : List ℕ) → IsUtf8 (b ∷ bs) → b < 128 → chars (b ∷ bs) ≡ b ∷ chars bs
chars-ascii b bs text small = chars_past_char (b ∷ bs) bs b text (ap (λ front. front ++ bs) (sym (encode_ascii b small)))

-- a text without bytes is one without characters
pub chars-none : (bs : List ℕ) → IsUtf8 bs → chars bs ≡ [] → bs ≡ []
chars-none bs text none = sym (encodes-chars bs text) ∙ ap (λ cs. encode_utf8_all cs) none

-- the first character of a text that doesn't begin with an ASCII byte
pub record WideFirst (bs : List ℕ) : Type 0 where
  pub first : ℕ
  pub rest : List ℕ
  pub is : chars bs ≡ first ∷ rest
  pub wide : 128 ≤ first

-- a text that begins with another byte begins with another character
pub chars-wide : (b : ℕ) (bs : List ℕ) → IsUtf8 (b ∷ bs) → 128 ≤ b → WideFirst (b ∷ bs)
chars-wide b bs text large = by_chars (chars (b ∷ bs)) refl
  where
    by_chars : (cs : List ℕ) → chars (b ∷ bs) ≡ cs → WideFirst (b ∷ bs)
    by_chars [] e = let none : b ∷ bs ≡ [] = chars-none (b ∷ bs) text e in cc
    by_chars (c ∷ cs) e =
        let spelled : encode_utf8 c ++ encode_utf8_all cs ≡ b ∷ bs = ap (λ xs. encode_utf8_all xs) (sym e) ∙ encodes-chars (b ∷ bs) text in
        elim (cases_lt c 128) [
          | inl small ↦
              let first : get_or (b ∷ bs) 0 0 ≡ c = byte_from_char (b ∷ bs) (encode_utf8_all cs) c (sym spelled) small in
              absurd (omega arith)
          | inr wide ↦ record { first = c; rest = cs; is = e; wide = wide }
        ]

-- a text cut in front of an ASCII byte is two texts
pub cut_at_ascii : (bs front rest : List ℕ) (b : ℕ) → IsUtf8 bs → bs ≡ front ++ b ∷ rest → b < 128 → IsUtf8 front × IsUtf8 (b ∷ rest)
cut_at_ascii bs front rest b text spelled small =
    let boundary : IsCharBoundary bs (length front) = IsCharBoundary-before_ascii bs (length front) within (subst (λ (n : ℕ). n < 128) (sym byte) small) in
    (subst IsUtf8 before (IsUtf8-take bs (length front) text boundary), subst IsUtf8 after (IsUtf8-drop bs (length front) text boundary))
  where
    within : length front < length bs
    within = omega (arith, ap (λ xs. length xs) spelled, length-append front (b ∷ rest))

    byte : get_or bs (length front) 0 ≡ b
    byte = ap (λ xs. get_or xs (length front) 0) spelled ∙ grind (arith, common_steps)

    before : take (length front) bs ≡ front
    before = ap (λ xs. take (length front) xs) spelled ∙ grind (arith, common_steps)

    after : drop (length front) bs ≡ b ∷ rest
    after = ap (λ xs. drop (length front) xs) spelled ∙ grind (arith, common_steps)
