-- The bytes of ASCII in front of a text are characters.
use Rattle.std.proofs.Common.{◌≡◌, ℕ, zero, suc, ◌+◌, ◌<◌, ◌≤◌, Bool, true, false, ◌&&◌, List, [], ◌∷◌, ◌++◌, length, take, drop, get_or, ◌==◌, ◌||◌, refl, sym, ap, ◌∙◌, subst, inl, inr, arith}
use Rattle.std.specs.Prelude.{IsUtf8, chars, encode_utf8, nat_lt}
use Rattle.std.specs.Char.{is_ascii_alphanumeric}
use Rattle.std.specs.List.{prefix_len}
use Rattle.std.specs.Str.{IsAscii, IsCharBoundary}
use Rattle.std.proofs.Math.Seq.{take-append_seam, drop-append_seam}
use Rattle.std.proofs.lemmas.Bool.{cases_Bool, cond-true, cond-false, and_parts, ltb-true, lt-ltb}
use Rattle.std.proofs.lemmas.List.{take-append-drop, length-take, get_or-take}
use Rattle.std.proofs.lemmas.Str.{chars-nil, chars-append, chars-IsAscii, chars_past_char, encode_ascii, IsUtf8-from_ascii, IsUtf8-past_char, IsUtf8-drop, IsCharBoundary-start, IsCharBoundary-after_ascii}
use Rattle.unicode_ident.proofs.IdentLemmas.{is_xid_continue-ascii}
use Rattle.uvl_base.specs.Identifier.{continues_identifier}
use Rattle.uvl_lexer.specs.steps.Bytes.{is_identifier_sign}

-- a text may be cut behind bytes of ASCII
ascii_boundary : (text : List ℕ) (n : ℕ) → IsUtf8 text → n ≤ length text → IsAscii (take n text) → IsCharBoundary text n
ascii_boundary text zero utf8 within ascii = IsCharBoundary-start text utf8
ascii_boundary text (suc m) utf8 within ascii =
    let below : get_or text m 0 < 128 = subst (λ (b : ℕ). b < 128) (get_or-take (suc m) text m 0 (omega arith)) (ascii m) in
    subst (λ (k : ℕ). IsCharBoundary text k) (let e : m + 1 ≡ suc m = omega arith in e) (IsCharBoundary-after_ascii text m utf8 (omega arith) below)

-- so many characters in front are so many bytes
pub record AsciiFront (text : List ℕ) (n : ℕ) : Type 0 where
  pub boundary : IsCharBoundary text n
  pub utf8 : IsUtf8 (drop n text)
  pub front : chars (take n text) ≡ take n (chars text)
  pub rest : chars (drop n text) ≡ drop n (chars text)

pub ascii_front : (text : List ℕ) (n : ℕ) → IsUtf8 text → n ≤ length text → IsAscii (take n text) → AsciiFront text n
ascii_front text n utf8 within ascii =
    let boundary = ascii_boundary text n utf8 within ascii in
    let front : chars (take n text) ≡ take n text = chars-IsAscii (take n text) ascii in
    let size : length (take n text) ≡ n = omega (arith, length-take n text) in
    let joined : chars text ≡ take n text ++ chars (drop n text) =
    ap chars (sym (take-append-drop n text)) ∙ chars-append (take n text) (drop n text) (IsUtf8-from_ascii (take n text) ascii) ∙ ap (λ (t : List ℕ). t ++ chars (drop n text)) front in
    record {
      boundary = boundary;
      utf8 = IsUtf8-drop text n utf8 boundary;
      front = front ∙ sym (ap (take n) joined ∙ ap (λ (k : ℕ). take k (take n text ++ chars (drop n text))) (sym size) ∙ take-append_seam (take n text) (chars (drop n text)));
      rest = sym (ap (drop n) joined ∙ ap (λ (k : ℕ). drop k (take n text ++ chars (drop n text))) (sym size) ∙ drop-append_seam (take n text) (chars (drop n text)));
    }

-- a text that begins with a byte of ASCII begins with that character
pub record FirstAscii (b : ℕ) (bs : List ℕ) : Type 0 where
  pub utf8 : IsUtf8 bs
  pub characters : chars (b ∷ bs) ≡ b ∷ chars bs

first_ascii : (b : ℕ) (bs : List ℕ) → IsUtf8 (b ∷ bs) → b < 128 → FirstAscii b bs
first_ascii b bs utf8 below =
    let spelled : b ∷ bs ≡ encode_utf8 b ++ bs = ap (λ (t : List ℕ). t ++ bs) (sym (encode_ascii b below)) in
    record { utf8 = IsUtf8-past_char (b ∷ bs) bs b utf8 spelled; characters = chars_past_char (b ∷ bs) bs b utf8 spelled }

-- where the bytes that pass a test stop at a byte of ASCII, they are the characters that pass it
pub ascii_count : (p : ℕ → Bool) (text : List ℕ) (n : ℕ) → IsUtf8 text → n ≡ prefix_len (λ b. nat_lt b 128 && p b) text → (n < length text → get_or text n 0 < 128) → n ≡ prefix_len p (chars text)
ascii_count p [] n utf8 is stops = is ∙ sym (ap (prefix_len p) chars-nil)
ascii_count p (b ∷ bs) n utf8 is stops =
    elim (cases_Bool (nat_lt b 128 && p b)) [
      | inl passes ↦ goes_on passes (ascii_count p bs)
      | inr fails ↦ ends fails
    ]
  where
    goes_on : (nat_lt b 128 && p b) ≡ true
        → ((m : ℕ) → IsUtf8 bs → m ≡ prefix_len (λ b. nat_lt b 128 && p b) bs → (m < length bs → get_or bs m 0 < 128) → m ≡ prefix_len p (chars bs)) → n ≡ prefix_len p (chars (b ∷ bs))
    goes_on passes later =
        let parts = and_parts (nat_lt b 128) (p b) passes in
        let first = first_ascii b bs utf8 (ltb-true b 128 parts.0) in
        let m = prefix_len (λ b. nat_lt b 128 && p b) bs in
        let size : n ≡ suc m = is ∙ cond-true (nat_lt b 128 && p b) _ _ passes ∙ (let e : 1 + m ≡ suc m = omega arith in e) in
        let there : suc m < length (b ∷ bs) → get_or (b ∷ bs) (suc m) 0 < 128 = subst (λ (k : ℕ). k < length (b ∷ bs) → get_or (b ∷ bs) k 0 < 128) size stops in
        let so_far : m ≡ prefix_len p (chars bs) = later m first.utf8 refl (λ h. there (omega arith)) in
        size ∙ (let e : suc m ≡ 1 + m = omega arith in e) ∙ ap (λ (k : ℕ). 1 + k) so_far ∙ sym (ap (prefix_len p) first.characters ∙ cond-true (p b) _ _ parts.1)

    ends : (nat_lt b 128 && p b) ≡ false → n ≡ prefix_len p (chars (b ∷ bs))
    ends fails =
        let none : n ≡ 0 = is ∙ cond-false (nat_lt b 128 && p b) _ _ fails in
        let below : b < 128 = subst (λ (k : ℕ). k < length (b ∷ bs) → get_or (b ∷ bs) k 0 < 128) none stops (omega arith) in
        let other : p b ≡ false = sym (ap (λ (x : Bool). x && p b) (lt-ltb b 128 below)) ∙ fails in
        none ∙ sym (ap (prefix_len p) (first_ascii b bs utf8 below).characters ∙ cond-false (p b) _ _ other)

-- the characters of ASCII that go on an identifier
pub continues_is : (b : ℕ) → b < 128 → continues_identifier b ≡ (is_ascii_alphanumeric b || is_identifier_sign b)
continues_is b below = ap (λ (x : Bool). x || (b == 35 || b == 37 || b == 63)) (is_xid_continue-ascii b below) ∙ regrouped (is_ascii_alphanumeric b) (b == 95) (b == 35) (b == 37) (b == 63)
  where
    regrouped : (a d e f g : Bool) → ((a || d) || (e || f || g)) ≡ (a || (d || e || f || g))
    regrouped true d e f g = refl
    regrouped false true e f g = refl
    regrouped false false true f g = refl
    regrouped false false false f g = refl
