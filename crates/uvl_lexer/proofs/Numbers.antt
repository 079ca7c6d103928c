-- The spelling of a number is one.
use Rattle.std.proofs.Common.{◌≡◌, ℕ, suc, ◌+◌, ◌<◌, ◌≤◌, ◌==◌, Bool, true, false, not, ◌&&◌, ◌||◌, List, [], ◌∷◌, ◌++◌, length, take, drop, refl, sym, ap, ◌∙◌, subst, inl, inr, arith}
use Rattle.std.specs.Prelude.{encode_utf8_all}
use Rattle.std.specs.List.{list_all, list_any, position_or_len}
use Rattle.std.specs.Char.{is_ascii_digit}
use Rattle.std.specs.Str.{IsAscii}
use Rattle.std.proofs.lemmas.Bool.{cond-true, cond-false}
use Rattle.std.proofs.lemmas.Bool.Decides.{nat_tests}
use Rattle.std.proofs.lemmas.List.{append-nil}
use Rattle.std.proofs.lemmas.Str.{encodes-IsAscii, IsAscii-append}
use Rattle.std.proofs.lemmas.Str.Ascii.{IsAscii-cons, IsAscii-nil}
use Rattle.std.proofs.Math.Seq.{take-append_seam}
use Rattle.uvl_base.specs.Number.{is_number, is_unsigned_number, is_negative, is_point, unsigned, whole_digits, decimals}
use Rattle.uvl_lexer.specs.Forms.{IsDigits, IsNumber}

both : (a b : Bool) → a ≡ true → b ≡ true → (a && b) ≡ true
both true b ha hb = hb
both false b ha hb = ha

first_of : (a b : Bool) → (a && b) ≡ true → a ≡ true
first_of true b h = refl
first_of false b h = h

second_of : (a b : Bool) → (a && b) ≡ true → b ≡ true
second_of true b h = h
second_of false b h = cc

no_sign : (c : ℕ) → is_ascii_digit c ≡ true → (c == 45) ≡ false
no_sign c h = grind (arith, nat_tests)

no_point : (c : ℕ) → is_ascii_digit c ≡ true → (c == 46) ≡ false
no_point c h = grind (arith, nat_tests)

is_ascii : (c : ℕ) → is_ascii_digit c ≡ true → c < 128
is_ascii c h = grind (arith, nat_tests)

all_ascii : (ds : List ℕ) → list_all is_ascii_digit ds ≡ true → IsAscii ds
all_ascii [] h = IsAscii-nil
all_ascii (d ∷ ds) h = IsAscii-cons d ds (is_ascii d (first_of _ _ h)) (all_ascii ds (second_of _ _ h))

-- the point stands behind the digits in front of it
point_behind : (w r : List ℕ) → list_all is_ascii_digit w ≡ true → position_or_len is_point (w ++ r) ≡ length w + position_or_len is_point r
point_behind [] r h = omega arith
point_behind (c ∷ w) r h =
    let not_here : (not (c == 46)) ≡ true = ap not (no_point c (first_of _ _ h)) in
    cond-true (not (c == 46)) _ _ not_here ∙ ap (λ (n : ℕ). 1 + n) (point_behind w r (second_of _ _ h)) ∙ omega arith

has_point : (w ds : List ℕ) → list_any is_point (w ++ 46 ∷ ds) ≡ true
has_point [] ds = refl
has_point (c ∷ w) ds = or_true (c == 46) _ (has_point w ds)
  where
    or_true : (a b : Bool) → b ≡ true → (a || b) ≡ true
    or_true true b h = refl
    or_true false b h = h

has_no_point : (w : List ℕ) → list_all is_ascii_digit w ≡ true → list_any is_point w ≡ false
has_no_point [] h = refl
has_no_point (c ∷ w) h = neither (c == 46) _ (no_point c (first_of _ _ h)) (has_no_point w (second_of _ _ h))
  where
    neither : (a b : Bool) → a ≡ false → b ≡ false → (a || b) ≡ false
    neither a b ha hb = rw (ha, hb) refl

unsigned_is : (c : ℕ) (r : List ℕ) → (c == 45) ≡ false → unsigned (c ∷ r) ≡ c ∷ r
unsigned_is c r h = cond-false (c == 45) _ _ h

drop_past : (w r : List ℕ) (x : ℕ) → drop (length w + 1) (w ++ x ∷ r) ≡ r
drop_past [] r x = refl
drop_past (c ∷ w) r x = ap (λ (n : ℕ). drop n (c ∷ (w ++ x ∷ r))) (let e : length (c ∷ w) + 1 ≡ suc (length w + 1) = omega arith in e) ∙ drop_past w r x

drop_whole : (w : List ℕ) → drop (length w + 1) w ≡ []
drop_whole [] = refl
drop_whole (c ∷ w) = ap (λ (n : ℕ). drop n (c ∷ w)) (let e : length (c ∷ w) + 1 ≡ suc (length w + 1) = omega arith in e) ∙ drop_whole w

-- digits alone are a number, where there are some
whole_number : (w : List ℕ) → list_all is_ascii_digit w ≡ true → (length w == 0) ≡ false → unsigned w ≡ w → is_number w ≡ true
whole_number w h some plain =
    let at : position_or_len is_point w ≡ length w = ap (position_or_len is_point) (sym (append-nil w)) ∙ point_behind w [] h ∙ omega arith in
    let front : whole_digits w ≡ w = ap (λ (u : List ℕ). take (position_or_len is_point u) u) plain ∙ ap (λ (n : ℕ). take n w) at
    ∙ ap (λ (u : List ℕ). take (length w) u) (sym (append-nil w)) ∙ take-append_seam w [] in
    let behind : decimals w ≡ [] = ap (λ (u : List ℕ). drop (position_or_len is_point u + 1) u) plain ∙ ap (λ (n : ℕ). drop (n + 1) w) at ∙ drop_whole w in
    let none : list_any is_point (unsigned w) ≡ false = ap (list_any is_point) plain ∙ has_no_point w h in
    ap (λ (b : Bool). is_unsigned_number b (whole_digits w) (decimals w)) none
    ∙ ap (λ (u : List ℕ). is_unsigned_number false u (decimals w)) front
    ∙ ap (λ (u : List ℕ). is_unsigned_number false w u) behind
    ∙ both _ _ (both _ _ h refl) (ap not some)

-- digits that may be missing, a point and digits are a number
point_number : (w ds : List ℕ) → list_all is_ascii_digit w ≡ true → list_all is_ascii_digit ds ≡ true → (length ds == 0) ≡ false → unsigned (w ++ 46 ∷ ds) ≡ w ++ 46 ∷ ds → is_number (w ++ 46 ∷ ds) ≡ true
point_number w ds hw hd some plain =
    let t = w ++ 46 ∷ ds in
    let at : position_or_len is_point t ≡ length w = point_behind w (46 ∷ ds) hw ∙ omega arith in
    let front : whole_digits t ≡ w = ap (λ (u : List ℕ). take (position_or_len is_point u) u) plain ∙ ap (λ (n : ℕ). take n t) at ∙ take-append_seam w (46 ∷ ds) in
    let behind : decimals t ≡ ds = ap (λ (u : List ℕ). drop (position_or_len is_point u + 1) u) plain ∙ ap (λ (n : ℕ). drop (n + 1) t) at ∙ drop_past w ds 46 in
    let there : list_any is_point (unsigned t) ≡ true = ap (list_any is_point) plain ∙ has_point w ds in
    ap (λ (b : Bool). is_unsigned_number b (whole_digits t) (decimals t)) there
    ∙ ap (λ (u : List ℕ). is_unsigned_number true u (decimals t)) front
    ∙ ap (λ (u : List ℕ). is_unsigned_number true w u) behind
    ∙ both _ _ (both _ _ hw hd) (ap not some)

some_there : (x : ℕ) (xs : List ℕ) → (length (x ∷ xs) == 0) ≡ false
some_there x xs = grind (arith, nat_tests)

digits_there : (ds : List ℕ) → 1 ≤ length ds → (length ds == 0) ≡ false
digits_there [] some = absurd (omega arith)
digits_there (d ∷ ds) some = some_there d ds

digits-is_number : (cs : List ℕ) → IsDigits cs → is_number cs ≡ true
digits-is_number [] is = absurd (omega (arith, is.0))
digits-is_number (c ∷ cs) is = whole_number (c ∷ cs) is.1 (some_there c cs) (unsigned_is c cs (no_sign c (first_of _ _ is.1)))

decimal-is_number : (whole ds : List ℕ) → list_all is_ascii_digit whole ≡ true → IsDigits ds → is_number (whole ++ 46 ∷ ds) ≡ true
decimal-is_number [] ds all is = point_number [] ds refl is.1 (digits_there ds is.0) refl
decimal-is_number (c ∷ w) ds all is = point_number (c ∷ w) ds all is.1 (digits_there ds is.0) (unsigned_is c (w ++ 46 ∷ ds) (no_sign c (first_of _ _ all)))

-- the bytes of a number are its characters, and write it
pub number-is_number : (cs : List ℕ) → IsNumber cs → is_number (encode_utf8_all cs) ≡ true
number-is_number cs (inl digits) = ap is_number (encodes-IsAscii cs (all_ascii cs digits.1)) ∙ digits-is_number cs digits
number-is_number cs (inr (whole, decimals, is, all, some)) =
    let ascii : IsAscii (whole ++ 46 ∷ decimals) = IsAscii-append whole (46 ∷ decimals) (all_ascii whole all) (IsAscii-cons 46 decimals (omega arith) (all_ascii decimals some.1)) in
    subst (λ (t : List ℕ). is_number (encode_utf8_all t) ≡ true) (sym is) (ap is_number (encodes-IsAscii _ ascii) ∙ decimal-is_number whole decimals all some)

-- the bytes of a number with a point are its characters
decimal_bytes : (whole ds : List ℕ) → list_all is_ascii_digit whole ≡ true → IsDigits ds → encode_utf8_all (whole ++ 46 ∷ ds) ≡ whole ++ 46 ∷ ds
decimal_bytes whole ds all is =
    encodes-IsAscii _ (IsAscii-append whole (46 ∷ ds) (all_ascii whole all) (IsAscii-cons 46 ds (omega arith) (all_ascii ds is.1)))

digits-unsigned : (cs : List ℕ) → list_all is_ascii_digit cs ≡ true → is_negative cs ≡ false
digits-unsigned [] all = refl
digits-unsigned (c ∷ cs) all = no_sign c (first_of _ _ all)

decimal-unsigned : (whole ds : List ℕ) → list_all is_ascii_digit whole ≡ true → is_negative (whole ++ 46 ∷ ds) ≡ false
decimal-unsigned [] ds all = refl
decimal-unsigned (c ∷ w) ds all = no_sign c (first_of _ _ all)

-- a number has no sign
pub number-unsigned : (cs : List ℕ) → IsNumber cs → is_negative (encode_utf8_all cs) ≡ false
number-unsigned cs (inl digits) = ap is_negative (encodes-IsAscii cs (all_ascii cs digits.1)) ∙ digits-unsigned cs digits.1
number-unsigned cs (inr (whole, ds, is, all, some)) =
    subst (λ (t : List ℕ). is_negative (encode_utf8_all t) ≡ false) (sym is) (ap is_negative (decimal_bytes whole ds all some) ∙ decimal-unsigned whole ds all)

plain_digits : (cs : List ℕ) → list_all is_ascii_digit cs ≡ true → unsigned cs ≡ cs
plain_digits [] all = refl
plain_digits (c ∷ cs) all = unsigned_is c cs (no_sign c (first_of _ _ all))

digits-no_decimals : (cs : List ℕ) → list_all is_ascii_digit cs ≡ true → decimals cs ≡ []
digits-no_decimals cs all =
    let at : position_or_len is_point cs ≡ length cs = ap (position_or_len is_point) (sym (append-nil cs)) ∙ point_behind cs [] all ∙ omega arith in
    ap (λ (u : List ℕ). drop (position_or_len is_point u + 1) u) (plain_digits cs all) ∙ ap (λ (n : ℕ). drop (n + 1) cs) at ∙ drop_whole cs

no_point_where : (b : Bool) → b ≡ true → not b ≡ true → ⊥
no_point_where true h k = cc
no_point_where false h k = cc

-- a number without a point has no decimals
pub number-no_decimals : (cs : List ℕ) → IsNumber cs → not (list_any is_point (encode_utf8_all cs)) ≡ true → decimals (encode_utf8_all cs) ≡ []
number-no_decimals cs (inl digits) h = ap decimals (encodes-IsAscii cs (all_ascii cs digits.1)) ∙ digits-no_decimals cs digits.1
number-no_decimals cs (inr (whole, ds, is, all, some)) h =
    absurd (no_point_where _ (ap (λ (t : List ℕ). list_any is_point (encode_utf8_all t)) is ∙ ap (list_any is_point) (decimal_bytes whole ds all some) ∙ has_point whole ds) h)
