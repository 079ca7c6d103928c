-- How many characters and bytes a text has.
use Rattle.std.proofs.Common.{◌≡◌, ℕ, ◌≤◌, List, [], length, sym, ap, ◌∙◌, subst}
use Rattle.std.specs.Prelude.{IsUtf8, chars, encode_utf8_all}
use Rattle.std.proofs.lemmas.Str.{encodes-chars, length-le-encodes}

-- the bytes of a text's characters are its own
pub size_is : (bs : List ℕ) → IsUtf8 bs → length bs ≡ length (encode_utf8_all (chars bs))
size_is bs utf8 = ap length (sym (encodes-chars bs utf8))

-- no text has more characters than bytes
pub count_within : (bs : List ℕ) → IsUtf8 bs → length (chars bs) ≤ length bs
count_within bs utf8 = subst (λ (n : ℕ). length (chars bs) ≤ n) (sym (size_is bs utf8)) (length-le-encodes (chars bs))

-- a text without characters has no bytes
pub no_bytes : (bs : List ℕ) → IsUtf8 bs → chars bs ≡ [] → length bs ≡ 0
no_bytes bs utf8 none = size_is bs utf8 ∙ ap (λ (cs : List ℕ). length (encode_utf8_all cs)) none
