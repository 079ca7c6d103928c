-- Texts are compared by their characters.
use Rattle.std.proofs.Common.{◌≡◌, ℕ, List, sym, ap, ◌∙◌}
use Rattle.std.specs.Prelude.{IsUtf8, chars, encode_utf8_all}
use Rattle.std.specs.Str.{bytes_eq}
use Rattle.std.proofs.lemmas.Bool.Decides.{same_from_decides, Decides-like}
use Rattle.std.proofs.lemmas.Slice.Eq.{bytes_eq-Decides}
use Rattle.std.proofs.lemmas.Str.{encodes-chars}

-- two texts have equal bytes where they have equal characters
pub same_chars : (a b : List ℕ) → IsUtf8 a → IsUtf8 b → bytes_eq a b ≡ bytes_eq (chars a) (chars b)
same_chars a b utf8 utf8_b =
    let back : chars a ≡ chars b → a ≡ b = λ e. sym (encodes-chars a utf8) ∙ ap encode_utf8_all e ∙ encodes-chars b utf8_b in
    same_from_decides _ _ (bytes_eq-Decides a b) (Decides-like _ back (ap chars) (bytes_eq-Decides (chars a) (chars b)))
