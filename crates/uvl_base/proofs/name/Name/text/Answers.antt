-- An empty text reads as the blank name.
use Rattle.std.proofs.Common.{◌≡◌, ℕ, List, [], ◌∷◌, encode_utf8_all, true, length, ◌==◌, sym, ap, refl, ◌∙◌, arith}
use Rattle.std.proofs.lemmas.Str.{chars-nil}
use Rattle.std.specs.Str.{chars}
use lib.Utf8.{encode}
use Rattle.uvl_base.specs.Name.{characters_of}
use Rattle.uvl_base.proofs.name.Name.text.Goals as goal

no_bytes : (bytes : List ℕ) → true ≡ (length bytes == 0) → bytes ≡ []
no_bytes [] e = refl
no_bytes (b ∷ bytes) e = absurd (grind arith)

blank_characters : chars (95 ∷ []) ≡ 95 ∷ []
unfolding chars
blank_characters = refl

blank_bytes : encode_utf8_all (95 ∷ []) ≡ 95 ∷ []
unfolding encode
blank_bytes = refl

blank : (bytes text name : List ℕ) → true ≡ (length bytes == 0) → chars bytes ≡ text → characters_of text ≡ name
    → 95 ∷ [] ≡ name
blank bytes text name empty reads named =
    ap characters_of (sym chars-nil ∙ ap chars (sym (no_bytes bytes empty)) ∙ reads) ∙ named

pub returns-then-is_empty-clause-characters : goal.returns-then-is_empty-clause-characters
returns-then-is_empty-clause-characters c =
    blank_characters ∙ blank _ _ _ c.if-is_empty.ensures c.text-text.ensures.characters c.self.view_is

pub returns-then-is_empty-clause-bytes : goal.returns-then-is_empty-clause-bytes
returns-then-is_empty-clause-bytes c = sym blank_bytes
    ∙ ap encode_utf8_all (blank _ _ _ c.if-is_empty.ensures c.text-text.ensures.characters c.self.view_is)
