-- A String holds UTF-8, so its bytes are those of its characters.
use Rattle.std.proofs.Common.{◌≡◌, List, ℕ, sym, ◌∙◌, subst}
use Rattle.std.specs.Prelude.{encode_utf8_all}
use Rattle.std.proofs.lemmas.Str.{encodes-chars, IsUtf8-string_bytes}
use Rattle.uvl_base.proofs.text.Text.text.Goals as goal

pub returns-clause-bytes : goal.returns-clause-bytes
returns-clause-bytes c =
    let of_characters = encodes-chars _ (IsUtf8-string_bytes c.self.inside.text) in
    subst (λ (t : List ℕ). c.as_str.result.now ≡ encode_utf8_all t) c.self.view_is (c.as_str.ensures.value ∙ sym of_characters)
