-- The next of a text's characters, and the text that follows it.
use Rattle.std.proofs.Common.{◌≡◌, List, ℕ, ◌++◌, sym, ap, ◌∙◌}
use Rattle.std.specs.Prelude.{encode_utf8}
use Rattle.std.proofs.lemmas.Str.{chars_past_char}
use Rattle.uvl_base.proofs.identifier.split_first.Goals as goal

pub returns : goal.returns
returns c =
    let first = c.in_ok-first.first in
    let spelled : c.args.text.now ≡ encode_utf8 first ++ c.as_str.result.now =
    sym c.chars-characters.ensures.rest ∙ c.in_ok-first.ensures.steps.0 ∙ ap (λ (r : List ℕ). encode_utf8 first ++ r) (sym c.as_str.ensures) in
    chars_past_char c.args.text.now c.as_str.result.now first c.utf8.text spelled
