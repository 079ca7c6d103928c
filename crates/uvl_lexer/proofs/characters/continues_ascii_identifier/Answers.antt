-- The characters of ASCII that go on an identifier.
use Rattle.std.proofs.Common.{Bool, ◌||◌, sym, ap, ◌∙◌}
use Rattle.uvl_lexer.specs.steps.Bytes.{is_identifier_sign}
use Rattle.uvl_lexer.proofs.AsciiFronts.{continues_is}
use Rattle.uvl_lexer.proofs.characters.continues_ascii_identifier.Goals as goal

pub returns-then-is_ascii_alphanumeric : goal.returns-then-is_ascii_alphanumeric
returns-then-is_ascii_alphanumeric c =
    let b = c.args.byte in
    c.if-is_ascii_alphanumeric.true
    ∙ sym (continues_is b c.requires ∙ ap (λ (x : Bool). x || is_identifier_sign b) (sym c.is_ascii_alphanumeric.ensures.value ∙ c.if-is_ascii_alphanumeric.true))

pub returns-else-is_ascii_alphanumeric : goal.returns-else-is_ascii_alphanumeric
returns-else-is_ascii_alphanumeric c =
    let b = c.args.byte in
    c.is_identifier_sign.ensures
    ∙ sym (continues_is b c.requires ∙ ap (λ (x : Bool). x || is_identifier_sign b) (sym c.is_ascii_alphanumeric.ensures.value ∙ c.if-is_ascii_alphanumeric.false))
