-- A name with a text in front is a name.
use Rattle.std.proofs.Common.{◌≡◌, ◌++◌, List, ℕ, Err, string_bytes, sym, ap, ◌∙◌}
use Rattle.std.specs.Str.{chars}
use Rattle.std.proofs.lemmas.Bool.{false≢true}
use Rattle.std.proofs.lemmas.Str.{IsUtf8-string_bytes}
use Rattle.uvl_base.specs.Name.{is_name}
use Rattle.uvl_resolve.proofs.Texts.{pushed, longer_name}
use Rattle.uvl_resolve.proofs.name.name_behind.Goals as goal

pub returns-in-Ok : goal.returns-in-Ok
returns-in-Ok c =
    c.in-Ok.ensures.characters ∙ ap chars c.as_str.ensures.value
    ∙ pushed (string_bytes c.in_ok-whole.whole) (string_bytes c.push_str.new.self) c.text.result.now c.args.name.now (IsUtf8-string_bytes c.in_ok-whole.whole) c.in_ok-push_str.ensures.bytes c.text.ensures.characters
    ∙ ap (λ (xs : List ℕ). chars xs ++ c.args.name.now) c.in_ok-whole.ensures.ok

pub unreachable-requires : goal.unreachable-requires
unreachable-requires c =
    let whole : chars c.as_str.result.now ≡ chars c.args.text.now ++ c.args.name.now =
    ap chars c.as_str.ensures.value
    ∙ pushed (string_bytes c.in_ok-whole.whole) (string_bytes c.push_str.new.self) c.text.result.now c.args.name.now (IsUtf8-string_bytes c.in_ok-whole.whole) c.in_ok-push_str.ensures.bytes c.text.ensures.characters
    ∙ ap (λ (xs : List ℕ). chars xs ++ c.args.name.now) c.in_ok-whole.ensures.ok in
    let bad = c.new.ensures.bad_name.0 (c.in-Err-BadName.is ∙ ap Err c.in-Err-BadName.field-0-is) in
    false≢true (sym bad ∙ ap is_name whole ∙ longer_name (chars c.args.text.now) c.args.name.now c.requires c.text.ensures.name)
