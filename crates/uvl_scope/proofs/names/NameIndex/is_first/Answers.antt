-- The first key is the first name.
use Rattle.std.proofs.Common.{sym, ap, ◌∙◌}
use Rattle.std.specs.Prelude.{chars}
use Rattle.std.specs.Str.{bytes_eq}
use Rattle.uvl_scope.specs.Brought.{has_root}
use Rattle.uvl_scope.proofs.NameKeys.{first_root}
use Rattle.uvl_scope.proofs.names.NameIndex.is_first.Goals as goal

pub returns-in-Some : goal.returns-in-Some
returns-in-Some c =
    c.is_same.ensures ∙ ap (λ text. bytes_eq (chars text) (chars c.args.name.now)) c.as_str.ensures.value
    ∙ sym (first_root c.self.inside.names.keys c.in-Some.first.now (chars c.args.name.now) c.in-Some.ensures.key)
    ∙ ap (has_root (chars c.args.name.now)) c.self.view_is
