-- The test among the paths is that among their bytes.
use Rattle.std.proofs.Common.{ap, ◌∙◌, string_bytes}
use Rattle.std.specs.List.{list_any}
use Rattle.std.specs.Str.{bytes_eq}
use Rattle.uvl_imports.specs.Texts.{has}
use Rattle.uvl_imports.proofs.TextKeys.{has-texts_of}
use Rattle.uvl_imports.proofs.way.Way.has.Goals as goal

pub returns : goal.returns
returns c =
    c.is_among.ensures ∙ ap (λ paths. list_any (λ other. bytes_eq c.args.path.now (string_bytes other)) paths) c.deref.ensures.value
    ∙ has-texts_of c.args.path.now c.self.inside.paths.items ∙ ap (λ w. has w c.args.path.now) c.self.view_is
