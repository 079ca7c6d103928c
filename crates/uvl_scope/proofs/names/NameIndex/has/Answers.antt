-- The test among the keys is that among the names.
use Rattle.std.proofs.Common.{ap, ◌∙◌}
use Rattle.std.specs.Prelude.{chars}
use Rattle.uvl_semantics.specs.Product.{has}
use Rattle.uvl_scope.proofs.NameKeys.{has-names_of_keys}
use Rattle.uvl_scope.proofs.names.NameIndex.has.Goals as goal

pub returns : goal.returns
returns c =
    c.contains.ensures ∙ has-names_of_keys c.args.name.now c.utf8.name c.self.inside.names.keys ∙ ap (λ ns. has ns (chars c.args.name.now)) c.self.view_is
