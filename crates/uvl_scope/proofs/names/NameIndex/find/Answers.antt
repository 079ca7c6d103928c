-- The place of the name among the keys.
use Rattle.std.proofs.Common.{ap, ◌∙◌, position}
use Rattle.std.specs.Prelude.{chars}
use Rattle.std.specs.Str.{bytes_eq}
use Rattle.uvl_semantics.specs.Product.{has}
use Rattle.uvl_scope.proofs.NameKeys.{has-names_of_keys, position-names_of_keys}
use Rattle.uvl_scope.proofs.names.NameIndex.find.Goals as goal

pub returns-clause-number : goal.returns-clause-number
returns-clause-number c =
    c.get_index_of.ensures.index ∙ position-names_of_keys c.args.name.now c.utf8.name c.self.inside.names.keys
    ∙ ap (position (bytes_eq (chars c.args.name.now))) c.self.view_is

pub returns-clause-found : goal.returns-clause-found
returns-clause-found c =
    c.get_index_of.ensures.found ∙ has-names_of_keys c.args.name.now c.utf8.name c.self.inside.names.keys
    ∙ ap (λ ns. has ns (chars c.args.name.now)) c.self.view_is
