-- A name that stands behind the qualifier and a dot, or no such name.
use Rattle.std.proofs.Common.{◌∙◌, sym}
use Rattle.std.specs.Prelude.{chars}
use Rattle.uvl_scope.proofs.NamesUnder.{not_under, under_same}
use Rattle.uvl_scope.proofs.names.NameIndex.is_under.Goals as goal

pub returns-in-Some : goal.returns-in-Some
returns-in-Some c =
    c.has.ensures ∙ under_same (chars c.args.qualifier.now) (chars c.args.name.now) (chars c.in-Some.rest.now) c.args.self.now c.in-Some.ensures.some

pub returns-in-None : goal.returns-in-None
returns-in-None c = sym (not_under (chars c.args.qualifier.now) (chars c.args.name.now) c.args.self.now c.in-None.ensures.none)
