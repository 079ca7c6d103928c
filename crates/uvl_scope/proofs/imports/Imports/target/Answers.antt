-- The target at the place of the qualifier.
use Rattle.std.proofs.Common.{◌≡◌, Some, None, slice_get, sym, ap, ◌∙◌}
use Rattle.std.specs.Prelude.{chars}
use Rattle.std.specs.Option.{option_and_then}
use Rattle.uvl_scope.proofs.Offering.{among_at}
use Rattle.uvl_scope.proofs.imports.Imports.target.Goals as goal

pub returns-in_err-number : goal.returns-in_err-number
returns-in_err-number c =
    let none : c.find.result ≡ None = c.in_err-number.was in
    c.from_residual.ensures ∙ ap (option_and_then (slice_get c.args.self.now.targets)) (sym none)
    ∙ among_at (chars c.args.qualifier.now) c.args.self.now.qualifiers c.args.self.now.targets c.find.result c.find.ensures.number

pub returns : goal.returns
returns c =
    let some : c.find.result ≡ Some c.in_ok-number.number = c.in_ok-number.was in
    c.copied.ensures ∙ c.get.ensures.value ∙ ap (option_and_then (slice_get c.args.self.now.targets)) (sym some)
    ∙ among_at (chars c.args.qualifier.now) c.args.self.now.qualifiers c.args.self.now.targets c.find.result c.find.ensures.number
